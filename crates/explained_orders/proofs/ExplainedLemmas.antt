-- Orders that are explained, one by one.
use Rattle.std.proofs.Common.{refl, map, Option, Some, None, ◌≡◌, ℕ, ◌+◌, ◌<◌, ◌≤◌, List, [], ◌∷◌, ◌++◌, length, drop, sym, ap, ◌∙◌, add-one, drop-cons, append_assoc, append-nil}
use Rattle.std.specs.Prelude.{slice_index_or, Vec}
use Rattle.std.specs.Global.{Global}
use Rattle.std.proofs.Math.ListN.{drop_of_length-le}
use Rattle.std.specs.Borrow.{Bor}
use Rattle.std.specs.Prelude.{option_map}
use Rattle.asm_map_reader.specs.declared.source.Source.{Source}
use Rattle.asm_map_reader.specs.Sources.{source_parts, source_text}
use Rattle.cheri_model.specs.declared.operation.Op.{Op}
use Rattle.cheri_model.specs.runs.Image.{ImageParts}
use Rattle.explained_orders.specs.ExplainedOrders.{Sources, explained_order, explained_orders}
use Rattle.explanations.specs.InstructionLines.{shown_source, shown_sources}
use Rattle.listing_maps.specs.Names.{sources_parts}
use Rattle.order_texts.specs.OrderTexts.{orders_of}

module _ (listing : List ℕ) (sources : Sources) (image : ImageParts) (list : List (Vec Op Global)) (i : ℕ) where
  left : (d : Vec Op Global) → i < length list → drop i list ≡ slice_index_or list i d ∷ drop (i + 1) list
  left d within = rw add-one (drop-cons list i d within)

  -- those that are left are the next one and the others
  next : (d : Vec Op Global) → i < length list → explained_orders listing sources image (orders_of (drop i list))
      ≡ explained_order listing sources image (slice_index_or list i d).items ++ explained_orders listing sources image (orders_of (drop (i + 1) list))
  unfolding explained_orders
  next d within = ap (λ vs. explained_orders listing sources image (orders_of vs)) (left d within)

  pub explained_step : (d : Vec Op Global) → i < length list → (old new all : List ℕ)
      → new ≡ old ++ explained_order listing sources image (slice_index_or list i d).items
      → old ++ explained_orders listing sources image (orders_of (drop i list)) ≡ all
      → new ++ explained_orders listing sources image (orders_of (drop (i + 1) list)) ≡ all
  explained_step d within old new all is so =
      ap (λ bs. bs ++ explained_orders listing sources image (orders_of (drop (i + 1) list))) is
      ∙ append_assoc old (explained_order listing sources image (slice_index_or list i d).items) (explained_orders listing sources image (orders_of (drop (i + 1) list)))
      ∙ ap (λ bs. old ++ bs) (sym (next d within)) ∙ so

  pub explained_end : length list ≤ i → (bytes all : List ℕ) → bytes ++ explained_orders listing sources image (orders_of (drop i list)) ≡ all → bytes ≡ all
  unfolding explained_orders
  explained_end past bytes all so =
      sym (append-nil bytes) ∙ ap (λ vs. bytes ++ explained_orders listing sources image (orders_of vs)) (sym (drop_of_length-le list past)) ∙ so

-- sources are shown by their parts
texts_of : (sources : List Source) → map source_text (map source_parts sources) ≡ map shown_source sources
texts_of [] = refl
texts_of (source ∷ sources) = ap (λ (texts : List (List ℕ)). source_text (source_parts source) ∷ texts) (texts_of sources)

pub shown_are : (sources : Option (Bor (List Source))) → option_map (map source_text) (option_map sources_parts sources) ≡ option_map shown_sources sources
shown_are None = refl
shown_are (Some sources) = ap Some (texts_of sources.now)
