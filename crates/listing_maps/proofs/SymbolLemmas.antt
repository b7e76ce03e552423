-- The symbols of a list of sources, as the sources of a reader are looked through.
use Rattle.std.proofs.Common.{◌≡◌, ℕ, ◌+◌, Bool, true, false, not, cond, nat_lt, List, [], ◌∷◌, map, drop, Option, Some, None, refl, sym, ap, ap₂, ◌∙◌}
use Rattle.std.specs.Prelude.{option_and_then, position, ◌||◌}
use Rattle.std.specs.List.{list_any, position_or_len, drop-map}
use Rattle.std.proofs.lemmas.List.{length-map}
use Rattle.asm_map_reader.specs.Sources.{source_parts}
use Rattle.asm_map_reader.specs.declared.source.Source.{Source}
use Rattle.listing_maps.specs.Symbols.{is_at, symbol_place, where_alone}

module _ {X Y : Type 0} (f : X → Y) (p : Y → Bool) where
  place_in : (xs : List X) → position_or_len p (map f xs) ≡ position_or_len (λ x. p (f x)) xs
  place_in [] = refl
  place_in (x ∷ xs) = ap (λ (n : ℕ). cond (not (p (f x))) (1 + n) 0) (place_in xs)

  pub position_in : (xs : List X) → position p (map f xs) ≡ position (λ x. p (f x)) xs
  position_in xs =
      ap₂ (λ (n m : ℕ). cond (nat_lt n m) (Some n) None) (place_in xs) (length-map xs f)

  any_in : (xs : List X) → list_any p (map f xs) ≡ list_any (λ x. p (f x)) xs
  any_in [] = refl
  any_in (x ∷ xs) = ap (λ (b : Bool). p (f x) || b) (any_in xs)

  pub any_after : (n : ℕ) (xs : List X) → list_any p (drop n (map f xs)) ≡ list_any (λ x. p (f x)) (drop n xs)
  any_after n xs = ap (list_any p) (drop-map f n xs) ∙ any_in (drop n xs)

-- the place of a symbol, by what was found
module _ (name : List ℕ) (sources : List Source) where
  abbrev test : Source → Bool
  test source = is_at name (source_parts source)

  meant : (place : Option ℕ) → place ≡ position test sources
      → symbol_place name (map source_parts sources) ≡ option_and_then (where_alone name (map source_parts sources)) place
  unfolding symbol_place
  meant place is =
      ap (option_and_then (where_alone name (map source_parts sources))) (position_in source_parts (is_at name) sources ∙ sym is)

  alone : (first : ℕ) (later : Bool) → later ≡ list_any test (drop (first + 1) sources)
      → where_alone name (map source_parts sources) first ≡ cond later None (Some first)
  alone first later is = ap (λ (b : Bool). cond b None (Some first)) (any_after source_parts (is_at name) (first + 1) sources ∙ sym is)

  pub no_place : None ≡ position test sources → None ≡ symbol_place name (map source_parts sources)
  no_place is = sym (meant None is)

  pub another_place : (first : ℕ) → Some first ≡ position test sources → true ≡ list_any test (drop (first + 1) sources)
      → None ≡ symbol_place name (map source_parts sources)
  another_place first is later = sym (meant (Some first) is ∙ alone first true later)

  pub one_place : (first : ℕ) → Some first ≡ position test sources → false ≡ list_any test (drop (first + 1) sources)
      → Some first ≡ symbol_place name (map source_parts sources)
  one_place first is later = sym (meant (Some first) is ∙ alone first false later)

pub ruleset symbols = (no_place, another_place, one_place)
