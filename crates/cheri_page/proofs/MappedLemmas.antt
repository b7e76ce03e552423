-- What is told of a run by a map, from what was read of a listing and of a map.
use Rattle.std.proofs.Common.{◌≡◌, ℕ, List, [], ◌∷◌, map, refl, ap, sym, subst, ◌∙◌, inl, inr}
use Rattle.std.specs.Prelude.{◌⊎◌, Result, Ok, Err, Some}
use Rattle.cheri_model.specs.runs.Image.{ImageParts}
use Rattle.listings.specs.declared.fault.ListingFault.{ListingFault}
use Rattle.listings.specs.Faults.{no_memory}
use Rattle.listings.specs.Meaning.{listing_meaning}
use Rattle.asm_map_reader.specs.declared.source.Source.{Source}
use Rattle.asm_map_reader.specs.declared.draft.Counts.{Counts}
use Rattle.asm_map_reader.specs.Reading.{map_meaning}
use Rattle.asm_map_reader.specs.Sources.{SourceParts, source_parts, source_text}
use Rattle.explanations.specs.InstructionLines.{shown_source}
use Rattle.explanations.specs.ExplainedRuns.{mapped}
use Rattle.explanations.specs.declared.runs.Format.TheVariants as formats
use Rattle.explanations.specs.declared.selection.Filter.TheVariants as filters
use Rattle.cheri_page.specs.declared.answer.Answer.{Answer}
use Rattle.cheri_page.specs.declared.fault.Fault.{Fault}
use Rattle.cheri_page.specs.declared.fault.Fault.TheVariants.{NoMemory, Map}
use Rattle.cheri_page.specs.Answers.{Told, Answers, IsTold}
use Rattle.cheri_page.specs.Faults.{listing_fault}
use Rattle.cheri_page.specs.Runs.{IsRunTold}
use Rattle.cheri_page.specs.Mapped.{GivesSources, IsMappedTold, IsSourcedRun, counts_of, shown_by, shown_of, sources_meant}
use Rattle.cheri_page.proofs.RunLemmas.{says_more}

-- ---- what a map says

texts_of : (sources : List Source) → map source_text (map source_parts sources) ≡ map shown_source sources
texts_of [] = refl
texts_of (source ∷ sources) = ap (λ (texts : List (List ℕ)). source_text (source_parts source) ∷ texts) (texts_of sources)

-- a listing that is refused
pub listing_refused : (listing bytes : List ℕ) (fault : ListingFault) (told : Fault) → told ≡ listing_fault fault
    → (fault ≡ no_memory) ⊎ (listing_meaning listing ≡ Err fault) → GivesSources (Err told) (sources_meant listing bytes)
unfolding sources_meant
listing_refused listing bytes fault told is (inl none) = inl (is ∙ ap listing_fault none)
listing_refused listing bytes fault told is (inr meaning) =
    inr (ap (shown_by bytes) meaning ∙ ap (λ (f : Fault). Err f) (sym is))

-- what a map says of an image
meant : (listing bytes : List ℕ) (image : ImageParts) (counts : Counts) (meaning : Result (List SourceParts) ℕ)
    → listing_meaning listing ≡ Ok image → counts ≡ counts_of image → map_meaning counts bytes ≡ meaning
    → sources_meant listing bytes ≡ shown_of meaning
unfolding sources_meant
meant listing bytes image counts meaning means is read =
    ap (shown_by bytes) means
    ∙ (ap (λ (c : Counts). shown_of (map_meaning c bytes)) (sym is) ∙ ap shown_of read)

pub sources_read : (listing bytes : List ℕ) (image : ImageParts) (counts : Counts) (sources : List Source)
    → listing_meaning listing ≡ Ok image → counts ≡ counts_of image → map_meaning counts bytes ≡ Ok (map source_parts sources)
    → sources_meant listing bytes ≡ Ok (map shown_source sources)
sources_read listing bytes image counts sources means is read =
    meant listing bytes image counts (Ok (map source_parts sources)) means is read
    ∙ ap (λ (texts : List (List ℕ)). Ok texts) (texts_of sources)

pub map_refused : (listing bytes : List ℕ) (image : ImageParts) (counts : Counts) (line : ℕ)
    → listing_meaning listing ≡ Ok image → counts ≡ counts_of image → map_meaning counts bytes ≡ Err line
    → sources_meant listing bytes ≡ Err (Map line)
map_refused listing bytes image counts line means is read = meant listing bytes image counts (Err line) means is read

-- ---- what is told

module _ (listing order bytes : List ℕ) (first last : ℕ) (old new : List ℕ) (answer : Answer) where
  sourced_so : (fault : Fault) (told : Told) → (fault ≡ NoMemory) ⊎ (sources_meant listing bytes ≡ Err fault)
      → IsTold (record { text = []; fault = Some fault }) told → IsMappedTold listing order bytes first last told
  sourced_so fault told means (inl none) = inl none
  sourced_so fault told (inl none) (inr is) = inl (is ∙ ap (λ (f : Fault). record { text = []; fault = Some f }) none)
  sourced_so fault told (inr means) (inr is) =
      inr (subst (λ (s : Result (List (List ℕ)) Fault). IsSourcedRun s listing order first last told) (sym means) is)

  pub sources_refused : (fault : Fault) → (fault ≡ NoMemory) ⊎ (sources_meant listing bytes ≡ Err fault)
      → Answers (IsTold (record { text = []; fault = Some fault })) old new answer
      → Answers (IsMappedTold listing order bytes first last) old new answer
  sources_refused fault means said = says_more _ _ old new answer (λ told is. sourced_so fault told means is) said

  pub run_sourced : (sources shown : List (List ℕ)) → sources_meant listing bytes ≡ Ok sources → shown ≡ sources
      → Answers (IsRunTold (mapped formats.Text (Some shown) listing (record { first = first; last = last; filter = filters.All })) listing order) old new answer
      → Answers (IsMappedTold listing order bytes first last) old new answer
  run_sourced sources shown means same said =
      says_more _ _ old new answer
      (λ told is. inr (subst (λ (s : Result (List (List ℕ)) Fault). IsSourcedRun s listing order first last told) (sym means)
      (subst (λ (s : List (List ℕ)). IsRunTold (mapped formats.Text (Some s) listing (record { first = first; last = last; filter = filters.All })) listing order told) same is)))
      said

pub ruleset maps = (listing_refused, sources_read, map_refused, sources_refused, run_sourced)
