-- Slices of a sample give together what all their runs give.
use Rattle.std.proofs.Common.{◌≡◌, ◌∙◌, ℕ, List, [], ◌∷◌, ◌++◌, fold, map, sym, ap}
use Rattle.std.proofs.lemmas.List.{append-nil, append_assoc}
use Rattle.std.specs.List.{AllZip, concat}
use Rattle.cheri_model.specs.runs.Image.{ImageParts}
use Rattle.explore_properties.specs.Properties.{PropertyParts}
use Rattle.sample_checks.specs.Checks.{decided_in, either_each}
use Rattle.sample_checks.proofs.DecidedLemmas.{in_more}
use Rattle.sample_draws.specs.Drawings.{DrawingParts}
use Rattle.sample_slices.specs.Slices.{SliceParts}
use Rattle.sample_tallies.specs.Tallies.{TallyParts, add, tally}
use Rattle.sample_tallies.specs.declared.seen.Seen.{Seen}
use Rattle.sample_tallies.proofs.TallyLemmas.{slices_sum}
use Rattle.sample_texts.specs.declared.spans.Span.{Span}
use Rattle.sample_merges.specs.Merged.{AreNumbersOf, GivesRuns, IsSliceOfAll, sum_of}
use Rattle.sample_merges.proofs.SpanLaws.{spans_unique}
use Rattle.std.specs.Prelude.{Option}

module _ (image : ImageParts) (drawing : DrawingParts) (properties : List PropertyParts) where
  sums : (rest : List SliceParts) (more : List (List ℕ)) (total : TallyParts) (runs : List ℕ) → total ≡ tally image drawing runs
      → AllZip (GivesRuns image drawing properties) rest more
      → fold add total (map (λ (s : SliceParts). s.sum) rest) ≡ tally image drawing (runs ++ concat more)
  sums [] [] total runs is all = is ∙ ap (tally image drawing) (sym (append-nil runs))
  sums [] (r ∷ more) total runs is all = absurd all
  sums (s ∷ rest) [] total runs is all = absurd all
  sums (s ∷ rest) (r ∷ more) total runs is all =
      let next : add total s.sum ≡ tally image drawing (runs ++ r) =
      ap (λ (t : TallyParts). add t s.sum) is
      ∙ (ap (add (tally image drawing runs)) all.0.sum ∙ sym (slices_sum image drawing runs r)) in
      sums rest more (add total s.sum) (runs ++ r) next all.1 ∙ ap (tally image drawing) (append_assoc runs r (concat more))

  decisions : (rest : List SliceParts) (more : List (List ℕ)) (total : List (Option Seen)) (runs : List ℕ)
      → total ≡ decided_in image drawing properties runs → AllZip (GivesRuns image drawing properties) rest more
      → fold either_each total (map (λ (s : SliceParts). s.decided) rest) ≡ decided_in image drawing properties (runs ++ concat more)
  decisions [] [] total runs is all = is ∙ ap (decided_in image drawing properties) (sym (append-nil runs))
  decisions [] (r ∷ more) total runs is all = absurd all
  decisions (s ∷ rest) [] total runs is all = absurd all
  decisions (s ∷ rest) (r ∷ more) total runs is all =
      let next : either_each total s.decided ≡ decided_in image drawing properties (runs ++ r) =
      ap (λ (t : List (Option Seen)). either_each t s.decided) is
      ∙ (ap (either_each (decided_in image drawing properties runs)) all.0.decided
      ∙ sym (in_more image drawing properties runs r)) in
      decisions rest more (either_each total s.decided) (runs ++ r) next all.1
      ∙ ap (decided_in image drawing properties) (append_assoc runs r (concat more))

pub slices_give : (image : ImageParts) (drawing : DrawingParts) (properties : List PropertyParts) (first : SliceParts) (rest : List SliceParts)
    (numbers : List Span) (runs : List ℕ) (more : List (List ℕ)) → GivesRuns image drawing properties first runs
    → AllZip (GivesRuns image drawing properties) rest more
    → GivesRuns image drawing properties (sum_of first rest numbers) (runs ++ concat more)
unfolding sum_of
slices_give image drawing properties first rest numbers runs more given all = record {
  sum = sums image drawing properties rest more first.sum runs given.sum all;
  decided = decisions image drawing properties rest more first.decided runs given.decided all;
}

-- ---- one slice

-- what the sum has of the first slice
record IsOfFirst (first whole : SliceParts) : Type 0 where
  harts : whole.harts ≡ first.harts
  granules : whole.granules ≡ first.granules
  drawing : whole.drawing ≡ first.drawing
  items : whole.items ≡ first.items
  is_checked : whole.is_checked ≡ first.is_checked

of_first : (first : SliceParts) (rest : List SliceParts) (whole : SliceParts) → whole ≡ sum_of first rest whole.numbers → IsOfFirst first whole
unfolding sum_of
of_first first rest whole is = record {
  harts = ap (λ (s : SliceParts). s.harts) is;
  granules = ap (λ (s : SliceParts). s.granules) is;
  drawing = ap (λ (s : SliceParts). s.drawing) is;
  items = ap (λ (s : SliceParts). s.items) is;
  is_checked = ap (λ (s : SliceParts). s.is_checked) is;
}

same_numbers : (slices : List SliceParts) (one other : List Span) → AreNumbersOf slices one → AreNumbersOf slices other → one ≡ other
same_numbers slices one other a b =
    spans_unique 0 0 one other a.spans b.spans
    (λ run. (λ h. (b.runs run).1 ((a.runs run).0 h), λ h. (a.runs run).1 ((b.runs run).0 h)))

pub one_slice : (image : ImageParts) (drawing : DrawingParts) (properties : List PropertyParts) (first : SliceParts) (rest : List SliceParts)
    (whole one : SliceParts) (runs : List ℕ) (more : List (List ℕ)) → GivesRuns image drawing properties first runs
    → AllZip (GivesRuns image drawing properties) rest more → whole ≡ sum_of first rest whole.numbers
    → AreNumbersOf (first ∷ rest) whole.numbers → IsSliceOfAll image drawing properties first rest (runs ++ concat more) one → whole ≡ one
one_slice image drawing properties first rest whole one runs more given all is numbers of_all =
    let mine = of_first first rest whole is in
    let gives = slices_give image drawing properties first rest whole.numbers runs more given all in
    let harts = mine.harts ∙ sym of_all.harts in
    let granules = mine.granules ∙ sym of_all.granules in
    let drawings = mine.drawing ∙ sym of_all.same.drawing in
    let items = mine.items ∙ sym of_all.same.items in
    let spans = same_numbers (first ∷ rest) whole.numbers one.numbers numbers of_all.numbers in
    let sum = ap (λ (s : SliceParts). s.sum) is ∙ (gives.sum ∙ sym of_all.gives.sum) in
    let decided = ap (λ (s : SliceParts). s.decided) is ∙ (gives.decided ∙ sym of_all.gives.decided) in
    let checked = mine.is_checked ∙ sym of_all.same.is_checked in
    λ i. record {
      harts = harts i;
      granules = granules i;
      drawing = drawings i;
      items = items i;
      numbers = spans i;
      sum = sum i;
      decided = decided i;
      is_checked = checked i;
    }
