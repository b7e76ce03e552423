-- Slices that go together, and one more.
use Rattle.std.proofs.Common.{◌≡◌, ℕ, ◌+◌, ◌<◌, ◌≤◌, zero, suc, List, [], ◌∷◌, ◌++◌, length, map, get_or, take, refl, sym, ap, ◌∙◌, subst, inl, inr, arith, Ok, Err, Result, Bor}
use Rattle.std.proofs.lemmas.Grind.{flat_map-append, take_at_read}
use Rattle.std.proofs.lemmas.List.{append-nil, length-map, map-append, take_all}
use Rattle.std.proofs.lemmas.Option.{get_or_from_slice_get, slice_get_within}
use Rattle.std.proofs.lemmas.List.Elements.{All-nil, All-push}
use Rattle.std.proofs.lemmas.List.Quantifiers.{all_pairs_push}
use Rattle.std.proofs.lemmas.List.Sums.{fold-append}
use Rattle.std.specs.List.{AllPairs, AllZip}
use Rattle.std.specs.Prelude.{◌⊎◌, IfOk, Option, Some, slice_get}
use Rattle.sample_checks.specs.Checks.{either_each}
use Rattle.sample_slices.specs.Lines.{IsLineRead, IsSlice}
use Rattle.sample_slices.specs.Slices.{Fits, ListingParts, SliceParts, asked, looked_at, plus}
use Rattle.sample_slices.specs.declared.fault.LineFault.{LineFault}
use Rattle.sample_slices.specs.declared.fault.LineFault.TheVariants as line_faults
use Rattle.sample_slices.specs.declared.fault.SliceKind.TheVariants.{Form, Other, Twice}
use Rattle.sample_draws.specs.Drawings.{DrawingParts}
use Rattle.sample_tallies.specs.Tallies.{add}
use Rattle.sample_tallies.specs.declared.seen.Seen.{Seen}
use Rattle.sample_texts.specs.declared.spans.Span.{Span}
use Rattle.sample_merges.specs.Merged.{AreApart, AreMerged, AreNumbersOf, AskTheSame, FirstRefused, numbers_of, sum_of}
use Rattle.sample_merges.specs.Spans.{AreSpans, HasRun, IsJoined}
use Rattle.sample_merges.specs.Steps.{AddsLine, AddsSlice, IsAdded, IsFirst, refused_at, refused_line}
use Rattle.sample_merges.specs.declared.refused.Refused.{Refused}
use Rattle.sample_merges.specs.declared.refused.Refused.TheVariants.{As, NoMemory}
use Rattle.sample_merges.proofs.NumberLemmas.{slice_spans}
use Rattle.sample_merges.proofs.SpanLemmas.{has_left, has_right, of_both}

-- ---- lists

pub all_zip_push : {A B : Type 0} (R : A → B → Type 0) (xs : List A) (ys : List B) (x : A) (y : B) → AllZip R xs ys → R x y
    → AllZip R (xs ++ x ∷ []) (ys ++ y ∷ [])
all_zip_push R [] [] x y all one = (one, tt)
all_zip_push R [] (b ∷ ys) x y all one = absurd all
all_zip_push R (a ∷ xs) [] x y all one = absurd all
all_zip_push R (a ∷ xs) (b ∷ ys) x y all one = (all.0, all_zip_push R xs ys x y all.1 one)

numbers-push : (slices : List SliceParts) (slice : SliceParts) → numbers_of (slices ++ slice ∷ []) ≡ numbers_of slices ++ slice.numbers
numbers-push slices slice =
    flat_map-append (λ (s : SliceParts). s.numbers) slices (slice ∷ []) ∙ ap (λ (n : List Span). numbers_of slices ++ n) (append-nil slice.numbers)

-- a slice's runs are among those of all
among : (slices : List SliceParts) (k : ℕ) (d : SliceParts) (run : ℕ) → k < length slices → HasRun (get_or slices k d).numbers run
    → HasRun (numbers_of slices) run
among [] k d run inside has = absurd (omega arith)
among (s ∷ slices) zero d run inside has = has_left s.numbers (numbers_of slices) run has
among (s ∷ slices) (suc k) d run inside has =
    has_right s.numbers (numbers_of slices) run (among slices k d run (omega arith) has)

-- the first lines, with one more
take_with : {A : Type 0} (xs : List A) (i : ℕ) (x : A) → slice_get xs i ≡ Some x → take (i + 1) xs ≡ take i xs ++ x ∷ []
take_with {A} xs i x there =
    (take_at_read xs i x (slice_get_within xs i x there)).1
    ∙ ap (λ (y : A). take i xs ++ y ∷ []) (get_or_from_slice_get xs i x x there)

-- ---- what is asked

same_of : (first : SliceParts) (rest : List SliceParts) (whole slice : SliceParts) → whole ≡ sum_of first rest whole.numbers
    → AskTheSame whole slice → AskTheSame first slice
unfolding sum_of
same_of first rest whole slice sum same = record {
  drawing = same.drawing ∙ ap (λ (s : SliceParts). s.drawing) sum;
  items = same.items ∙ ap (λ (s : SliceParts). s.items) sum;
  is_checked = same.is_checked ∙ ap (λ (s : SliceParts). s.is_checked) sum;
}

-- ---- sums

sum-push : (first : SliceParts) (rest : List SliceParts) (slice : SliceParts) (before numbers : List Span)
    → plus (sum_of first rest before) slice numbers ≡ sum_of first (rest ++ slice ∷ []) numbers
unfolding sum_of plus
sum-push first rest slice before numbers =
    let sums = map-append (λ (s : SliceParts). s.sum) rest (slice ∷ []) in
    let decided = map-append (λ (s : SliceParts). s.decided) rest (slice ∷ []) in
    rw (
      sums,
      decided,
      fold-append add first.sum (map (λ (s : SliceParts). s.sum) rest) (slice.sum ∷ []),
      fold-append either_each first.decided (map (λ (s : SliceParts). s.decided) rest) (slice.decided ∷ []),
    ) refl

sum_more : (first : SliceParts) (rest : List SliceParts) (whole slice both : SliceParts) → whole ≡ sum_of first rest whole.numbers
    → both ≡ plus whole slice both.numbers → both ≡ sum_of first (rest ++ slice ∷ []) both.numbers
sum_more first rest whole slice both sum more =
    more ∙ (ap (λ (w : SliceParts). plus w slice both.numbers) sum ∙ sum-push first rest slice whole.numbers both.numbers)

-- ---- numbers

numbers_more : (slices : List SliceParts) (slice : SliceParts) (before after : List Span) → AreNumbersOf slices before
    → IsJoined before slice.numbers after → AreNumbersOf (slices ++ slice ∷ []) after
numbers_more slices slice before after are joined = record {
  spans = joined.spans;
  runs = λ run. (
    λ h. rw numbers-push (elim ((joined.runs run).0 h) as (λ _. HasRun (numbers_of slices ++ slice.numbers) run) [
      | inl b ↦ has_left (numbers_of slices) slice.numbers run ((are.runs run).0 b)
      | inr s ↦ has_right (numbers_of slices) slice.numbers run s
    ]),
    λ h. (joined.runs run).1 (elim (of_both (numbers_of slices) slice.numbers run (rw numbers-push at h)) as (λ _. HasRun before run ⊎ HasRun slice.numbers run) [
      | inl b ↦ inl ((are.runs run).1 b)
      | inr s ↦ inr s
    ]),
  );
}

-- ---- one line more

pub merged_more : (listing : ListingParts) (lines : List (List ℕ)) (line : List ℕ) (whole slice both : SliceParts)
    → AreMerged listing lines whole → IsSlice listing line slice → IsAdded whole slice both → AreMerged listing (lines ++ line ∷ []) both
merged_more listing lines line whole slice both are is added = record {
  first = are.first;
  rest = are.rest ++ slice ∷ [];
  are_slices = all_zip_push (IsSlice listing) lines (are.first ∷ are.rest) line slice are.are_slices is;
  same = All-push (AskTheSame are.first) are.rest slice are.same (same_of are.first are.rest whole slice are.sum added.same);
  apart = all_pairs_push AreApart (are.first ∷ are.rest) slice are.apart
      (λ k d inside run has more.
      added.numbers.apart run ((are.numbers.runs run).1 (among (are.first ∷ are.rest) k d run inside has)) more);
  numbers = numbers_more (are.first ∷ are.rest) slice whole.numbers both.numbers are.numbers added.numbers;
  sum = sum_more are.first are.rest whole slice both are.sum added.sum;
}

-- ---- the first line

single_sum : (slice : SliceParts) → slice ≡ sum_of slice [] slice.numbers
unfolding sum_of
single_sum slice = refl

single_numbers : (slice : SliceParts) → AreSpans slice.numbers → AreNumbersOf (slice ∷ []) slice.numbers
single_numbers slice spans = record {
  spans = spans;
  runs = λ run. (λ h. rw append-nil h, λ h. rw append-nil at h);
}

single_apart : (slice : SliceParts) → AllPairs AreApart (slice ∷ [])
single_apart slice i j d before inside = absurd (omega arith)

pub merged_first : (listing : ListingParts) (lines : List (List ℕ)) (slice : SliceParts) → AreSpans slice.numbers → IsFirst listing lines slice
    → AreMerged listing (take 1 lines) slice
merged_first listing [] slice spans is = absurd is
merged_first listing (line ∷ lines) slice spans is = record {
  first = slice;
  rest = [];
  are_slices = (is, tt);
  same = All-nil (AskTheSame slice);
  apart = single_apart slice;
  numbers = single_numbers slice spans;
  sum = single_sum slice;
}

-- ---- a slice more

pub is_added : (whole slice both : SliceParts) (numbers : List Span) → AskTheSame whole slice → IsJoined whole.numbers slice.numbers numbers
    → both ≡ plus whole slice numbers → IsAdded whole slice both
unfolding plus
is_added whole slice both numbers same joined sum =
    let is : both.numbers ≡ numbers = ap (λ (s : SliceParts). s.numbers) sum in
    record {
      same = same;
      numbers = subst (λ (n : List Span). IsJoined whole.numbers slice.numbers n) (sym is) joined;
      sum = sum ∙ ap (λ (n : List Span). plus whole slice n) (sym is);
    }

pub same_drawing : (one other : DrawingParts) → other.seed ≡ one.seed → other.length ≡ one.length → other.depth ≡ one.depth
    → other.sweeps ≡ one.sweeps → other ≡ one
same_drawing one other seed length depth sweeps =
    λ i. record { seed = seed i; length = length i; depth = depth i; sweeps = sweeps i }

-- ---- it fits

length-either : (ones others : List (Option Seen)) → length others ≡ length ones → length (either_each ones others) ≡ length ones
unfolding either_each
length-either [] others same = refl
length-either (one ∷ ones) [] same = absurd (omega arith)
length-either (one ∷ ones) (other ∷ others) same =
    let less : length others ≡ length ones = omega arith in
    ap suc (length-either ones others less)

pub record IsPlus (whole slice both : SliceParts) : Type 0 where
  pub harts : both.harts ≡ whole.harts
  pub granules : both.granules ≡ whole.granules
  pub items : both.items ≡ whole.items
  pub is_checked : both.is_checked ≡ whole.is_checked
  pub decided : both.decided ≡ either_each whole.decided slice.decided

is_plus : (whole slice both : SliceParts) → both ≡ plus whole slice both.numbers → IsPlus whole slice both
unfolding plus
is_plus whole slice both is = record {
  harts = ap (λ (s : SliceParts). s.harts) is;
  granules = ap (λ (s : SliceParts). s.granules) is;
  items = ap (λ (s : SliceParts). s.items) is;
  is_checked = ap (λ (s : SliceParts). s.is_checked) is;
  decided = ap (λ (s : SliceParts). s.decided) is;
}

pub fits_more : (listing : ListingParts) (whole slice both : SliceParts) → Fits listing whole → Fits listing slice → IsAdded whole slice both
    → Fits listing both
fits_more listing whole slice both fits slice_fits added =
    let is = is_plus whole slice both added.sum in
    let count : length slice.decided ≡ length whole.decided =
    slice_fits.decided ∙ (ap (λ b. length (asked (looked_at listing.properties b))) added.same.is_checked ∙ sym fits.decided) in
    record {
      harts = is.harts ∙ fits.harts;
      granules = is.granules ∙ fits.granules;
      decided = ap length is.decided ∙ (length-either whole.decided slice.decided count
          ∙ (fits.decided ∙ ap (λ b. length (asked (looked_at listing.properties b))) (sym is.is_checked)));
      items = rw is.items fits.items;
    }

-- as many properties are known of both, where they are looked at in both
pub as_many : (listing : ListingParts) (whole slice : SliceParts) → Fits listing whole → Fits listing slice
    → slice.is_checked ≡ whole.is_checked → length slice.decided ≡ length whole.decided
as_many listing whole slice fits slice_fits same =
    slice_fits.decided ∙ (ap (λ b. length (asked (looked_at listing.properties b))) same ∙ sym fits.decided)

-- ---- a line is added, or refused

pub adds_line : (listing : ListingParts) (whole : SliceParts) (line : List ℕ) (slice : SliceParts) (result : Result SliceParts Refused)
    → IsSlice listing line slice → AddsSlice whole slice result → AddsLine listing whole line result
adds_line listing whole line slice (Ok both) is adds = (slice, is, adds)
adds_line listing whole line slice (Err (As Form)) is adds = absurd adds
adds_line listing whole line slice (Err (As Other)) is adds = (slice, is, adds)
adds_line listing whole line slice (Err (As Twice)) is adds = (slice, is, adds.0, adds.1)
adds_line listing whole line slice (Err NoMemory) is adds = tt

pub adds_fits : (listing : ListingParts) (whole slice : SliceParts) (result : Result SliceParts Refused) → Fits listing whole → Fits listing slice
    → AddsSlice whole slice result → IfOk result (λ both. Fits listing both)
adds_fits listing whole slice (Ok both) fits slice_fits adds = fits_more listing whole slice both fits slice_fits adds
adds_fits listing whole slice (Err refused) fits slice_fits adds = tt

pub refused_after : (listing : ListingParts) (lines : List (List ℕ)) (place : ℕ) (line : List ℕ) (whole : SliceParts) (refused : Refused)
    → slice_get lines place ≡ Some line → AreMerged listing (take place lines) whole → AddsLine listing whole line (Err refused)
    → FirstRefused listing lines (refused_at (place + 1) refused)
refused_after listing lines place line whole (As kind) there are adds =
    inr (record { place = place; line = line; there = there; number = refl; wrong = inr (whole, are, adds) })
refused_after listing lines place line whole NoMemory there are adds = tt

pub refused_first : (listing : ListingParts) (lines more : List (List ℕ)) (line : List ℕ) (fault : LineFault) → lines ≡ line ∷ more
    → IsLineRead listing line (Err fault) → FirstRefused listing lines (refused_at 1 (refused_line fault))
refused_first listing lines more line line_faults.Form are none =
    inr (record {
      place = 0;
      line = line;
      there = ap (λ (ls : List (List ℕ)). slice_get ls 0) are;
      number = refl;
      wrong = inl (refl, refl, none);
    })
refused_first listing lines more line line_faults.NoMemory are none = tt

pub first_spans : (listing : ListingParts) (lines : List (List ℕ)) (slice : SliceParts) → IsFirst listing lines slice → AreSpans slice.numbers
first_spans listing [] slice is = absurd is
first_spans listing (line ∷ lines) slice is = slice_spans listing line slice is

pub merged_line : (listing : ListingParts) (lines : List (List ℕ)) (place : ℕ) (line : List ℕ) (whole both : SliceParts)
    → slice_get lines place ≡ Some line → AreMerged listing (take place lines) whole → AddsLine listing whole line (Ok both)
    → AreMerged listing (take (place + 1) lines) both
merged_line listing lines place line whole both there are adds =
    rw (take_with lines place line there) (merged_more listing (take place lines) line whole adds.0 both are adds.1 adds.2)

-- after the last line
pub merged_all : (listing : ListingParts) (lines : List (Bor (List ℕ))) (place : ℕ) (whole : SliceParts) → length lines ≤ place
    → AreMerged listing (take place (map (λ (line : Bor (List ℕ)). line.now) lines)) whole
    → AreMerged listing (map (λ (line : Bor (List ℕ)). line.now) lines) whole
merged_all listing lines place whole past are =
    let texts = map (λ (line : Bor (List ℕ)). line.now) lines in
    let all : length texts ≤ place = rw length-map past in
    subst (λ (ls : List (List ℕ)). AreMerged listing ls whole) (take_all place texts all) are
