-- Slices that go together, and what they give.
use Rattle.std.specs.Prelude.{◌≡◌, ◌⊎◌, ◌↔◌, ℕ, ◌+◌, List, [], ◌∷◌, fold, map, take, slice_get}
use Rattle.std.specs.Prelude.{All, Some}
use Rattle.std.specs.List.{AllPairs, AllZip, flat_map}
use Rattle.cheri_model.specs.runs.Image.{ImageParts}
use Rattle.explore_properties.specs.Properties.{PropertyParts}
use Rattle.explore_properties.specs.Reading.{properties_of}
use Rattle.listing_maps.specs.Names.{names_of}
use Rattle.sample_checks.specs.Checks.{decided_in, either_each}
use Rattle.sample_draws.specs.Drawings.{DrawingParts}
use Rattle.sample_slices.specs.Lines.{IsNoSlice, IsSlice}
use Rattle.sample_slices.specs.Slices.{ListingParts, SliceParts, properties_known}
use Rattle.sample_slices.specs.declared.fault.SliceError.{SliceError}
use Rattle.sample_slices.specs.declared.fault.SliceError.TheVariants as errors
use Rattle.sample_slices.specs.declared.fault.SliceFault.{SliceFault}
use Rattle.sample_slices.specs.declared.fault.SliceKind.{SliceKind}
use Rattle.sample_slices.specs.declared.fault.SliceKind.TheVariants.{Form, Other, Twice}
use Rattle.sample_slices.specs.declared.listing.SliceListing.{SliceListing}
use Rattle.sample_tallies.specs.Tallies.{add, tally}
use Rattle.sample_texts.specs.declared.spans.Span.{Span}
use Rattle.sample_merges.specs.Spans.{AreSpans, HasRun, ShareRun}

-- what is known of a listing
abbrev pub listing_of : SliceListing → ListingParts
listing_of listing = record {
  image = listing.image.now;
  properties =
      properties_known (properties_of (names_of listing.names.now) listing.image.now
      listing.text.now);
}

-- ---- slices

-- Orders are drawn alike, the same items are shown of ends, and both or none have properties.
pub record AskTheSame (one other : SliceParts) : Type 0 where
  pub drawing : other.drawing ≡ one.drawing
  pub items : other.items ≡ one.items
  pub is_checked : other.is_checked ≡ one.is_checked

-- no run is in both
abbrev pub AreApart : SliceParts → SliceParts → Type 0
AreApart one other = (run : ℕ) → HasRun one.numbers run → HasRun other.numbers run → ⊥

-- the numbers of the runs of slices, in no order
abbrev pub numbers_of : List SliceParts → List Span
numbers_of slices = flat_map (λ slice. slice.numbers) slices

-- ascending and apart, just these numbers
pub record AreNumbersOf (slices : List SliceParts) (numbers : List Span) : Type 0 where
  pub spans : AreSpans numbers
  pub runs : (run : ℕ) → HasRun numbers run ↔ HasRun (numbers_of slices) run

-- What the runs of slices gave, the first of which is this one; these are their numbers.
unfoldable pub sum_of : SliceParts → List SliceParts → List Span → SliceParts
sum_of first rest numbers = record first {
  numbers = numbers;
  sum = fold add first.sum (map (λ slice. slice.sum) rest);
  decided = fold either_each first.decided (map (λ slice. slice.decided) rest);
}

-- a slice gives what the runs with these numbers give
pub record GivesRuns (image : ImageParts) (drawing : DrawingParts) (properties : List PropertyParts)
    (slice : SliceParts) (runs : List ℕ) : Type 0 where
  pub sum : slice.sum ≡ tally image drawing runs
  pub decided : slice.decided ≡ decided_in image drawing properties runs

-- a slice of the same machine tells what is told of all runs of slices, which have these numbers
pub record IsSliceOfAll (image : ImageParts) (drawing : DrawingParts)
    (properties : List PropertyParts) (first : SliceParts) (rest : List SliceParts) (runs : List ℕ)
    (one : SliceParts) : Type 0 where
  pub same : AskTheSame first one
  pub harts : one.harts ≡ first.harts
  pub granules : one.granules ≡ first.granules
  pub numbers : AreNumbersOf (first ∷ rest) one.numbers
  pub gives : GivesRuns image drawing properties one runs

-- Each line is a slice of the listing; the same is asked of all runs, and none is there twice; and
-- the whole is their sum.
pub record AreMerged (listing : ListingParts) (lines : List (List ℕ)) (whole : SliceParts)
    : Type 0 where
  pub first : SliceParts
  pub rest : List SliceParts
  pub are_slices : AllZip (IsSlice listing) lines (first ∷ rest)
  pub same : All (AskTheSame first) rest
  pub apart : AllPairs AreApart (first ∷ rest)
  pub numbers : AreNumbersOf (first ∷ rest) whole.numbers
  pub sum : whole ≡ sum_of first rest whole.numbers

-- ---- lines that are refused

-- a line after others, which give this together, is wrong in this way, and in none before it
abbrev pub IsWrong : ListingParts → SliceParts → List ℕ → SliceKind → Type 0
IsWrong listing whole line Form = IsNoSlice listing line
IsWrong listing whole line Other =
    (slice : SliceParts) × IsSlice listing line slice × ¬ (AskTheSame whole slice)
IsWrong listing whole line Twice =
    (slice : SliceParts) × IsSlice listing line slice × AskTheSame whole slice
    × ShareRun whole.numbers slice.numbers

-- the lines before it are good and go together, if there are any
abbrev pub IsWrongAfter : ListingParts → List (List ℕ) → List ℕ → SliceKind → Type 0
IsWrongAfter listing before line kind =
    ((before ≡ []) × (kind ≡ Form) × IsNoSlice listing line)
    ⊎ ((whole : SliceParts) × AreMerged listing before whole × IsWrong listing whole line kind)

pub record IsRefusedLine (listing : ListingParts) (lines : List (List ℕ)) (fault : SliceFault)
    : Type 0 where
  pub place : ℕ
  pub line : List ℕ
  pub there : slice_get lines place ≡ Some line
  pub number : fault.line ≡ place + 1
  pub wrong : IsWrongAfter listing (take place lines) line fault.kind

-- there is no line
abbrev pub IsNoLine : List (List ℕ) → SliceFault → Type 0
IsNoLine lines fault = (lines ≡ []) × (fault ≡ record { line = 0; kind = Form })

-- The first line that is refused; running out of memory says nothing of the lines.
abbrev pub FirstRefused : ListingParts → List (List ℕ) → SliceError → Type 0
FirstRefused listing lines (errors.Slice fault) =
    IsNoLine lines fault ⊎ IsRefusedLine listing lines fault
FirstRefused listing lines errors.NoMemory = Unit {0}

-- ---- the whole

-- the listing, and the sum of its slices
pub record MergedParts : Type 0 where
  pub listing : ListingParts
  pub whole : SliceParts
