-- One line after another.
use Rattle.std.specs.Prelude.{◌≡◌, ℕ, List, [], ◌∷◌, Result, Ok, Err}
use Rattle.sample_slices.specs.Lines.{IsSlice}
use Rattle.sample_slices.specs.Slices.{ListingParts, SliceParts, plus}
use Rattle.sample_slices.specs.declared.fault.LineFault.{LineFault}
use Rattle.sample_slices.specs.declared.fault.LineFault.TheVariants as line_faults
use Rattle.sample_slices.specs.declared.fault.SliceError.{SliceError}
use Rattle.sample_slices.specs.declared.fault.SliceError.TheVariants as errors
use Rattle.sample_slices.specs.declared.fault.SliceKind.{SliceKind}
use Rattle.sample_slices.specs.declared.fault.SliceKind.TheVariants.{Form, Other, Twice}
use Rattle.sample_merges.specs.Merged.{AskTheSame, FirstRefused, IsWrong}
use Rattle.sample_merges.specs.Spans.{IsJoined, ShareRun}
use Rattle.sample_merges.specs.declared.refused.Refused.{Refused}
use Rattle.sample_merges.specs.declared.refused.Refused.TheVariants.{As, NoMemory}

abbrev pub refused_line : LineFault → Refused
refused_line line_faults.Form = As Form
refused_line line_faults.NoMemory = NoMemory

-- the error of the line with this number
abbrev pub refused_at : ℕ → Refused → SliceError
refused_at line (As kind) = errors.Slice (record { line = line; kind = kind })
refused_at line NoMemory = errors.NoMemory

-- a slice goes with others, of which this is the sum, and this is the sum with it
pub record IsAdded (whole slice both : SliceParts) : Type 0 where
  pub same : AskTheSame whole slice
  pub numbers : IsJoined whole.numbers slice.numbers both.numbers
  pub sum : both ≡ plus whole slice both.numbers

-- or it doesn't
abbrev pub IsUnlike : SliceParts → SliceParts → SliceKind → Type 0
IsUnlike whole slice Form = ⊥
IsUnlike whole slice Other = ¬ (AskTheSame whole slice)
IsUnlike whole slice Twice = AskTheSame whole slice × ShareRun whole.numbers slice.numbers

abbrev pub AddsSlice : SliceParts → SliceParts → Result SliceParts Refused → Type 0
AddsSlice whole slice (Ok both) = IsAdded whole slice both
AddsSlice whole slice (Err (As kind)) = IsUnlike whole slice kind
AddsSlice whole slice (Err NoMemory) = Unit {0}

-- the same of the slice that a line is, if it is one
abbrev pub AddsLine : ListingParts → SliceParts → List ℕ → Result SliceParts Refused → Type 0
AddsLine listing whole line (Ok both) =
    (slice : SliceParts) × IsSlice listing line slice × IsAdded whole slice both
AddsLine listing whole line (Err (As kind)) = IsWrong listing whole line kind
AddsLine listing whole line (Err NoMemory) = Unit {0}

-- the slice that the first line is
abbrev pub IsFirst : ListingParts → List (List ℕ) → SliceParts → Type 0
IsFirst listing [] slice = ⊥
IsFirst listing (line ∷ lines) slice = IsSlice listing line slice

abbrev pub IsFirstRead : ListingParts → List (List ℕ) → Result SliceParts SliceError → Type 0
IsFirstRead listing lines (Ok slice) = IsFirst listing lines slice
IsFirstRead listing lines (Err error) = FirstRefused listing lines error
