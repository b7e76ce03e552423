-- Which lines are slices.
use Rattle.std.specs.Prelude.{◌≡◌, ℕ, List, [], ◌∷◌, ◌++◌, Some, Result, Ok, Err}
use Rattle.std.specs.Prelude.{IsUtf8}
use Rattle.serde_json.specs.Data.{Data}
use Rattle.serde_json.specs.Read.{read}
use Rattle.sample_slices.specs.Claimed.{claimed}
use Rattle.sample_slices.specs.Slices.{IsTextOf, ListingParts, SliceParts, asked, looked_at}
use Rattle.sample_slices.specs.declared.fault.LineFault.{LineFault}
use Rattle.sample_slices.specs.declared.fault.LineFault.TheVariants.{Form, NoMemory}
use Rattle.shown_states.specs.declared.form.Format.TheVariants.{Json}

-- a slice, written again, is a line, which has no newline here
abbrev pub IsLineOf : ListingParts → SliceParts → List ℕ → Type 0
IsLineOf listing slice line =
    IsTextOf listing.image (asked (looked_at listing.properties slice.is_checked)) slice Json
    (line ++ 0x0A ∷ [])

-- A line, without the newline at its end, is a slice: it is JSON; what its numbers claim is so,
-- where all first runs are run again; and the slice that they claim, written again, is this line,
-- byte for byte.
pub record IsSlice (listing : ListingParts) (line : List ℕ) (slice : SliceParts) : Type 0 where
  pub utf8 : IsUtf8 line
  pub value : Data
  pub is_json : read line ≡ Some value
  pub is_claimed : claimed listing value ≡ Some slice
  pub is_line : IsLineOf listing slice line

-- it is none
abbrev pub IsNoSlice : ListingParts → List ℕ → Type 0
IsNoSlice listing line = (slice : SliceParts) → ¬ (IsSlice listing line slice)

-- a line was read, or refused; running out of memory says nothing of it
abbrev pub IsLineRead : ListingParts → List ℕ → Result SliceParts LineFault → Type 0
IsLineRead listing line (Ok slice) = IsSlice listing line slice
IsLineRead listing line (Err Form) = IsNoSlice listing line
IsLineRead listing line (Err NoMemory) = Unit {0}

-- a slice that is claimed was written again
abbrev pub IsWrittenAgain : ListingParts → SliceParts → List ℕ → Result SliceParts LineFault
    → Type 0
IsWrittenAgain listing slice line (Ok read) = (read ≡ slice) × IsLineOf listing slice line
IsWrittenAgain listing slice line (Err Form) = ¬ (IsLineOf listing slice line)
IsWrittenAgain listing slice line (Err NoMemory) = Unit {0}
