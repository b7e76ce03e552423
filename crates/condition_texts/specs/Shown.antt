-- What an item shows: a place with its optional field, or `H.status` (this project's own format).
use Rattle.std.specs.Prelude.{ℕ, ◌-◌, nat_le, Bool, ◌&&◌, if◌then◌else◌, List, length, drop}
use Rattle.std.specs.Prelude.{slice_index, Option, Some, codes, bytes_eq}
use Rattle.cheri_model.specs.runs.Image.{ImageParts}
use Rattle.grammar.specs.Labels.{is_decimal_digit}
use Rattle.conditions.specs.declared.parts.Shown.{Shown}
use Rattle.conditions.specs.declared.parts.Shown.TheVariants.{Number, Status}
use Rattle.condition_texts.specs.Places.{◌>>=◌, hart_numbered, place_of}

abbrev pub names_status : List ℕ → Bool
names_status word =
    nat_le 1 (length word) && is_decimal_digit (slice_index word 0)
    && bytes_eq (drop 1 word) (codes ".status")

unfoldable pub shown_of : ImageParts → List ℕ → Option Shown
shown_of image word =
    if names_status word then (do
      hart ← hart_numbered image (slice_index word 0 - 0x30)
      Some (Status hart))
    else (do
      place ← place_of image word
      Some (Number place))
