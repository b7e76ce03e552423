-- The numbers of a state that a condition or an item names: `H.cN`, `H.pcc` and `mem[A]` with an
-- optional field, and `mem1[A]`, `mem2[A]`, `mem4[A]` and `mem8[A]` (this project's own format).
use Rattle.std.specs.Prelude.{ℕ, ◌+◌, ◌-◌, ◌%◌, ◌==◌, nat_eq, nat_lt, nat_le, Bool, ◌&&◌}
use Rattle.std.specs.Prelude.{if◌then◌else◌, List, [], ◌∷◌, length, take}
use Rattle.std.specs.Prelude.{drop, slice_index, slice_range}
use Rattle.std.specs.Prelude.{position}
use Rattle.std.specs.Prelude.{Option, Some, None, Result, Ok, Err, codes, bytes_eq}
use Rattle.std.specs.List.{before_first, starts_with}
use Rattle.cheri_model.specs.declared.memory.TheConstants.{RAM_BASE}
use Rattle.cheri_model.specs.declared.width.Width.{Width}
use Rattle.cheri_model.specs.declared.width.Width.TheVariants.{Byte, Half, Word, Double}
use Rattle.cheri_model.specs.instructions.Tables.{found_at}
use Rattle.cheri_model.specs.runs.Image.{ImageParts}
use Rattle.cheri_model.specs.steps.Memory.{bytes_of}
use Rattle.grammar.specs.declared.fault.ListingFaultKind.{ListingFaultKind}
use Rattle.grammar.specs.Labels.{is_decimal_digit}
use Rattle.grammar.specs.Numerals.{number_of}
use Rattle.grammar.specs.Operands.{register_of}
use Rattle.conditions.specs.declared.parts.Field.{Field}
use Rattle.conditions.specs.declared.parts.Field.TheVariants as field
use Rattle.conditions.specs.declared.parts.Holder.{Holder}
use Rattle.conditions.specs.declared.parts.Holder.TheVariants as holder
use Rattle.conditions.specs.declared.parts.Own.{Own}
use Rattle.conditions.specs.declared.parts.Own.TheVariants as own
use Rattle.conditions.specs.declared.parts.Source.{Source}
use Rattle.conditions.specs.declared.parts.Source.TheVariants as source
use Rattle.conditions.specs.declared.parts.Place.{Place}
use Rattle.conditions.specs.declared.parts.Place.TheVariants as place

-- a step that may have no answer, and what follows it
infixl 10 ◌>>=◌
abbrev pub ◌>>=◌ : {A B : Type 0} → Option A → (A → Option B) → Option B
(Some x) >>= f = f x
None >>= f = None

-- the end of a place names a field: the address where nothing is written
abbrev pub field_table : List (List ℕ × Field)
field_table =
    ([], field.Addr) ∷ (codes ".addr", field.Addr) ∷ (codes ".tag", field.Tag)
    ∷ (codes ".base", field.Base) ∷ (codes ".len", field.Len) ∷ (codes ".perms", field.Perms)
    ∷ (codes ".sealed", field.Sealed) ∷ (codes ".top", field.Top) ∷ (codes ".type", field.Type)
    ∷ (codes ".word", field.Word) ∷ []

unfoldable pub field_of : List ℕ → Option Field
field_of suffix = found_at field_table suffix

-- the hart of a number, if the image has it
abbrev pub hart_numbered : ImageParts → ℕ → Option ℕ
hart_numbered image number = if nat_lt number (length image.harts) then Some number else None

-- the number that a word writes as numbers of listings do, below 2^128
abbrev pub number_read : Result (Option ℕ) ListingFaultKind → Option ℕ
number_read (Ok number) = number
number_read (Err fault) = None

unfoldable pub number_in : List ℕ → Option ℕ
number_in word = number_read (number_of word)

-- whether so many bytes at an address are aligned to their count, and in the RAM of an image
unfoldable pub fits_image : ImageParts → ℕ → ℕ → Bool
fits_image image addr bytes =
    (addr % bytes == 0) && nat_le RAM_BASE addr && nat_le (addr + bytes) (RAM_BASE + image.ram)

-- the address of such bytes that a word writes
unfoldable pub address_in : ImageParts → ℕ → List ℕ → Option ℕ
address_in image bytes word = do
  addr ← number_in word
  if fits_image image addr bytes then Some addr else None

-- `pcc` or `cN` of a hart
abbrev pub register_read : ℕ → Result ℕ ListingFaultKind → Option Holder
register_read hart (Ok number) = Some (holder.Register hart number)
register_read hart (Err fault) = None

unfoldable pub holder_named : ℕ → List ℕ → Option Holder
holder_named hart name =
    if bytes_eq name (codes "pcc") then Some (holder.Pcc hart)
    else register_read hart (register_of name)

-- `cN` or `pcc` with an optional field, which begins at the first point
unfoldable pub hart_place : ImageParts → ℕ → List ℕ → Option Place
hart_place image number rest =
    let name = before_first (λ b. b == 0x2E) rest in do
      hart ← hart_numbered image number
      held ← holder_named hart name
      read ← field_of (drop (length name) rest)
      Some (place.Value held read)

-- `A]` with an optional field
unfoldable pub granule_place : ImageParts → List ℕ → Option Place
granule_place image rest = do
  end ← position (λ b. b == 0x5D) rest
  addr ← address_in image 16 (take end rest)
  read ← field_of (drop (end + 1) rest)
  Some (place.Value (holder.Granule addr) read)

-- the widths of `mem1`, `mem2`, `mem4` and `mem8`, by the digit
unfoldable pub width_of : ℕ → Option Width
width_of digit =
    if digit == 0x31 then Some Byte else if digit == 0x32 then Some Half
    else if digit == 0x34 then Some Word else if digit == 0x38 then Some Double else None

unfoldable pub data_place : ImageParts → ℕ → List ℕ → Option Place
data_place image digit address = do
  width ← width_of digit
  addr ← address_in image (bytes_of width) address
  Some (place.Data addr width)

-- `H.`, of a decimal digit
abbrev pub begins_hart : List ℕ → Bool
begins_hart word =
    nat_le 2 (length word) && is_decimal_digit (slice_index word 0)
    && (slice_index word 1 == 0x2E)

-- `mem[`
abbrev pub begins_granule : List ℕ → Bool
begins_granule word = starts_with nat_eq word (codes "mem[")

-- `mem`, a byte, and brackets around the rest
abbrev pub is_data : List ℕ → Bool
is_data word =
    nat_le 6 (length word) && starts_with nat_eq word (codes "mem")
    && (slice_index word 4 == 0x5B) && (slice_index word (length word - 1) == 0x5D)

-- the place that a word names, of this image
unfoldable pub place_of : ImageParts → List ℕ → Option Place
place_of image word =
    if begins_hart word then hart_place image (slice_index word 0 - 0x30) (drop 2 word)
    else if begins_granule word then granule_place image (drop 4 word)
    else if is_data word
    then data_place image (slice_index word 3) (slice_range word 5 (length word - 1))
    else None

-- `h.`, and what it begins: `cN` or `pcc` with an optional field
abbrev pub begins_each : List ℕ → Bool
begins_each word = starts_with nat_eq word (codes "h.")

abbrev pub own_read : Result ℕ ListingFaultKind → Option Own
own_read (Ok number) = Some (own.Register number)
own_read (Err fault) = None

unfoldable pub own_named : List ℕ → Option Own
own_named name = if bytes_eq name (codes "pcc") then Some own.Pcc else own_read (register_of name)

unfoldable pub own_place : List ℕ → Option Source
own_place rest =
    let name = before_first (λ b. b == 0x2E) rest in do
      held ← own_named name
      read ← field_of (drop (length name) rest)
      Some (source.Each held read)

abbrev pub source_at : Option Place → Option Source
source_at (Some (place.Value held read)) = Some (source.Value held read)
source_at (Some (place.Data addr width)) = Some (source.Data addr width)
source_at None = None

-- the number that a word names; `h` may stand where each hart is spoken of
unfoldable pub source_of : ImageParts → Bool → List ℕ → Option Source
source_of image each word =
    if begins_each word then (if each then own_place (drop 2 word) else None)
    else source_at (place_of image word)
