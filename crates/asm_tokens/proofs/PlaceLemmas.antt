-- Places, one byte after another.
use Rattle.std.proofs.Common.{◌≡◌, ℕ, zero, suc, ◌+◌, ◌≤◌, ◌<◌, ◌==◌, Bool, true, false, List, [], ◌∷◌, length, take, slice_index, refl, arith}
use Rattle.asm_tokens.specs.declared.place.Place.{Place}
use Rattle.asm_tokens.specs.Places.{after_byte, place_after}

byte_where : (ends : Bool) (place : Place) (b : ℕ) → (b == 0x0A) ≡ ends
    → ((after_byte place b).line ≤ place.line + 1) × ((after_byte place b).column ≤ place.column + 1)
byte_where true place b e = rw e (omega arith, omega arith)
byte_where false place b e = rw e (omega arith, omega arith)

-- a byte adds one to the line or to the column
pub byte_grows : (place : Place) (b : ℕ) → ((after_byte place b).line ≤ place.line + 1) × ((after_byte place b).column ≤ place.column + 1)
byte_grows place b = byte_where (b == 0x0A) place b refl

-- bytes add at most one each
pub place_grows : (place : Place) (bytes : List ℕ)
    → ((place_after place bytes).line ≤ place.line + length bytes) × ((place_after place bytes).column ≤ place.column + length bytes)
unfolding place_after
place_grows place [] = (omega arith, omega arith)
place_grows place (b ∷ bytes) =
    let one = byte_grows place b in
    let more = place_grows (after_byte place b) bytes in
    (omega (arith, one.0, more.0), omega (arith, one.1, more.1))

-- one more byte
pub place_more : (place : Place) (bytes : List ℕ) (i : ℕ) → i < length bytes
    → place_after place (take (suc i) bytes) ≡ after_byte (place_after place (take i bytes)) (slice_index bytes i)
unfolding place_after
place_more place [] i h = absurd (omega arith)
place_more place (b ∷ bytes) zero h = refl
place_more place (b ∷ bytes) (suc i) h = place_more (after_byte place b) bytes i (omega arith)
