-- A table that has the values of the bytes, one after another, has each byte's value.
use Rattle.std.proofs.Common.{◌≡◌, ℕ, ◌+◌, ◌<◌, ◌==◌, ◌&&◌, zero, suc, Bool, true, false, List, [], ◌∷◌, length, get_or, refl, ap, ◌∙◌, arith}
use Rattle.std.proofs.lemmas.Bool.Decides.{nat_tests}
use Rattle.std.specs.Char.{digit_value}
use Rattle.text_numbers.specs.Numerals.{values_from}

both : (test rest : Bool) → (test && rest) ≡ true → (test ≡ true) × (rest ≡ true)
both true rest e = (refl, e)
both false rest e = absurd (cc)

value_at : (values : List ℕ) (byte place : ℕ) → values_from byte values ≡ true → place < length values → get_or values place 0 ≡ digit_value (place + byte)
unfolding values_from
value_at [] byte place e h = absurd (omega (arith, h))
value_at (value ∷ values) byte zero e h = let same : (value == digit_value byte) ≡ true = (both (value == digit_value byte) (values_from (byte + 1) values) e).0 in grind (arith, nat_tests)
value_at (value ∷ values) byte (suc place) e h =
    let others : values_from (byte + 1) values ≡ true = (both (value == digit_value byte) (values_from (byte + 1) values) e).1 in
    let place_below : place < length values = omega (arith, h) in
    let moved : place + (byte + 1) ≡ suc place + byte = omega arith in
    value_at values (byte + 1) place others place_below ∙ ap digit_value moved

-- a byte finds its own value
pub value_of_byte : (table : List ℕ) (byte : ℕ) → values_from 0 table ≡ true → length table ≡ 256 → byte < 256 → get_or table byte 0 ≡ digit_value byte
value_of_byte table byte e whole h =
    let place_below : byte < length table = omega (arith, whole, h) in
    let moved : byte + 0 ≡ byte = omega arith in
    value_at table 0 byte e place_below ∙ ap digit_value moved
