-- The results of instructions on addresses and bounds: the word and the tag of each, for lawful values.
use Rattle.std.specs.Prelude.{◌≡◌, ℕ, ◌/◌, ◌^◌, ◌<◌, ◌≤◌, nat_le, nat_lt, Bool, true, ◌&&◌}
use Rattle.std.proofs.Common.{arith, inl, inr, leb-true, ltb-true}
use Rattle.std.proofs.lemmas.Bool.{and_parts, cases_Bool, or_cases, cases_lt, or_left, or_right, le-leb, lt-ltb}
use Rattle.cap_model.specs.bounds.Lengths.{exponent, internal_exponent}
use Rattle.cap_model.specs.bounds.Window.{IsInWindow, is_in_window}
use Rattle.cap_model.specs.values.CapValue.{CapValue, bits_of, parts_of, tagged_where, IsLawfulValue}
use Rattle.cap_model.specs.results.EditedWords.{word_with_address, with_rounded_fields, with_rounded_bounds}
use Rattle.cap_model.specs.results.Addresses.{address_of, is_open, in_bounds, keeps_bounds, set_address, is_exact, set_bounds, set_bounds_exact, with_bounds_of_rounding}
use Rattle.cap_model.proofs.Words.FieldsEdited.{edited_bounds_lt}
use Rattle.cap_model.proofs.Rounding.RoundedFields.{b_field_below, t_field_below}
use Rattle.cap_model.proofs.Words.WordsEdited.{word_with_another_address}
use Rattle.cap_model.proofs.Words.BoundsRounded.{word_with_rounded_bounds}
use Rattle.cap_model.proofs.Results.Values.{IsResult, result_of, bits_lt, open_parts, word_with_upper_lt, word_with_address_lt}

-- the internal exponent bit is one bit
pub internal_exponent_lt : (len : ℕ) → internal_exponent len < 2
unfolding internal_exponent
internal_exponent_lt len = elim (cases_Bool (nat_lt len (2 ^ 12))) [ inl short ↦ rw short (omega arith) | inr long ↦ rw long (omega arith) ]

-- the test of the window says whether an address is in it
pub window_test : (base len a : ℕ) → is_in_window base len a ≡ true → IsInWindow base len a
unfolding is_in_window IsInWindow
window_test base len a t low = elim (or_cases (nat_le 50 (exponent len)) _ t) [
  | inl high ↦ (let most = leb-true 50 (exponent len) high in absurd (omega arith))
  | inr inside ↦ ltb-true _ _ inside
]

pub test_of_window : (base len a : ℕ) → IsInWindow base len a → is_in_window base len a ≡ true
unfolding is_in_window IsInWindow
test_of_window base len a inside = elim (cases_lt (exponent len) 50) [
  | inl low ↦ or_right _ _ (lt-ltb _ _ (inside low))
  | inr high ↦ or_left _ _ (le-leb _ _ high)
]

-- CSetAddr
pub set_address-result : (v : CapValue) (a : ℕ) → IsLawfulValue v → a < 2 ^ 64 →
    IsResult (set_address v a) (is_open v && keeps_bounds v a) (word_with_address (bits_of v) a)
unfolding set_address
set_address-result v a h below =
    result_of (is_open v && keeps_bounds v a) (record (parts_of v) { addr = a }) _ (word_with_address_lt _ a (bits_lt v h) below)
    (λ t.
    let both = and_parts (is_open v) _ t in
    let tagged = open_parts v h both.0 in
    rw tagged.bits (word_with_another_address (parts_of v) a tagged.lawful below (window_test _ _ a both.1)))

-- a word with the bounds fields of a rounding has 128 bits
rounded_word_lt : (word base len : ℕ) → word < 2 ^ 128 → len ≤ 2 ^ 64 → with_rounded_bounds word base len < 2 ^ 128
unfolding with_rounded_bounds with_rounded_fields
rounded_word_lt word base len below fits =
    word_with_upper_lt word _
    (edited_bounds_lt (word / 2 ^ 64) _ _ _ (omega arith) (internal_exponent_lt len) (t_field_below base len fits) (b_field_below base len fits))

-- CSetBounds and CSetBoundsExact, under a condition that is at least that of CSetBounds
bounds-result : (v : CapValue) (len : ℕ) (exact : Bool) → IsLawfulValue v → with_rounded_bounds (bits_of v) (address_of v) len < 2 ^ 128 →
    IsResult (tagged_where (is_open v && in_bounds v (address_of v) len && exact) (with_bounds_of_rounding v len) (with_rounded_bounds (bits_of v) (address_of v) len))
    (is_open v && in_bounds v (address_of v) len && exact) (with_rounded_bounds (bits_of v) (address_of v) len)
unfolding address_of
bounds-result v len exact h below =
    result_of _ (with_bounds_of_rounding v len) _ below
    (λ t.
    let all = and_parts (is_open v && in_bounds v (address_of v) len) exact t in
    let both = and_parts (is_open v) _ all.0 in
    let inside = and_parts (nat_le (parts_of v).base (parts_of v).addr) _ both.1 in
    let tagged = open_parts v h both.0 in
    rw tagged.bits (word_with_rounded_bounds (parts_of v) len tagged.lawful (leb-true _ _ inside.0) (leb-true _ _ inside.1)))

pub set_bounds_exact-result : (v : CapValue) (len : ℕ) → IsLawfulValue v → len ≤ 2 ^ 64 →
    IsResult (set_bounds_exact v len) (is_open v && in_bounds v (address_of v) len && is_exact (address_of v) len) (with_rounded_bounds (bits_of v) (address_of v) len)
unfolding set_bounds_exact
set_bounds_exact-result v len h fits =
    bounds-result v len (is_exact (address_of v) len) h (rounded_word_lt (bits_of v) (address_of v) len (bits_lt v h) fits)

pub set_bounds-result : (v : CapValue) (len : ℕ) → IsLawfulValue v → len ≤ 2 ^ 64 →
    IsResult (set_bounds v len) (is_open v && in_bounds v (address_of v) len) (with_rounded_bounds (bits_of v) (address_of v) len)
unfolding set_bounds address_of
set_bounds-result v len h fits =
    result_of _ (with_bounds_of_rounding v len) _ (rounded_word_lt (bits_of v) (address_of v) len (bits_lt v h) fits)
    (λ t.
    let both = and_parts (is_open v) _ t in
    let inside = and_parts (nat_le (parts_of v).base (parts_of v).addr) _ both.1 in
    let tagged = open_parts v h both.0 in
    rw tagged.bits (word_with_rounded_bounds (parts_of v) len tagged.lawful (leb-true _ _ inside.0) (leb-true _ _ inside.1)))
