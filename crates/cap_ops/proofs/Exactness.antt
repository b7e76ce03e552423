-- What the code tests is what the definitions do: exact bounds, and addresses that keep the bounds.
use Rattle.std.proofs.Common.{◌≡◌, ℕ, ◌/◌, ◌^◌, Bool, true, ◌==◌, ◌&&◌, ◌↔◌, IsTrue}
use Rattle.std.proofs.lemmas.Bool.Decides.{same_from_decides, Decides-and, Decides-eqb}
use Rattle.cap_model.specs.words.RawBounds.{raw_base, raw_top}
use Rattle.cap_model.specs.values.CapValue.{CapValue, bits_of, parts_of, IsLawfulValue}
use Rattle.cap_model.specs.results.Addresses.{is_open, keeps_bounds}
use Rattle.cap_model.proofs.Words.WordsBack.{upper_of_word}
use Rattle.cap_model.proofs.Bounds.WindowsEnd.{same_bounds_in_window}
use Rattle.cap_model.proofs.Results.Values.{open_parts}
use Rattle.cap_model.proofs.Results.AddressResults.{internal_exponent_lt, window_test, test_of_window}

-- two equations at once
pub exact_test : (r : Bool) (a b c d : ℕ) → (IsTrue r ↔ ((a ≡ b) × (c ≡ d))) → r ≡ ((a == b) && (c == d))
exact_test r a b c d h = same_from_decides r _ (h.0, h.1) (Decides-and (a == b) (c == d) (Decides-eqb a b) (Decides-eqb c d))

-- an open value keeps its tag at an address just where the bounds are decoded to the same
pub keeps_tag_test : (v : CapValue) (r : Bool) (a : ℕ) → IsLawfulValue v → is_open v ≡ true →
    (IsTrue r ↔ ((raw_base (bits_of v / 2 ^ 64) a ≡ raw_base (bits_of v / 2 ^ 64) (parts_of v).addr) × (raw_top (bits_of v / 2 ^ 64) a ≡ raw_top (bits_of v / 2 ^ 64) (parts_of v).addr))) →
    r ≡ (is_open v && keeps_bounds v a)
keeps_tag_test v r a h unsealed same =
    let tagged = open_parts v h unsealed in
    let window = same_bounds_in_window (parts_of v) tagged.lawful a in
    let known = rw (tagged.bits, upper_of_word (parts_of v) tagged.lawful) at same in
    rw unsealed
    (same_from_decides r (keeps_bounds v a)
    (λ t. window.0 (known.0 t), λ inside. known.1 (window.1 inside))
    (λ t. window_test _ _ a t, λ inside. test_of_window _ _ a inside))

-- what rounded fields are: their widths, and when they are exact
pub ruleset rounded = (exact_test, internal_exponent_lt)
