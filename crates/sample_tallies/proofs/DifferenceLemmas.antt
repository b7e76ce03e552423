-- Differences that are gathered by bits.
use Rattle.std.proofs.Common.{◌≡◌, ℕ, ◌+◌, ◌*◌, ◌/◌, ◌%◌, ◌^◌, refl, ap, sym, ◌∙◌, arith, Bool, true, false, not}
use Rattle.std.specs.Bool.{beq}
use Rattle.std.specs.Int.Bits.{bit_or, bit_xor, xor_assoc, xor_self, xor_zero_l, xor_zero_r}
use Rattle.std.proofs.lemmas.Nat.{le_or_l, le_or_r, shr_split}
use Rattle.cap_model.specs.values.CapValue.{CapValue, IsLawfulValue, bits_of, tag_of, value_at}
use Rattle.cap_model.proofs.Results.Values.{value_back}

pub none_or : (a b : ℕ) → bit_or a b ≡ 0 → (a ≡ 0) × (b ≡ 0)
none_or a b none = (omega (arith, le_or_l a b, none), omega (arith, le_or_r a b, none))

pub none_xor : (a b : ℕ) → bit_xor a b ≡ 0 → a ≡ b
none_xor a b none =
    sym (xor_zero_r a) ∙ ap (bit_xor a) (sym (xor_self b)) ∙ sym (xor_assoc a b b)
    ∙ ap (λ (n : ℕ). bit_xor n b) none ∙ xor_zero_l b

-- values without a difference in the halves of their words, or their tags
pub halves_are : (v w : CapValue) → IsLawfulValue v → IsLawfulValue w → bits_of v / 2 ^ 64 ≡ bits_of w / 2 ^ 64
    → bits_of v % 2 ^ 64 ≡ bits_of w % 2 ^ 64 → tag_of v ≡ tag_of w → v ≡ w
halves_are v w lawful also upper addr tags =
    let bits : bits_of v ≡ bits_of w =
    sym (shr_split (bits_of v) 64) ∙ ap (λ (n : ℕ). n * 2 ^ 64 + bits_of v % 2 ^ 64) upper
    ∙ ap (λ (n : ℕ). bits_of w / 2 ^ 64 * 2 ^ 64 + n) addr ∙ shr_split (bits_of w) 64 in
    sym (value_back v lawful) ∙ ap (λ (t : Bool). value_at t (bits_of v)) tags
    ∙ ap (λ (b : ℕ). value_at (tag_of w) b) bits ∙ value_back w also

pub same_tags : (s t : Bool) → not (beq s t) ≡ false → s ≡ t
same_tags true true none = refl
same_tags true false none = none
same_tags false true none = sym none
same_tags false false none = refl
