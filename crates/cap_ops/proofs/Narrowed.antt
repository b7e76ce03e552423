-- A word with the bounds fields of a rounding: where its tag stays it is decoded to the rounding's bounds.
use Rattle.std.proofs.Common.{◌≡◌, ℕ, ◌/◌, ◌%◌, ◌^◌, ◌<◌, Bool, true, ◌&&◌, arith, ap, sym, subst, ◌∙◌, refl}
use Rattle.cap_model.specs.bounds.Rounding.{rounded_base, rounded_top}
use Rattle.cap_model.specs.words.RawBounds.{raw_base, raw_top}
use Rattle.cap_model.specs.values.Capability.{Capability, capability_at}
use Rattle.cap_model.specs.values.CapValue.{CapValue, bits_of, value_at, IsLawfulValue, IsTaggedWord}
use Rattle.cap_model.specs.values.ValueFacts.{bits_of-value_at, IsLawfulValue-value_at}
use Rattle.cap_model.specs.results.EditedWords.{word_of_halves, with_rounded_fields, with_rounded_bounds}
use Rattle.cap_model.specs.results.Readings.{base_of, top_of}
use Rattle.cap_model.specs.results.Addresses.{address_of, is_open, in_bounds, is_exact, set_bounds, set_bounds_exact}
use Rattle.cap_model.proofs.Results.Values.{IsResult}
use Rattle.cap_ops.proofs.Made.{rounded_word, made_tagged, made_value}
use Rattle.cap_ops.proofs.Unpacking.{parts_read}

-- a value's bounds are those that its word is decoded to
read_bounds : (r : CapValue) (t : Bool) (upper addr : ℕ) → IsTaggedWord t (word_of_halves upper addr) → value_at t (word_of_halves upper addr) ≡ r →
    addr < 2 ^ 64 → (base_of r ≡ raw_base upper addr) × (top_of r ≡ raw_top upper addr)
unfolding capability_at
read_bounds r t upper addr is same below =
    let lawful : IsLawfulValue r = subst IsLawfulValue same (IsLawfulValue-value_at t _ is) in
    let bits : bits_of r ≡ word_of_halves upper addr = ap bits_of (sym same) ∙ bits_of-value_at t _ is in
    let parts = parts_read r lawful in
    let high : bits_of r / 2 ^ 64 ≡ upper = omega arith in
    let low : bits_of r % 2 ^ 64 ≡ addr = omega arith in
    (ap (λ (c : Capability). c.base) parts ∙ rw (high, low) refl, ap (λ (c : Capability). c.top) parts ∙ rw (high, low) refl)

-- a result has the bounds of the rounding where its tag stays
abbrev pub HasRounding : CapValue → Bool → ℕ → ℕ → Type 0
HasRounding r kept base len = kept ≡ true → (base_of r ≡ rounded_base base len) × (top_of r ≡ rounded_top base len)

pub set_bounds_rounding : (v : CapValue) (len : ℕ) → HasRounding (set_bounds v len) (is_open v && in_bounds v (address_of v) len) (address_of v) len
unfolding set_bounds
set_bounds_rounding v len kept = rw kept (refl, refl)

pub exact_rounding : (v : CapValue) (len : ℕ) →
    HasRounding (set_bounds_exact v len) (is_open v && in_bounds v (address_of v) len && is_exact (address_of v) len) (address_of v) len
unfolding set_bounds_exact
exact_rounding v len kept = rw kept (refl, refl)

pub record IsNarrowed (r : CapValue) (t : Bool) (upper addr from len : ℕ) : Type 0 where
  pub tagged : IsTaggedWord t (word_of_halves upper addr)
  pub value : value_at t (word_of_halves upper addr) ≡ r
  pub base : t ≡ true → rounded_base from len ≡ raw_base upper addr
  pub top : t ≡ true → rounded_top from len ≡ raw_top upper addr

pub narrowed : (v r : CapValue) (kept t : Bool) (len upper addr : ℕ) → IsResult r kept (with_rounded_bounds (bits_of v) (address_of v) len) →
    HasRounding r kept (address_of v) len → t ≡ kept → upper ≡ with_rounded_fields (bits_of v / 2 ^ 64) (address_of v) len → addr ≡ bits_of v % 2 ^ 64 →
    IsNarrowed r t upper addr (address_of v) len
narrowed v r kept t len upper addr result rounding is fields low =
    let word = rounded_word (bits_of v) upper (address_of v) len addr fields low in
    let tagged = made_tagged r kept t _ _ result is word in
    let value = made_value r kept t _ _ result is word in
    let read = read_bounds r t upper addr tagged value (omega (arith, low)) in
    record {
      tagged = tagged;
      value = value;
      base = λ stays. sym (rounding (sym is ∙ stays)).0 ∙ read.0;
      top = λ stays. sym (rounding (sym is ∙ stays)).1 ∙ read.1;
    }
