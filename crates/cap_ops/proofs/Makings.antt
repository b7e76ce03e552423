-- Capabilities that are made from parts: their upper half is that of the null word with these fields.
use Rattle.std.proofs.Common.{◌≡◌, ℕ, ◌+◌, ◌-◌, ◌^◌, ◌<◌, ◌≤◌, true, false, ◌==◌, ◌↔◌, Ok, Err, arith, refl, ap, ◌∙◌, eqb-true, lt-ltb, le-ltb, subst}
use Rattle.std.proofs.lemmas.Bool.{and_parts, false_from_ne_true}
use Rattle.cap_model.specs.bounds.Numbers.{first_from}
use Rattle.cap_model.specs.bounds.Lengths.{exponent, internal_exponent, alignment}
use Rattle.cap_model.specs.bounds.Window.{IsInWindow, is_in_window}
use Rattle.cap_model.specs.bounds.Rounding.{rounded_base, rounded_top}
use Rattle.cap_model.specs.words.RawBounds.{raw_base, raw_top}
use Rattle.cap_model.specs.words.Fields.{with_null_fields}
use Rattle.cap_model.specs.words.PermissionNames.{known_permissions}
use Rattle.cap_model.specs.values.Capability.{IsPermissionSet, IsLawfulType, IsLawful, unsealed_type, b_field, t_field, upper_of_fields, upper_of, word_of}
use Rattle.cap_model.specs.values.CapValue.{valid}
use Rattle.cap_model.specs.results.EditedWords.{word_of_halves, with_perms, with_otype, with_rounded_fields}
use Rattle.cap_model.specs.results.Addresses.{is_exact}
use Rattle.cap_model.proofs.Results.PermissionSets.{dropped_bits_leave_set}
use Rattle.cap_model.proofs.Rounding.Roundings.{rounded_length, rounded_base_multiple, rounded_top_multiple}
use Rattle.cap_model.proofs.Rounding.RoundingsWithin.{requested_base_in_window}
use Rattle.cap_model.proofs.Words.FieldsBack.{HasFields, with_null_fields_twice}
use Rattle.cap_model.proofs.Words.WordsBack.{word_lt}
use Rattle.cap_model.proofs.Bounds.WindowsEnd.{same_bounds_in_window}
use Rattle.cap_model.proofs.Words.AddressesMoved.{moved_lawful, moved_word}
use Rattle.cap_model.proofs.Words.FieldsEdited.{edited_perms, edited_otype, edited_bounds}
use Rattle.cap_model.proofs.Words.BoundsRounded.{rounded_fields}
use Rattle.cap_model.proofs.Results.Values.{IsResult, result_of}
use Rattle.cap_model.proofs.Results.AddressResults.{window_test, test_of_window}
use Rattle.cap_ops.specs.declared.making.MakeFault.TheVariants.{PastEnd, Inexact, Unrepresentable}
use Rattle.cap_ops.specs.Making.{capability_with, made, root_with}

-- the fields of the null word
null_has_fields : HasFields 0 0 0 unsealed_type 1 6 4
unfolding with_null_fields
null_has_fields = record {
  packed = refl;
  perms_known = record { below = omega arith; known = refl };
  flag_below = omega arith;
  otype_below = omega arith;
  ie_below = omega arith;
  t_below = omega arith;
  b_below = omega arith;
}

-- the null word's upper half with permissions
upper_with_perms_is : (perms : ℕ) → with_perms 0 perms ≡ upper_of_fields perms 0 unsealed_type 1 6 4
upper_with_perms_is perms = edited_perms 0 0 0 unsealed_type 1 6 4 null_has_fields perms

perms_have_fields : (perms : ℕ) → IsPermissionSet perms → HasFields (with_perms 0 perms) perms 0 unsealed_type 1 6 4
unfolding upper_of_fields
perms_have_fields perms known = record {
  packed = ap with_null_fields (upper_with_perms_is perms) ∙ with_null_fields_twice _;
  perms_known = known;
  flag_below = omega arith;
  otype_below = omega arith;
  ie_below = omega arith;
  t_below = omega arith;
  b_below = omega arith;
}

-- the same with an object type
abbrev pub unbounded : ℕ → ℕ → ℕ
unbounded perms otype = with_otype (with_perms 0 perms) otype

unbounded_has_fields : (perms otype : ℕ) → IsPermissionSet perms → otype < 2 ^ 18 → HasFields (unbounded perms otype) perms 0 otype 1 6 4
unfolding upper_of_fields
unbounded_has_fields perms otype known below = record {
  packed = ap with_null_fields (edited_otype (with_perms 0 perms) perms 0 unsealed_type 1 6 4 (perms_have_fields perms known) otype) ∙ with_null_fields_twice _;
  perms_known = known;
  flag_below = omega arith;
  otype_below = below;
  ie_below = omega arith;
  t_below = omega arith;
  b_below = omega arith;
}

-- what is requested can be made but for the address
pub record IsMakeable (base len perms otype : ℕ) : Type 0 where
  pub perms_known : IsPermissionSet perms
  pub otype_lawful : IsLawfulType otype
  pub base_below : base < 2 ^ 64
  pub ends : base + len ≤ 2 ^ 64
  pub base_exact : rounded_base base len ≡ base
  pub top_exact : rounded_top base len ≡ base + len

exact_parts : (base len : ℕ) → is_exact base len ≡ true → (rounded_base base len ≡ base) × (rounded_top base len ≡ base + len)
exact_parts base len t =
    let both = and_parts (rounded_base base len == base) _ t in (eqb-true _ _ both.0, eqb-true _ _ both.1)

pub makeable : (base len perms otype : ℕ) → IsPermissionSet perms → IsLawfulType otype → base < 2 ^ 64 → base + len ≤ 2 ^ 64 → is_exact base len ≡ true →
    IsMakeable base len perms otype
makeable base len perms otype known lawful below ends exact =
    let parts = exact_parts base len exact in
    record {
      perms_known = known;
      otype_lawful = lawful;
      base_below = below;
      ends = ends;
      base_exact = parts.0;
      top_exact = parts.1;
    }

module _ (base len perms otype : ℕ) (m : IsMakeable base len perms otype) where
  -- the length of the made bounds
  length_is : base + len - base ≡ len
  length_is = omega arith

  rounded_length_is : rounded_length base len ≡ base + len - base
  rounded_length_is = omega (arith, m.base_exact, m.top_exact)

  -- the upper half with the rounding's fields is that of the capability
  pub made_upper : (addr : ℕ) → with_rounded_fields (unbounded perms otype) base len ≡ upper_of (capability_with base len addr perms otype)
  unfolding upper_of
  made_upper addr =
      let fits : len ≤ 2 ^ 64 = omega (arith, m.ends) in
      let fields = unbounded_has_fields perms otype m.perms_known m.otype_lawful.below in
      rounded_fields (unbounded perms otype) base len fits
      ∙ edited_bounds (unbounded perms otype) perms 0 otype 1 6 4 fields _ _ _
      ∙ rw (m.base_exact, m.top_exact) refl

  -- at its base it is lawful
  pub lawful_at_base : IsLawful (capability_with base len base perms otype)
  lawful_at_base =
      let fits : len ≤ 2 ^ 64 = omega (arith, m.ends) in
      record {
        perms = m.perms_known;
        flag = omega arith;
        otype = m.otype_lawful;
        base_below = m.base_below;
        ordered = omega arith;
        top_at_most = m.ends;
        base_fits = rw (m.base_exact, m.top_exact) at (rounded_base_multiple base len fits);
        top_fits = rw (m.base_exact, m.top_exact) at (rounded_top_multiple base len fits);
        addr_below = m.base_below;
        in_window = rw (m.base_exact, m.top_exact) at (requested_base_in_window base len fits);
      }

  -- the bounds are decoded to the same just at the addresses of the window
  pub made_window : (upper addr : ℕ) → upper ≡ with_rounded_fields (unbounded perms otype) base len →
      ((raw_base upper addr ≡ raw_base upper base) × (raw_top upper addr ≡ raw_top upper base)) ↔ IsInWindow base len addr
  made_window upper addr e =
      let window = same_bounds_in_window (capability_with base len base perms otype) lawful_at_base addr in
      rw (e, made_upper base) (rw length_is at window)

  -- at an address of the window it is the result of its halves
  pub made_result : (upper addr : ℕ) → upper ≡ with_rounded_fields (unbounded perms otype) base len → addr < 2 ^ 64 → IsInWindow base len addr →
      IsResult (valid (capability_with base len addr perms otype)) true (word_of_halves upper addr)
  made_result upper addr e below inside =
      let there : IsInWindow base (base + len - base) addr = rw length_is inside in
      let lawful : IsLawful (capability_with base len addr perms otype) =
      moved_lawful (capability_with base len base perms otype) lawful_at_base addr below there in
      let word : word_of (capability_with base len addr perms otype) ≡ word_of_halves upper addr =
      rw (e, made_upper base) (moved_word (capability_with base len base perms otype) addr) in
      result_of true (capability_with base len addr perms otype) (word_of_halves upper addr)
      (subst (λ (w : ℕ). w < 2 ^ 128) word (word_lt (capability_with base len addr perms otype) lawful))
      (λ t. record { lawful = lawful; same = word })

-- when each answer comes
pub made-past_end : (base len addr perms otype : ℕ) → 2 ^ 64 < base + len → made base len addr perms otype ≡ Err PastEnd
unfolding made
made-past_end base len addr perms otype h = rw (lt-ltb (2 ^ 64) (base + len) h) refl

pub made-inexact : (base len addr perms otype : ℕ) → base + len ≤ 2 ^ 64 → is_exact base len ≡ false → made base len addr perms otype ≡ Err Inexact
unfolding made
made-inexact base len addr perms otype h inexact = rw (le-ltb (2 ^ 64) (base + len) h, inexact) refl

pub made-unrepresentable : (base len addr perms otype : ℕ) → base + len ≤ 2 ^ 64 → is_exact base len ≡ true → (IsInWindow base len addr → ⊥) →
    made base len addr perms otype ≡ Err Unrepresentable
unfolding made
made-unrepresentable base len addr perms otype h exact outside =
    let test : is_in_window base len addr ≡ false = false_from_ne_true _ (λ t. outside (window_test base len addr t)) in
    rw (le-ltb (2 ^ 64) (base + len) h, exact, test) refl

pub made-ok : (base len addr perms otype : ℕ) → base + len ≤ 2 ^ 64 → is_exact base len ≡ true → IsInWindow base len addr →
    made base len addr perms otype ≡ Ok (valid (capability_with base len addr (known_permissions perms) otype))
unfolding made
made-ok base len addr perms otype h exact inside =
    rw (le-ltb (2 ^ 64) (base + len) h, exact, test_of_window base len addr inside) refl

-- the root capability
root_lawful : (perms : ℕ) → IsPermissionSet perms → IsLawful (capability_with 0 (2 ^ 64) 0 perms unsealed_type)
unfolding alignment exponent first_from IsInWindow
root_lawful perms known = record {
  perms = known;
  flag = omega arith;
  otype = record { below = omega arith; not_reserved = λ e. omega arith; not_reserved_either = λ e. omega arith };
  base_below = omega arith;
  ordered = omega arith;
  top_at_most = omega arith;
  base_fits = refl;
  top_fits = refl;
  addr_below = omega arith;
  in_window = λ low. absurd (omega arith);
}

root_upper : (perms : ℕ) → with_perms 0 perms ≡ upper_of (capability_with 0 (2 ^ 64) 0 perms unsealed_type)
unfolding upper_of internal_exponent exponent first_from b_field t_field
root_upper perms = upper_with_perms_is perms

pub root_result : (upper perms : ℕ) → upper ≡ with_perms 0 (known_permissions perms) → IsResult (root_with perms) true (word_of_halves upper 0)
unfolding root_with word_of
root_result upper perms e =
    let lawful = root_lawful (known_permissions perms) (dropped_bits_leave_set perms) in
    let word : word_of (capability_with 0 (2 ^ 64) 0 (known_permissions perms) unsealed_type) ≡ word_of_halves upper 0 = rw (e, root_upper (known_permissions perms)) refl in
    result_of true (capability_with 0 (2 ^ 64) 0 (known_permissions perms) unsealed_type) (word_of_halves upper 0)
    (subst (λ (w : ℕ). w < 2 ^ 128) word (word_lt (capability_with 0 (2 ^ 64) 0 (known_permissions perms) unsealed_type) lawful))
    (λ t. record { lawful = lawful; same = word })
