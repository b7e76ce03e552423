-- A lawful capability whose bounds are replaced by the rounding of a range inside them.
use Rattle.std.specs.Prelude.{◌≡◌, ℕ, ◌+◌, ◌^◌, ◌≤◌}
use Rattle.std.proofs.Common.{arith, refl, ◌∙◌}
use Rattle.cap_model.specs.bounds.Lengths.{exponent, internal_exponent}
use Rattle.cap_model.specs.bounds.Rounding.{rounded_base, rounded_top}
use Rattle.cap_model.specs.values.Capability.{Capability, IsLawful, b_field, t_field, upper_of, word_of}
use Rattle.cap_model.specs.results.EditedWords.{with_bounds_fields, with_rounded_fields, with_rounded_bounds}
use Rattle.cap_model.proofs.Rounding.Roundings.{rounded_length, rounded_base_below, rounding_ordered, rounded_base_multiple, rounded_top_multiple, exponent_of_rounding, internal_exponent_of_rounding}
use Rattle.cap_model.proofs.Rounding.RoundingsWithin.{IsAligned, rounded_base_within, rounded_top_within, requested_base_in_window}
use Rattle.cap_model.proofs.Words.WordsBack.{upper_of_word}
use Rattle.cap_model.proofs.Words.FieldsEdited.{upper_with_bounds}
use Rattle.cap_model.proofs.Words.WordsEdited.{IsWordOf, word_from_upper}

-- the fields of a rounding are those of the rounded bounds
pub rounded_fields : (upper base len : ℕ) → len ≤ 2 ^ 64 →
    with_rounded_fields upper base len
    ≡ with_bounds_fields upper (internal_exponent (rounded_length base len))
    (t_field (internal_exponent (rounded_length base len)) (exponent (rounded_length base len)) (rounded_top base len))
    (b_field (internal_exponent (rounded_length base len)) (exponent (rounded_length base len)) (rounded_base base len))
unfolding with_rounded_fields
rounded_fields upper base len fits = rw (internal_exponent_of_rounding base len, exponent_of_rounding base len fits) refl

-- lawful bounds are aligned
pub aligned : (c : Capability) → IsLawful c → IsAligned c.base c.top
aligned c h = record { length_at_most = omega (arith, h.top_at_most); base_fits = h.base_fits; top_fits = h.top_fits }

-- the rounding of a range inside lawful bounds lies inside them
pub rounding_from : (c : Capability) (a len : ℕ) → IsLawful c → c.base ≤ a → a + len ≤ c.top → c.base ≤ rounded_base a len
rounding_from c a len h from to = rounded_base_within c.base c.top a len (aligned c h) from to

pub rounding_to : (c : Capability) (a len : ℕ) → IsLawful c → c.base ≤ a → a + len ≤ c.top → rounded_top a len ≤ c.top
rounding_to c a len h from to = rounded_top_within c.base c.top a len (aligned c h) from to

lawful_with_rounding : (c : Capability) (len : ℕ) → IsLawful c → c.base ≤ c.addr → c.addr + len ≤ c.top →
    IsLawful (record c { base = rounded_base c.addr len; top = rounded_top c.addr len })
lawful_with_rounding c len h from to =
    let fits : len ≤ 2 ^ 64 = omega (arith, h.top_at_most) in
    record {
      perms = h.perms;
      flag = h.flag;
      otype = h.otype;
      base_below = rounded_base_below c.addr len h.addr_below;
      ordered = rounding_ordered c.addr len;
      top_at_most = omega (arith, h.top_at_most, rounding_to c c.addr len h from to);
      base_fits = rounded_base_multiple c.addr len fits;
      top_fits = rounded_top_multiple c.addr len fits;
      addr_below = h.addr_below;
      in_window = requested_base_in_window c.addr len fits;
    }

pub word_with_rounded_bounds : (c : Capability) (len : ℕ) → IsLawful c → c.base ≤ c.addr → c.addr + len ≤ c.top →
    IsWordOf (record c { base = rounded_base c.addr len; top = rounded_top c.addr len }) (with_rounded_bounds (word_of c) c.addr len)
unfolding with_rounded_bounds
word_with_rounded_bounds c len h from to =
    let fits : len ≤ 2 ^ 64 = omega (arith, h.top_at_most) in
    rw (upper_of_word c h)
    record {
      lawful = lawful_with_rounding c len h from to;
      same =
          word_from_upper c (record c { base = rounded_base c.addr len; top = rounded_top c.addr len }) _ h refl
          (rounded_fields (upper_of c) c.addr len fits ∙ upper_with_bounds c (rounded_base c.addr len) (rounded_top c.addr len) h);
    }
