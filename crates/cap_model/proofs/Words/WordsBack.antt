-- The word of a lawful capability gives the capability back.
use Rattle.std.specs.Prelude.{◌≡◌, ℕ, ◌-◌, ◌/◌, ◌%◌, ◌^◌, ◌<◌}
use Rattle.std.proofs.Common.{arith, sym, ap, ◌∙◌}
use Rattle.cap_model.specs.bounds.Lengths.{exponent, internal_exponent}
use Rattle.cap_model.specs.bounds.Window.{IsInWindow}
use Rattle.cap_model.specs.words.RawBounds.{raw_base, raw_top}
use Rattle.cap_model.specs.values.Capability.{Capability, IsLawful, b_field, t_field, upper_of_fields, upper_of, word_of, capability_at}
use Rattle.cap_model.specs.values.CapValue.{IsEncoding}
use Rattle.cap_model.specs.words.WordLaws.{HasItsFields}
use Rattle.cap_model.proofs.Bounds.BoundsDigits.{has_digits}
use Rattle.cap_model.proofs.Bounds.BoundsBack.{SaysBounds, raw_base_back, raw_top_back}
use Rattle.cap_model.proofs.Words.FieldsBack.{HasFields, with_null_fields_twice, has_perms, has_reserved, has_flag, has_otype, has_ie, has_t, has_b, has_64_bits}
use Rattle.cap_model.proofs.Bounds.DigitsBack.{b_field_lt, t_field_lt, says_bounds}
use Rattle.cap_model.proofs.Bounds.RegionPlaces.{place_from_window}

-- the upper half of a lawful capability's word has its fields
pub upper_has_fields : (c : Capability) → IsLawful c →
    HasFields (upper_of c) c.perms c.flag c.otype (internal_exponent (c.top - c.base))
    (t_field (internal_exponent (c.top - c.base)) (exponent (c.top - c.base)) c.top)
    (b_field (internal_exponent (c.top - c.base)) (exponent (c.top - c.base)) c.base)
unfolding upper_of upper_of_fields
upper_has_fields c h =
    let digits = has_digits c h in
    record {
      packed = with_null_fields_twice _;
      perms_known = h.perms;
      flag_below = h.flag;
      otype_below = h.otype.below;
      ie_below = digits.internal;
      t_below = t_field_lt _ _ _ _ digits;
      b_below = b_field_lt _ _ _ _ digits;
    }

-- these fields say its bounds
pub upper_says_bounds : (c : Capability) → IsLawful c → SaysBounds (upper_of c) (exponent (c.top - c.base)) c.base c.top
upper_says_bounds c h =
    let fields = upper_has_fields c h in
    says_bounds (upper_of c) (internal_exponent (c.top - c.base)) (exponent (c.top - c.base)) c.base c.top (has_digits c h)
    (has_ie _ _ _ _ _ _ _ fields) (has_t _ _ _ _ _ _ _ fields) (has_b _ _ _ _ _ _ _ fields)

-- the fields as they are read
pub has_its_fields : (c : Capability) → IsLawful c → HasItsFields c
has_its_fields c h =
    let fields = upper_has_fields c h in
    let says = upper_says_bounds c h in
    record {
      perms = has_perms _ _ _ _ _ _ _ fields;
      reserved = has_reserved _ _ _ _ _ _ _ fields;
      flag = has_flag _ _ _ _ _ _ _ fields;
      otype = has_otype _ _ _ _ _ _ _ fields;
      ie = has_ie _ _ _ _ _ _ _ fields;
      b = says.b;
      t = says.t;
      exponent = says.exponent;
    }

-- the raw bounds are its bounds, at each address of its window
pub raw_base_of_upper : (c : Capability) → IsLawful c → (a : ℕ) → IsInWindow c.base (c.top - c.base) a → raw_base (upper_of c) a ≡ c.base
raw_base_of_upper c h a inside =
    raw_base_back (upper_of c) (internal_exponent (c.top - c.base)) (exponent (c.top - c.base)) c.base c.top a (has_digits c h) (upper_says_bounds c h)
    (place_from_window c.base (c.top - c.base) a inside)

pub raw_top_of_upper : (c : Capability) → IsLawful c → (a : ℕ) → IsInWindow c.base (c.top - c.base) a → raw_top (upper_of c) a ≡ c.top
raw_top_of_upper c h a inside =
    raw_top_back (upper_of c) (internal_exponent (c.top - c.base)) (exponent (c.top - c.base)) c.base c.top a (has_digits c h) (upper_says_bounds c h)
    (place_from_window c.base (c.top - c.base) a inside)

-- the upper half has 64 bits
pub upper_lt : (c : Capability) → IsLawful c → upper_of c < 2 ^ 64
upper_lt c h = has_64_bits _ _ _ _ _ _ _ (upper_has_fields c h)

-- the word has 128 bits
pub word_lt : (c : Capability) → IsLawful c → word_of c < 2 ^ 128
unfolding word_of
word_lt c h = let upper = upper_lt c h in let addr = h.addr_below in omega arith

-- the halves of the word
pub upper_of_word : (c : Capability) → IsLawful c → word_of c / 2 ^ 64 ≡ upper_of c
unfolding word_of
upper_of_word c h = let addr = h.addr_below in omega arith

pub addr_of_word : (c : Capability) → IsLawful c → word_of c % 2 ^ 64 ≡ c.addr
unfolding word_of
addr_of_word c h = let addr = h.addr_below in omega arith

-- the word round trip
pub capability_at_word_of : (c : Capability) → IsLawful c → capability_at (word_of c) ≡ c
unfolding capability_at
capability_at_word_of c h =
    let fields = upper_has_fields c h in
    let base_is = raw_base_of_upper c h c.addr h.in_window in
    let top_is = raw_top_of_upper c h c.addr h.in_window in
    rw (upper_of_word c h, addr_of_word c h, base_is, top_is, has_perms _ _ _ _ _ _ _ fields, has_flag _ _ _ _ _ _ _ fields, has_otype _ _ _ _ _ _ _ fields)

-- the word of a lawful capability is an encoding
pub encoding_of : (c : Capability) → IsLawful c → IsEncoding (word_of c)
encoding_of c h =
    let back = capability_at_word_of c h in
    record { lawful = rw back h; same = rw back }

-- lawful capabilities with one word are equal
pub same_from_word : (c d : Capability) → IsLawful c → IsLawful d → word_of c ≡ word_of d → c ≡ d
same_from_word c d h k e = sym (capability_at_word_of c h) ∙ ap capability_at e ∙ capability_at_word_of d k
