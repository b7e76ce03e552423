-- An edited word of a lawful capability is the word of the capability with that part replaced, and this one is lawful.
use Rattle.std.specs.Prelude.{◌≡◌, ℕ, ◌-◌, ◌/◌, ◌^◌, ◌<◌}
use Rattle.std.proofs.Common.{arith, refl, ap, ◌∙◌}
use Rattle.cap_model.specs.bounds.Window.{IsInWindow}
use Rattle.cap_model.specs.values.Capability.{Capability, IsPermissionSet, IsLawfulType, IsLawful, upper_of, word_of}
use Rattle.cap_model.specs.results.EditedWords.{with_perms, with_flag, with_otype, word_with_address, word_with_upper}
use Rattle.cap_model.proofs.Words.WordsBack.{upper_of_word}
use Rattle.cap_model.proofs.Words.AddressesMoved.{moved_lawful, moved_word}
use Rattle.cap_model.proofs.Words.FieldsEdited.{upper_with_perms, upper_with_flag, upper_with_otype}

-- a capability is lawful and this is its word
pub record IsWordOf (c : Capability) (word : ℕ) : Type 0 where
  pub lawful : IsLawful c
  pub same : word_of c ≡ word

-- a lawful capability with other permissions, another flag and another object type
lawful_with_fields : (c : Capability) (perms flag otype : ℕ) → IsLawful c → IsPermissionSet perms → flag < 2 → IsLawfulType otype →
    IsLawful (record c { perms = perms; flag = flag; otype = otype })
lawful_with_fields c perms flag otype h known low lawful = record {
  perms = known;
  flag = low;
  otype = lawful;
  base_below = h.base_below;
  ordered = h.ordered;
  top_at_most = h.top_at_most;
  base_fits = h.base_fits;
  top_fits = h.top_fits;
  addr_below = h.addr_below;
  in_window = h.in_window;
}

pub lawful_with_otype : (c : Capability) (n : ℕ) → IsLawful c → IsLawfulType n → IsLawful (record c { otype = n })
lawful_with_otype c n h fits = lawful_with_fields c c.perms c.flag n h h.perms h.flag fits

pub lawful_with_flag : (c : Capability) (n : ℕ) → IsLawful c → n < 2 → IsLawful (record c { flag = n })
lawful_with_flag c n h fits = lawful_with_fields c c.perms n c.otype h h.perms fits h.otype

pub lawful_with_perms : (c : Capability) (n : ℕ) → IsLawful c → IsPermissionSet n → IsLawful (record c { perms = n })
lawful_with_perms c n h fits = lawful_with_fields c n c.flag c.otype h fits h.flag h.otype

-- the word with the upper half of another capability with the same address
pub word_from_upper : (c d : Capability) (upper : ℕ) → IsLawful c → d.addr ≡ c.addr → upper ≡ upper_of d → word_of d ≡ word_with_upper (word_of c) upper
unfolding word_with_upper word_of
word_from_upper c d upper h same_addr same_upper = omega (arith, h.addr_below)

pub word_with_another_otype : (c : Capability) (n : ℕ) → IsLawful c → IsLawfulType n →
    IsWordOf (record c { otype = n }) (word_with_upper (word_of c) (with_otype (word_of c / 2 ^ 64) n))
word_with_another_otype c n h fits =
    rw (upper_of_word c h)
    record {
      lawful = lawful_with_otype c n h fits;
      same = word_from_upper c (record c { otype = n }) _ h refl (upper_with_otype c n h);
    }

pub word_with_another_flag : (c : Capability) (n : ℕ) → IsLawful c → n < 2 →
    IsWordOf (record c { flag = n }) (word_with_upper (word_of c) (with_flag (word_of c / 2 ^ 64) n))
word_with_another_flag c n h fits =
    rw (upper_of_word c h)
    record {
      lawful = lawful_with_flag c n h fits;
      same = word_from_upper c (record c { flag = n }) _ h refl (upper_with_flag c n h);
    }

pub word_with_other_perms : (c : Capability) (n : ℕ) → IsLawful c → IsPermissionSet n →
    IsWordOf (record c { perms = n }) (word_with_upper (word_of c) (with_perms (word_of c / 2 ^ 64) n))
word_with_other_perms c n h fits =
    rw (upper_of_word c h)
    record {
      lawful = lawful_with_perms c n h fits;
      same = word_from_upper c (record c { perms = n }) _ h refl (upper_with_perms c n h);
    }

pub word_with_perms_and_otype : (c : Capability) (n t : ℕ) → IsLawful c → IsPermissionSet n → IsLawfulType t →
    IsWordOf (record c { perms = n; otype = t }) (word_with_upper (word_of c) (with_perms (with_otype (word_of c / 2 ^ 64) t) n))
word_with_perms_and_otype c n t h fits fits_too =
    let retyped : IsLawful (record c { otype = t }) = lawful_with_otype c t h fits_too in
    rw (upper_of_word c h)
    record {
      lawful = lawful_with_perms (record c { otype = t }) n retyped fits;
      same =
          word_from_upper c (record c { perms = n; otype = t }) _ h refl
          (ap (λ (u : ℕ). with_perms u n) (upper_with_otype c t h) ∙ upper_with_perms (record c { otype = t }) n retyped);
    }

pub word_with_another_address : (c : Capability) (a : ℕ) → IsLawful c → a < 2 ^ 64 → IsInWindow c.base (c.top - c.base) a →
    IsWordOf (record c { addr = a }) (word_with_address (word_of c) a)
unfolding word_with_address
word_with_another_address c a h below inside =
    rw (upper_of_word c h) record { lawful = moved_lawful c h a below inside; same = moved_word c a }
