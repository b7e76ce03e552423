-- Rebuilt capabilities: when one is given, that it is lawful, and that a capability comes back from its word.
use Rattle.std.specs.Prelude.{◌≡◌, ℕ, ◌-◌, ◌/◌, ◌%◌, ◌^◌, ◌<◌, ◌≤◌, ◌==◌, nat_le, Bool, true, false, ◌&&◌, bit_and}
use Rattle.std.proofs.Common.{arith, refl, leb-true, eqb-true}
use Rattle.std.proofs.lemmas.Bool.{and_parts, le-leb}
use Rattle.cap_model.specs.bounds.Lengths.{alignment}
use Rattle.cap_model.specs.bounds.Window.{IsInWindow}
use Rattle.cap_model.specs.words.Fields.{word_reserved, word_flag}
use Rattle.cap_model.specs.values.Capability.{Capability, IsLawful, unsealed_type, capability_at}
use Rattle.cap_model.specs.values.CapValue.{CapValue, valid, raw, bits_of, parts_of, tagged_where, IsLawfulValue}
use Rattle.cap_model.specs.results.Addresses.{address_of, is_open, clear_tag}
use Rattle.cap_model.specs.results.Readings.{lies_in}
use Rattle.cap_model.specs.results.Rebuilt.{are_aligned, is_buildable, unsealed_parts, build}
use Rattle.cap_model.specs.results.Derivation.{IsWithin}
use Rattle.cap_model.proofs.Words.RawWords.{raw_base_lt}
use Rattle.cap_model.proofs.Words.WordsBack.{upper_of_word, capability_at_word_of, has_its_fields}
use Rattle.cap_model.proofs.Results.Values.{bits_lt, open_parts, perms_known}
use Rattle.cap_model.proofs.Results.AddressResults.{window_test, test_of_window}
use Rattle.cap_model.proofs.Results.FieldResultsMade.{unsealed_is_lawful}

-- what holds where a capability is rebuilt
pub record CanBuild (authority v : CapValue) : Type 0 where
  pub opened : is_open authority ≡ true
  pub base : (parts_of authority).base ≤ (parts_of v).base
  pub top : (parts_of v).top ≤ (parts_of authority).top
  pub perms : bit_and (parts_of v).perms (parts_of authority).perms ≡ (parts_of v).perms
  pub reserved : word_reserved (bits_of v / 2 ^ 64) ≡ 0
  pub ordered : (parts_of v).base ≤ (parts_of v).top
  pub base_fits : (parts_of v).base % alignment ((parts_of v).top - (parts_of v).base) ≡ 0
  pub top_fits : (parts_of v).top % alignment ((parts_of v).top - (parts_of v).base) ≡ 0
  pub in_window : IsInWindow (parts_of v).base ((parts_of v).top - (parts_of v).base) (parts_of v).addr

pub can_build : (authority v : CapValue) → (is_open authority && lies_in (parts_of authority) (parts_of v) && is_buildable v) ≡ true →
    CanBuild authority v
unfolding is_buildable address_of
can_build authority v t =
    let all = and_parts (is_open authority && lies_in (parts_of authority) (parts_of v)) _ t in
    let allowed = and_parts (is_open authority) _ all.0 in
    let lies = and_parts (nat_le (parts_of authority).base (parts_of v).base && nat_le (parts_of v).top (parts_of authority).top) _ allowed.1 in
    let bounds = and_parts (nat_le (parts_of authority).base (parts_of v).base) _ lies.0 in
    let said = and_parts ((word_reserved (bits_of v / 2 ^ 64) == 0) && nat_le (parts_of v).base (parts_of v).top && are_aligned (parts_of v).base (parts_of v).top) _ all.1 in
    let some = and_parts ((word_reserved (bits_of v / 2 ^ 64) == 0) && nat_le (parts_of v).base (parts_of v).top) _ said.0 in
    let first = and_parts (word_reserved (bits_of v / 2 ^ 64) == 0) _ some.0 in
    let aligned = and_parts ((parts_of v).base % alignment ((parts_of v).top - (parts_of v).base) == 0) _ some.1 in
    record {
      opened = allowed.0;
      base = leb-true _ _ bounds.0;
      top = leb-true _ _ bounds.1;
      perms = eqb-true _ _ lies.1;
      reserved = eqb-true _ _ first.0;
      ordered = leb-true _ _ first.1;
      base_fits = eqb-true _ _ aligned.0;
      top_fits = eqb-true _ _ aligned.1;
      in_window = window_test _ _ _ said.1;
    }

-- and back
pub eqb-of : (a b : ℕ) → a ≡ b → (a == b) ≡ true
eqb-of a b e = rw e (grind arith)

pub build_allowed : (authority v : CapValue) → CanBuild authority v →
    (is_open authority && lies_in (parts_of authority) (parts_of v) && is_buildable v) ≡ true
unfolding is_buildable address_of
build_allowed authority v can =
    rw (
      can.opened,
      le-leb _ _ can.base,
      le-leb _ _ can.top,
      eqb-of _ _ can.perms,
      eqb-of _ _ can.reserved,
      le-leb _ _ can.ordered,
      eqb-of _ _ can.base_fits,
      eqb-of _ _ can.top_fits,
      test_of_window _ _ _ can.in_window,
    ) refl

-- the parts of any lawful value
pub flag_lt : (v : CapValue) → IsLawfulValue v → (parts_of v).flag < 2
unfolding capability_at word_flag
flag_lt (valid c) h = h.flag
flag_lt (raw word) h = omega arith

base_lt : (v : CapValue) → IsLawfulValue v → (parts_of v).base < 2 ^ 64
unfolding capability_at
base_lt (valid c) h = h.base_below
base_lt (raw word) h = raw_base_lt _ _

addr_lt : (v : CapValue) → IsLawfulValue v → (parts_of v).addr < 2 ^ 64
unfolding capability_at
addr_lt (valid c) h = h.addr_below
addr_lt (raw word) h = omega arith

-- what is rebuilt is lawful
pub built_capability_lawful : (authority v : CapValue) → IsLawfulValue authority → IsLawfulValue v → CanBuild authority v → IsLawful (unsealed_parts v)
built_capability_lawful authority v h k can =
    let owner = open_parts authority h can.opened in
    let most = owner.lawful.top_at_most in
    let top = can.top in
    record {
      perms = perms_known v k;
      flag = flag_lt v k;
      otype = unsealed_is_lawful;
      base_below = base_lt v k;
      ordered = can.ordered;
      top_at_most = omega arith;
      base_fits = can.base_fits;
      top_fits = can.top_fits;
      addr_below = addr_lt v k;
      in_window = can.in_window;
    }

lawful_where : (tag : Bool) (c : Capability) (word : ℕ) → (tag ≡ true → IsLawful c) → word < 2 ^ 128 → IsLawfulValue (tagged_where tag c word)
lawful_where true c word lawful below = lawful refl
lawful_where false c word lawful below = below

pub built_lawful : (authority v : CapValue) → IsLawfulValue authority → IsLawfulValue v → IsLawfulValue (build authority v)
unfolding build
built_lawful authority v h k =
    lawful_where _ (unsealed_parts v) (bits_of v) (λ t. built_capability_lawful authority v h k (can_build authority v t)) (bits_lt v k)

-- An unsealed capability within an authority comes back from its word.
back_allowed : (authority : CapValue) (c : Capability) → is_open authority ≡ true → IsLawful c → IsWithin c (parts_of authority) →
    CanBuild authority (clear_tag (valid c))
back_allowed authority c opened h within =
    let back = capability_at_word_of c h in
    record {
      opened = opened;
      base = rw back within.base;
      top = rw back within.top;
      perms = rw back within.perms;
      reserved = rw (upper_of_word c h) (has_its_fields c h).reserved;
      ordered = rw back h.ordered;
      base_fits = rw back h.base_fits;
      top_fits = rw back h.top_fits;
      in_window = rw back h.in_window;
    }

pub built_back : (authority : CapValue) (c : Capability) → is_open authority ≡ true → IsLawful c → c.otype ≡ unsealed_type →
    IsWithin c (parts_of authority) → build authority (clear_tag (valid c)) ≡ valid c
unfolding build
built_back authority c opened h unsealed within =
    rw (build_allowed authority (clear_tag (valid c)) (back_allowed authority c opened h within), capability_at_word_of c h, ← unsealed) refl
