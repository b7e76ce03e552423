-- Values with their bounds and fields beside them.
use Rattle.std.proofs.Common.{◌≡◌, ℕ, ◌+◌, ◌*◌, ◌/◌, ◌%◌, ◌^◌, ◌<◌, ◌≤◌, Bool, true, false, ◌&&◌, arith, ap, sym, subst, ◌∙◌, refl}
use Rattle.std.proofs.lemmas.Bool.{and_parts, false≢true}
use Rattle.cap_model.specs.words.Fields.{with_null_fields, perms_of_field, field_of_perms, word_ie, stored_t, stored_b, word_exponent, word_b, word_t, word_t14, word_perms, word_otype, word_flag}
use Rattle.cap_model.specs.words.RawBounds.{region_floor, region_start, region_offset, raw_base, uncorrected_top, corrected_top, raw_top}
use Rattle.cap_model.specs.values.Capability.{Capability, IsPermissionSet, unsealed_type, capability_at}
use Rattle.cap_model.specs.values.CapValue.{CapValue, valid, raw, bits_of, tag_of, parts_of, value_at, IsLawfulValue, IsTaggedWord}
use Rattle.cap_model.specs.values.ValueFacts.{bits_of-value_at, tag_of-value_at, parts_of-value_at, IsLawfulValue-value_at}
use Rattle.cap_model.specs.results.EditedWords.{word_of_halves}
use Rattle.cap_model.specs.results.Readings.{base_of, top_of, permissions_of}
use Rattle.cap_model.specs.results.Addresses.{is_open, keeps_bounds, set_address}
use Rattle.cap_model.proofs.Words.FieldsBack.{with_null_fields_lt}
use Rattle.cap_model.proofs.Words.WordsBack.{upper_of_word, raw_base_of_upper, raw_top_of_upper, capability_at_word_of}
use Rattle.cap_model.proofs.Bounds.WindowsHold.{lawful_bounds_in_window}
use Rattle.cap_model.proofs.Results.Values.{open_parts, bits_lt, perms_known}
use Rattle.cap_model.proofs.Results.AddressResults.{window_test, test_of_window, set_address-result}
use Rattle.cap_ops.specs.Unpacked.{HasBoundsOf, IsUnpacked}
use Rattle.cap_ops.proofs.BoundsFields.{same_base, same_top}
use Rattle.cap_ops.proofs.Made.{address_word, made_tagged, made_value}

-- a lawful value is read as its bits are
pub parts_read : (v : CapValue) → IsLawfulValue v → parts_of v ≡ capability_at (bits_of v)
parts_read (valid c) h = sym (capability_at_word_of c h)
parts_read (raw word) h = refl

-- permissions as the word has them and as CGetPerm shows them
field_back : (upper : ℕ) → upper < 2 ^ 64 → field_of_perms (word_perms upper) ≡ with_null_fields upper / 2 ^ 48
unfolding word_perms
field_back upper below = let fields = with_null_fields_lt upper below in omega arith

perms_back : (perms field : ℕ) → IsPermissionSet perms → field_of_perms perms ≡ field → perms_of_field field ≡ perms
perms_back perms field known same = let below = known.below in let gap = known.known in omega arith

pub permissions_shown : (v : CapValue) (field : ℕ) → IsLawfulValue v → field_of_perms (permissions_of v) ≡ field → perms_of_field field ≡ permissions_of v
permissions_shown v field lawful same = perms_back (permissions_of v) field (perms_known v lawful) same

-- what stands beside the halves of a word
pub record IsDecoded (u a low high o p f : ℕ) : Type 0 where
  pub base : low ≡ raw_base u a
  pub top : high ≡ raw_top u a
  pub otype : o ≡ word_otype u
  pub permissions : p ≡ with_null_fields u / 2 ^ 48
  pub flag : f ≡ word_flag u

module _ (v : CapValue) (tag : Bool) (upper addr base top otype permissions flag : ℕ) where
  unpacked : IsLawfulValue v → tag_of v ≡ tag → bits_of v / 2 ^ 64 ≡ upper → bits_of v % 2 ^ 64 ≡ addr →
      IsDecoded upper addr base top otype permissions flag → IsUnpacked v tag upper addr base top otype permissions flag
  unfolding capability_at
  unpacked lawful same_tag high low decoded =
      let parts = parts_read v lawful in
      let bits = bits_lt v lawful in
      record {
        lawful = lawful;
        tag = same_tag;
        upper = high;
        addr = low;
        base = ap (λ (c : Capability). c.base) parts ∙ rw (high, low) (sym decoded.base);
        top = ap (λ (c : Capability). c.top) parts ∙ rw (high, low) (sym decoded.top);
        otype = ap (λ (c : Capability). c.otype) parts ∙ rw high (sym decoded.otype);
        permissions = ap (λ (c : Capability). field_of_perms c.perms) parts ∙ rw high (field_back upper (omega arith) ∙ sym decoded.permissions);
        flag = ap (λ (c : Capability). c.flag) parts ∙ rw high (sym decoded.flag);
      }

  pub decoded_of : IsUnpacked v tag upper addr base top otype permissions flag → IsDecoded upper addr base top otype permissions flag
  unfolding capability_at
  decoded_of kept =
      let parts = parts_read v kept.lawful in
      let bits = bits_lt v kept.lawful in
      let high = kept.upper in
      let low = kept.addr in
      record {
        base = sym (rw (high, low) at (sym (ap (λ (c : Capability). c.base) parts) ∙ kept.base));
        top = sym (rw (high, low) at (sym (ap (λ (c : Capability). c.top) parts) ∙ kept.top));
        otype = sym (rw high at (sym (ap (λ (c : Capability). c.otype) parts) ∙ kept.otype));
        permissions =
            sym kept.permissions ∙ ap (λ (c : Capability). field_of_perms c.perms) parts ∙ rw high (field_back upper (omega arith));
        flag = sym (rw high at (sym (ap (λ (c : Capability). c.flag) parts) ∙ kept.flag));
      }

-- a word with no tag
pub untagged_word : (word : ℕ) → word < 2 ^ 128 → IsTaggedWord false word
untagged_word word below = record { below = below; encoded = λ e. absurd (false≢true e) }

-- a word that is put together of its halves
pub unpacked_halves : (tag : Bool) (upper addr base top otype permissions flag : ℕ) → IsTaggedWord tag (word_of_halves upper addr) → addr < 2 ^ 64 →
    IsDecoded upper addr base top otype permissions flag →
    IsUnpacked (value_at tag (word_of_halves upper addr)) tag upper addr base top otype permissions flag
unpacked_halves tag upper addr base top otype permissions flag is below decoded =
    let bits = bits_of-value_at tag (word_of_halves upper addr) is in
    unpacked _ tag upper addr base top otype permissions flag (IsLawfulValue-value_at tag _ is) (tag_of-value_at tag _)
    (omega arith) (omega arith) decoded

-- an upper half 0 has the whole address space as its bounds, at each address, no permissions, flag 0, and is unsealed
null_decoded : (addr : ℕ) → addr < 2 ^ 64 → IsDecoded 0 addr 0 (2 ^ 64) unsealed_type 0 0
unfolding raw_base raw_top uncorrected_top corrected_top word_exponent word_ie stored_t stored_b word_b word_t word_t14 word_otype word_flag with_null_fields region_floor region_start region_offset
null_decoded addr below = record { base = omega arith; top = omega arith; otype = refl; permissions = refl; flag = refl }

-- an integer
pub unpacked_integer : (number : ℕ) → number < 2 ^ 64 → IsUnpacked (value_at false (word_of_halves 0 number)) false 0 number 0 (2 ^ 64) unsealed_type 0 0
unpacked_integer number below =
    unpacked_halves false 0 number 0 (2 ^ 64) unsealed_type 0 0 (untagged_word _ (omega arith)) below (null_decoded number below)

-- an open value keeps its bounds at an address of its window
module _ (v : CapValue) (addr : ℕ) (lawful : IsLawfulValue v) (opened : is_open v ≡ true) (kept : keeps_bounds v addr ≡ true) where
  pub kept_base : raw_base (bits_of v / 2 ^ 64) addr ≡ base_of v
  kept_base =
      let tagged = open_parts v lawful opened in
      rw (tagged.bits, upper_of_word (parts_of v) tagged.lawful) (raw_base_of_upper (parts_of v) tagged.lawful addr (window_test _ _ addr kept))

  pub kept_top : raw_top (bits_of v / 2 ^ 64) addr ≡ top_of v
  kept_top =
      let tagged = open_parts v lawful opened in
      rw (tagged.bits, upper_of_word (parts_of v) tagged.lawful) (raw_top_of_upper (parts_of v) tagged.lawful addr (window_test _ _ addr kept))

-- an address in the bounds of an open value, or at their top, keeps them
pub keeps_inside : (v : CapValue) (addr : ℕ) → IsLawfulValue v → is_open v ≡ true → addr < 2 ^ 64 → base_of v ≤ addr → addr ≤ top_of v →
    keeps_bounds v addr ≡ true
keeps_inside v addr lawful opened below from to =
    let tagged = open_parts v lawful opened in
    let same : addr % 2 ^ 64 ≡ addr = omega arith in
    test_of_window _ _ addr (rw same at (lawful_bounds_in_window (parts_of v) tagged.lawful addr from to))

-- the same of the bounds that a value keeps
module _ (v w : CapValue) (tag : Bool) (upper addr base top otype permissions flag : ℕ)
    (kept : IsUnpacked w tag upper addr base top otype permissions flag) (is : w ≡ v) where
  own : IsUnpacked v tag upper addr base top otype permissions flag
  own = subst (λ (u : CapValue). IsUnpacked u tag upper addr base top otype permissions flag) is kept

  pub own_addr : bits_of v % 2 ^ 64 ≡ addr
  own_addr = own.addr

  -- with an upper half that has the same bounds
  module _ (edited : ℕ) (same : HasBoundsOf (bits_of v / 2 ^ 64) edited) where
    as_upper : HasBoundsOf upper edited
    as_upper = rw own.upper at same

    pub edited_base : base ≡ raw_base edited addr
    edited_base = (decoded_of v tag upper addr base top otype permissions flag own).base ∙ sym (same_base upper edited as_upper addr)

    pub edited_top : top ≡ raw_top edited addr
    edited_top = (decoded_of v tag upper addr base top otype permissions flag own).top ∙ sym (same_top upper edited as_upper addr)

  pub keeps_tag_inside : (a : ℕ) → is_open v ≡ true → a < 2 ^ 64 → base ≤ a → a ≤ top → true ≡ (is_open v && keeps_bounds v a)
  keeps_tag_inside a opened below from to =
      let low = own.base in
      let high = own.top in
      let inside = keeps_inside v a own.lawful opened below (omega arith) (omega arith) in
      rw (opened, inside) refl

  module _ (a : ℕ) (stays : (is_open v && keeps_bounds v a) ≡ true) where
    open_and_kept : (is_open v ≡ true) × (keeps_bounds v a ≡ true)
    open_and_kept = and_parts (is_open v) _ stays

    pub base_at : base ≡ raw_base (bits_of v / 2 ^ 64) a
    base_at = sym own.base ∙ sym (kept_base v a own.lawful open_and_kept.0 open_and_kept.1)

    pub top_at : top ≡ raw_top (bits_of v / 2 ^ 64) a
    top_at = sym own.top ∙ sym (kept_top v a own.lawful open_and_kept.0 open_and_kept.1)

  module _ (a : ℕ) (below : a < 2 ^ 64) (t : Bool) (same : t ≡ (is_open v && keeps_bounds v a)) where
    moved_tagged : IsTaggedWord t (word_of_halves upper a)
    moved_tagged = made_tagged _ _ _ _ _ (set_address-result v a own.lawful below) same (address_word _ _ _ (sym own.upper))

    pub moved_value : value_at t (word_of_halves upper a) ≡ set_address v a
    moved_value = made_value _ _ _ _ _ (set_address-result v a own.lawful below) same (address_word _ _ _ (sym own.upper))

    pub moved_unpacked : (low high : ℕ) → low ≡ raw_base (bits_of v / 2 ^ 64) a → high ≡ raw_top (bits_of v / 2 ^ 64) a →
        IsUnpacked (value_at t (word_of_halves upper a)) t upper a low high otype permissions flag
    moved_unpacked low high same_base same_top =
        let decoded = decoded_of v tag upper addr base top otype permissions flag own in
        unpacked_halves t upper a low high otype permissions flag moved_tagged below
        (record {
          base = rw own.upper at same_base;
          top = rw own.upper at same_top;
          otype = decoded.otype;
          permissions = decoded.permissions;
          flag = decoded.flag;
        })
