-- The words that lawful capabilities have: what is asked of a word, and that just these words have it.
use Rattle.std.proofs.Common.{◌≡◌, ◌≢◌, ℕ, ◌+◌, ◌-◌, ◌*◌, ◌/◌, ◌%◌, ◌^◌, ◌<◌, ◌≤◌, ◌==◌, ◌&&◌, Bool, true, false, not, inl, inr, arith, refl, ap, sym, ◌∙◌, subst, leb-true, ltb-true, eqb-true, lt-ltb}
use Rattle.std.specs.Prelude.{nat_le, nat_lt, IsTrue, ◌↔◌}
use Rattle.std.proofs.lemmas.Bool.{and_parts, le-leb, cases_lt, false≢true, false_from_ne_true}
use Rattle.std.proofs.lemmas.Nat.{pow-add, pow_pos, div-add-mod'}
use Rattle.std.proofs.Math.Nat.{div-lt_iff_lt-mul}
use Rattle.cap_model.specs.bounds.Lengths.{exponent, internal_exponent, alignment}
use Rattle.cap_model.specs.bounds.Window.{IsInWindow, is_in_window}
use Rattle.cap_model.specs.words.Fields.{with_null_fields, field_of_perms, word_perms, word_reserved, word_flag, word_otype, word_ie, word_exponent}
use Rattle.cap_model.specs.words.RawBounds.{raw_base}
use Rattle.cap_model.specs.values.Capability.{Capability, IsLawful, IsLawfulType, last_sealable_type, b_field, t_field, upper_of_fields, upper_of, word_of, capability_at}
use Rattle.cap_model.specs.values.CapValue.{raw, tag_of, IsEncoding, IsTaggedWord}
use Rattle.cap_model.specs.results.EditedWords.{word_of_halves}
use Rattle.cap_model.specs.values.ValueFacts.{tag_of-value_at}
use Rattle.cap_model.specs.results.Rebuilt.{are_aligned}
use Rattle.cap_model.proofs.Words.FieldsBack.{with_null_fields_lt, with_null_fields_twice}
use Rattle.cap_model.proofs.Words.RawWords.{raw_base_lt, word_exponent_at_most}
use Rattle.cap_model.proofs.Words.WordsBack.{has_its_fields, encoding_of}
use Rattle.cap_model.proofs.Words.AddressesMoved.{encoding_upper, moved_lawful, moved_upper}
use Rattle.cap_model.proofs.Bounds.WindowsHold.{in_bounds_in_window}
use Rattle.cap_model.proofs.Bounds.WindowsEnd.{same_base_in_window}
use Rattle.cap_model.proofs.Rounding.Exponents.{exponent_small, exponent_between, internal_exponent_small, internal_exponent_long, alignment_small, alignment_long}
use Rattle.cap_model.proofs.Results.Rebuildings.{eqb-of, flag_lt}
use Rattle.cap_model.proofs.Results.Values.{bits_lt, perms_known}
use Rattle.cap_model.proofs.Results.AddressResults.{window_test, test_of_window}
use Rattle.cap_ops.specs.Tagged.{is_lawful_type, is_encoding, value_from}
use Rattle.cap_ops.specs.Unpacked.{IsUnpacked}
use Rattle.cap_ops.proofs.RawLengths.{IsSaidOnce, HasOwnFields, own_fields, said_of_lawful}
use Rattle.cap_ops.proofs.Unpacking.{parts_read, unpacked_halves, decoded_of}

one_times : (n p : ℕ) → n / p ≡ 1 → 0 < p → (p ≤ n) × (n < 2 * p)
one_times n p one positive =
    let parts = rw one at (div-add-mod' n p) in
    (omega arith, (div-lt_iff_lt-mul {k = p} {x = n} {y = 2} positive).0 (omega arith))

-- What IE and E say of the length of a word's bounds, where they are those of the length.
pub record HasLength (len ie e : ℕ) : Type 0 where
  pub exponent_is : exponent len ≡ e
  pub internal : internal_exponent len ≡ ie
  pub alignment_is : alignment len ≡ 2 ^ (ie * (e + 3))

short_length : (len ie e : ℕ) → ie ≡ 0 → e ≡ 0 → len / 2 ^ (e + 12) ≡ ie → HasLength len ie e
short_length len ie e none small same =
    let divided : len / 2 ^ 12 ≡ 0 = rw (none, small) at same in
    let short : len < 2 ^ 12 = omega arith in
    rw (none, small)
    (record { exponent_is = exponent_small len (omega arith); internal = internal_exponent_small len short; alignment_is = alignment_small len short })

long_length : (len ie e : ℕ) → ie ≡ 1 → e ≤ 52 → len / 2 ^ (e + 12) ≡ ie → HasLength len ie e
long_length len ie e one most same =
    let fits = one_times len (2 ^ (e + 12)) (same ∙ one) (pow_pos (e + 12)) in
    let double : 2 ^ (e + 13) ≡ 2 * 2 ^ (e + 12) = omega (arith, pow-add 2 e 13, pow-add 2 e 12) in
    let long : 2 ^ 12 ≤ len = omega (arith, fits.0, pow-add 2 e 12, pow_pos e) in
    let is : exponent len ≡ e = exponent_between len e (omega arith) fits.0 (omega (arith, fits.1)) in
    rw one
    (record { exponent_is = is; internal = internal_exponent_long len long; alignment_is = alignment_long len long ∙ rw is (ap (λ n. 2 ^ n) (omega arith)) })

pub length_of_fields : (len ie e : ℕ) → ie < 2 → e ≤ 52 → (ie ≡ 0 → e ≡ 0) → len / 2 ^ (e + 12) ≡ ie → HasLength len ie e
length_of_fields len ie e low most external same = elim (cases_lt ie 1) [
  | inl below ↦ (let none : ie ≡ 0 = omega arith in short_length len ie e none (external none) same)
  | inr above ↦ long_length len ie e (omega arith) most same
]

-- the types that capabilities have, as a test and as a fact
not_equal : (a b : ℕ) → not (a == b) ≡ true → a ≡ b → ⊥
not_equal a b t e = let same = eqb-of a b e in false≢true (sym (ap not same) ∙ t)

equal_not : (a b : ℕ) → (a ≡ b → ⊥) → not (a == b) ≡ true
equal_not a b differ = rw (false_from_ne_true (a == b) (λ t. differ (eqb-true a b t))) refl

pub type_of_test : (otype : ℕ) → is_lawful_type otype ≡ true → IsLawfulType otype
type_of_test otype t =
    let all = and_parts (nat_lt otype (2 ^ 18) && not (otype == last_sealable_type + 1)) _ t in
    let first = and_parts (nat_lt otype (2 ^ 18)) _ all.0 in
    record { below = ltb-true _ _ first.0; not_reserved = not_equal _ _ first.1; not_reserved_either = not_equal _ _ all.1 }

pub test_of_type : (otype : ℕ) → IsLawfulType otype → is_lawful_type otype ≡ true
test_of_type otype h = rw (lt-ltb _ _ h.below, equal_not _ _ h.not_reserved, equal_not _ _ h.not_reserved_either) refl

-- What is asked of an upper half with these parts: no reserved bit, a type that a capability can have, and fields that
-- say bounds of the address space in one way alone.
pub record SaysItself (upper otype base : ℕ) : Type 0 where
  pub reserved : word_reserved upper ≡ 0
  pub not_reserved : otype ≢ last_sealable_type + 1
  pub not_reserved_either : otype ≢ last_sealable_type + 2
  pub bounds : IsSaidOnce upper base

abbrev pub WordSaysItself : ℕ → Type 0
WordSaysItself word = SaysItself (word / 2 ^ 64) (capability_at word).otype (capability_at word).base

-- IE is one bit, and E is 0 without it
pub ie_lt : (upper : ℕ) → word_ie upper < 2
unfolding word_ie
ie_lt upper = omega arith

external : (upper : ℕ) → word_ie upper ≡ 0 → word_exponent upper ≡ 0
unfolding word_exponent
external upper none = rw none refl

-- base, address and type of any word
base_of_any_word : (word : ℕ) → (capability_at word).base < 2 ^ 64
unfolding capability_at
base_of_any_word word = raw_base_lt (word / 2 ^ 64) (word % 2 ^ 64)

addr_of_any_word : (word : ℕ) → (capability_at word).addr < 2 ^ 64
unfolding capability_at
addr_of_any_word word = omega arith

type_of_any_word : (word : ℕ) → (capability_at word).otype < 2 ^ 18
unfolding capability_at word_otype
type_of_any_word word = omega arith

-- an upper half is its fields
packed : (upper perms flag otype low : ℕ) → upper < 2 ^ 64 → word_reserved upper ≡ 0 → word_perms upper ≡ perms → word_flag upper ≡ flag →
    word_otype upper ≡ otype → with_null_fields upper % 2 ^ 27 ≡ low →
    field_of_perms perms * 2 ^ 48 + flag * 2 ^ 45 + otype * 2 ^ 27 + low ≡ with_null_fields upper
unfolding word_reserved word_perms word_flag word_otype
packed upper perms flag otype low below none p f o l =
    let fields = with_null_fields_lt upper below in omega arith

module _ (word : ℕ) (below : word < 2 ^ 128) (says : WordSaysItself word) where
  said : HasOwnFields (word / 2 ^ 64) (capability_at word).base (capability_at word).top
  unfolding capability_at
  said = own_fields (word / 2 ^ 64) (word % 2 ^ 64) says.bounds

  said_length : HasLength ((capability_at word).top - (capability_at word).base) (word_ie (word / 2 ^ 64)) (word_exponent (word / 2 ^ 64))
  said_length =
      length_of_fields _ _ _ (ie_lt (word / 2 ^ 64)) (word_exponent_at_most (word / 2 ^ 64)) (external (word / 2 ^ 64)) said.length

  -- at its base it is lawful
  lawful_at_base : IsLawful (record (capability_at word) { addr = (capability_at word).base })
  lawful_at_base =
      let ordered = said.ordered in
      let most = said.top_at_most in
      let window = in_bounds_in_window (capability_at word).base (capability_at word).top (capability_at word).base (base_of_any_word word) said.top_at_most (omega arith) said.ordered in
      let same : (capability_at word).base % 2 ^ 64 ≡ (capability_at word).base = omega (arith, (base_of_any_word word)) in
      record {
        perms = perms_known (raw word) below;
        flag = flag_lt (raw word) below;
        otype = record { below = type_of_any_word word; not_reserved = says.not_reserved; not_reserved_either = says.not_reserved_either };
        base_below = (base_of_any_word word);
        ordered = said.ordered;
        top_at_most = said.top_at_most;
        base_fits = rw said_length.alignment_is said.base_fits;
        top_fits = rw said_length.alignment_is said.top_fits;
        addr_below = (base_of_any_word word);
        in_window = rw same at window;
      }

  -- its upper half is that of the word
  said_fields : field_of_perms (capability_at word).perms * 2 ^ 48 + (capability_at word).flag * 2 ^ 45 + (capability_at word).otype * 2 ^ 27
      + word_ie (word / 2 ^ 64) * 2 ^ 26
      + t_field (word_ie (word / 2 ^ 64)) (word_exponent (word / 2 ^ 64)) (capability_at word).top * 2 ^ 14
      + b_field (word_ie (word / 2 ^ 64)) (word_exponent (word / 2 ^ 64)) (capability_at word).base
      ≡ with_null_fields (word / 2 ^ 64)
  unfolding capability_at
  said_fields =
      let whole = packed (word / 2 ^ 64) _ _ _ _ (omega arith) says.reserved refl refl refl said.fields in omega arith

  said_upper : upper_of (capability_at word) ≡ word / 2 ^ 64
  unfolding upper_of upper_of_fields
  said_upper = rw (said_length.exponent_is, said_length.internal, said_fields, with_null_fields_twice) refl

  said_base : raw_base (word / 2 ^ 64) (capability_at word).addr ≡ (capability_at word).base
  unfolding capability_at
  said_base = refl

  said_window : IsInWindow (capability_at word).base ((capability_at word).top - (capability_at word).base) (capability_at word).addr
  said_window =
      (same_base_in_window (record (capability_at word) { addr = (capability_at word).base }) lawful_at_base (capability_at word).addr).0
      (rw (moved_upper (capability_at word) (capability_at word).base, said_upper) said_base)

  said_word : word_of (capability_at word) ≡ word
  unfolding word_of capability_at
  said_word = rw said_upper (omega arith)

  pub says_encoding : IsEncoding word
  says_encoding = record { lawful = moved_lawful _ lawful_at_base (capability_at word).addr (addr_of_any_word word) said_window; same = said_word }

-- the words of lawful capabilities have all this
module _ (word : ℕ) (h : IsEncoding word) where
  own_upper : word / 2 ^ 64 ≡ upper_of (capability_at word)
  own_upper = encoding_upper word h

  pub encoding_says : WordSaysItself word
  encoding_says =
      let its = has_its_fields (capability_at word) h.lawful in
      record {
        reserved = rw own_upper its.reserved;
        not_reserved = h.lawful.otype.not_reserved;
        not_reserved_either = h.lawful.otype.not_reserved_either;
        bounds = rw own_upper (said_of_lawful (capability_at word) h.lawful);
      }

  -- the test of the definitions
  pub encoding_passes : is_encoding word ≡ true
  unfolding is_encoding
  encoding_passes =
      let lawful = h.lawful in
      rw (
        test_of_type _ lawful.otype,
        le-leb _ _ lawful.ordered,
        le-leb _ _ lawful.top_at_most,
        eqb-of _ _ lawful.base_fits,
        eqb-of _ _ lawful.top_fits,
        test_of_window _ _ _ lawful.in_window,
        eqb-of _ _ h.same,
      ) refl

pub passed_encoding : (word : ℕ) → word < 2 ^ 128 → is_encoding word ≡ true → IsEncoding word
unfolding is_encoding
passed_encoding word below t =
    let c : Capability = capability_at word in
    let all = and_parts (is_lawful_type c.otype && nat_le c.base c.top && nat_le c.top (2 ^ 64) && are_aligned c.base c.top && is_in_window c.base (c.top - c.base) c.addr) _ t in
    let four = and_parts (is_lawful_type c.otype && nat_le c.base c.top && nat_le c.top (2 ^ 64) && are_aligned c.base c.top) _ all.0 in
    let three = and_parts (is_lawful_type c.otype && nat_le c.base c.top && nat_le c.top (2 ^ 64)) _ four.0 in
    let two = and_parts (is_lawful_type c.otype && nat_le c.base c.top) _ three.0 in
    let one = and_parts (is_lawful_type c.otype) _ two.0 in
    let aligned = and_parts (c.base % alignment (c.top - c.base) == 0) _ three.1 in
    record {
      lawful = record {
        perms = perms_known (raw word) below;
        flag = flag_lt (raw word) below;
        otype = type_of_test _ one.0;
        base_below = base_of_any_word word;
        ordered = leb-true _ _ one.1;
        top_at_most = leb-true _ _ two.1;
        base_fits = eqb-true _ _ aligned.0;
        top_fits = eqb-true _ _ aligned.1;
        addr_below = addr_of_any_word word;
        in_window = window_test _ _ _ four.1;
      };
      same = eqb-true _ _ all.1;
    }

-- what a word says where the test passes, and that it passes there alone
says_passes : (word : ℕ) → word < 2 ^ 128 → WordSaysItself word → is_encoding word ≡ true
says_passes word below says = encoding_passes word (says_encoding word below says)

fails_unless : (word : ℕ) → word < 2 ^ 128 → (WordSaysItself word → ⊥) → is_encoding word ≡ false
fails_unless word below unlike = false_from_ne_true _ (λ t. unlike (encoding_says word (passed_encoding word below t)))

-- the same of a word by its halves
module _ (upper addr : ℕ) (high : upper < 2 ^ 64) (low : addr < 2 ^ 64) where
  word_below : word_of_halves upper addr < 2 ^ 128
  word_below = omega arith

  upper_half : word_of_halves upper addr / 2 ^ 64 ≡ upper
  upper_half = omega arith

  lower_half : word_of_halves upper addr % 2 ^ 64 ≡ addr
  lower_half = omega arith

  said_of_halves : SaysItself upper (word_otype upper) (raw_base upper addr) → WordSaysItself (word_of_halves upper addr)
  unfolding capability_at
  said_of_halves says = rw (upper_half, lower_half) says

  halves_of_said : WordSaysItself (word_of_halves upper addr) → SaysItself upper (word_otype upper) (raw_base upper addr)
  unfolding capability_at
  halves_of_said says = rw (upper_half, lower_half) at says

  pub halves_pass : SaysItself upper (word_otype upper) (raw_base upper addr) → is_encoding (word_of_halves upper addr) ≡ true
  halves_pass says = says_passes (word_of_halves upper addr) word_below (said_of_halves says)

  pub halves_fail : (SaysItself upper (word_otype upper) (raw_base upper addr) → ⊥) → is_encoding (word_of_halves upper addr) ≡ false
  halves_fail unlike = fails_unless (word_of_halves upper addr) word_below (λ says. unlike (halves_of_said says))

  -- it may have a tag that counts
  pub counted_tag : (tag counts : Bool) → counts ≡ (tag && is_encoding (word_of_halves upper addr)) →
      IsTaggedWord counts (word_of_halves upper addr)
  counted_tag tag counts same = record {
    below = word_below;
    encoded = λ t. passed_encoding (word_of_halves upper addr) word_below (and_parts tag _ (sym same ∙ t)).1;
  }

-- the words that pass are those of lawful capabilities
pub test_of_encodings : (word : ℕ) → word < 2 ^ 128 → IsTrue (is_encoding word) ↔ IsEncoding word
test_of_encodings word below = (λ t. passed_encoding word below t, λ h. encoding_passes word h)

pub test_of_capabilities : (word : ℕ) → word < 2 ^ 128 → IsTrue (is_encoding word) ↔ ((c : Capability) × (IsLawful c × (word_of c ≡ word)))
test_of_capabilities word below = (
  λ t. let h = passed_encoding word below t in (capability_at word, (h.lawful, h.same)),
  λ (c, h). encoding_passes word (subst IsEncoding h.1 (encoding_of c h.0)),
)

-- a set tag counts where the test of the word passes
pub tag_counts : (word : ℕ) → tag_of (value_from true word) ≡ is_encoding word
unfolding value_from
tag_counts word = tag_of-value_at _ word

-- the widths of IE and E
pub ruleset field_widths = (ie_lt, word_exponent_at_most)

-- a test of two numbers that decides another test
pub decided_at_most : (a b : ℕ) (r : Bool) → (a ≤ b → r ≡ true) → (b < a → r ≡ false) → nat_le a b ≡ r
decided_at_most a b r passes fails = elim (cases_lt b a) [
  | inl beyond ↦ false_from_ne_true (nat_le a b) (λ t. let within = leb-true a b t in omega arith) ∙ sym (fails beyond)
  | inr within ↦ le-leb a b within ∙ sym (passes within)
]
