-- Values: what is known of a lawful one, and when a result is lawful.
use Rattle.std.specs.Prelude.{◌≡◌, ℕ, ◌/◌, ◌^◌, ◌<◌, Bool, true, false}
use Rattle.std.proofs.Common.{arith, refl, ap, sym, ◌∙◌, subst, eqb-true}
use Rattle.std.proofs.lemmas.Bool.{and_parts, false≢true}
use Rattle.cap_model.specs.words.Fields.{word_perms}
use Rattle.cap_model.specs.values.Capability.{Capability, IsPermissionSet, IsLawful, unsealed_type, word_of, capability_at}
use Rattle.cap_model.specs.values.CapValue.{CapValue, valid, raw, bits_of, tag_of, parts_of, value_at, tagged_where, IsLawfulValue, IsEncoding, IsTaggedWord}
use Rattle.cap_model.specs.values.ValueFacts.{IsLawfulValue-value_at}
use Rattle.cap_model.specs.results.EditedWords.{word_with_address, word_with_upper}
use Rattle.cap_model.specs.results.Addresses.{is_open}
use Rattle.cap_model.proofs.Words.FieldsBack.{with_null_fields_lt}
use Rattle.cap_model.proofs.Words.RawWords.{raw_top_lt}
use Rattle.cap_model.proofs.Words.WordsBack.{word_lt, capability_at_word_of, encoding_of}
use Rattle.cap_model.proofs.Words.WordsEdited.{IsWordOf}

-- an encoding has 128 bits
pub encoding_lt : (w : ℕ) → IsEncoding w → w < 2 ^ 128
encoding_lt w h = rw h.same at (word_lt (capability_at w) h.lawful)

-- the value of its tag and its bits
pub value_back : (v : CapValue) → IsLawfulValue v → value_at (tag_of v) (bits_of v) ≡ v
value_back (valid c) h = ap valid (capability_at_word_of c h)
value_back (raw word) h = refl

-- its bits are a word that may have its tag
pub value_tagged : (v : CapValue) → IsLawfulValue v → IsTaggedWord (tag_of v) (bits_of v)
value_tagged (valid c) h = record { below = word_lt c h; encoded = λ _. encoding_of c h }
value_tagged (raw word) h = record { below = h; encoded = λ e. absurd (false≢true e) }

-- a value is this word with this tag, and is tagged only where the word is that of a lawful capability
pub record IsResult (v : CapValue) (tag : Bool) (word : ℕ) : Type 0 where
  pub same : value_at tag word ≡ v
  pub tagged : IsTaggedWord tag word

-- a result whose changed capability is lawful and has the edited word where the condition holds
pub result_of : (tag : Bool) (c : Capability) (word : ℕ) → word < 2 ^ 128 → (tag ≡ true → IsWordOf c word) → IsResult (tagged_where tag c word) tag word
result_of true c word below made =
    let m = made refl in
    let back : capability_at word ≡ c = ap capability_at (sym m.same) ∙ capability_at_word_of c m.lawful in
    record {
      same = ap valid back;
      tagged = record { below = below; encoded = λ _. subst IsEncoding m.same (encoding_of c m.lawful) };
    }
result_of false c word below made =
    record { same = refl; tagged = record { below = below; encoded = λ h. absurd (false≢true h) } }

-- such a result is lawful
pub result_is_lawful : {v : CapValue} {tag : Bool} {word : ℕ} → IsResult v tag word → IsLawfulValue v
result_is_lawful {v} {tag} {word} r = subst IsLawfulValue r.same (IsLawfulValue-value_at tag word r.tagged)

-- a lawful value has 128 bits
pub bits_lt : (v : CapValue) → IsLawfulValue v → bits_of v < 2 ^ 128
bits_lt (valid c) h = word_lt c h
bits_lt (raw word) h = h

-- a lawful value with a tag is a lawful capability with its word
pub record IsTagged (v : CapValue) : Type 0 where
  pub lawful : IsLawful (parts_of v)
  pub bits : bits_of v ≡ word_of (parts_of v)

pub tagged_parts : (v : CapValue) → IsLawfulValue v → tag_of v ≡ true → IsTagged v
tagged_parts (valid c) h t = record { lawful = h; bits = refl }
tagged_parts (raw word) h t = absurd (false≢true t)

pub open_parts : (v : CapValue) → IsLawfulValue v → is_open v ≡ true → IsTagged v
open_parts v h t = tagged_parts v h (and_parts (tag_of v) _ t).0

pub open_is_unsealed : (v : CapValue) → is_open v ≡ true → (parts_of v).otype ≡ unsealed_type
open_is_unsealed v t = eqb-true _ _ (and_parts (tag_of v) _ t).1

-- the parts of any value are in their ranges
pub perms_known : (v : CapValue) → IsLawfulValue v → IsPermissionSet (parts_of v).perms
unfolding capability_at word_perms
perms_known (valid c) h = h.perms
perms_known (raw word) h = let fields = with_null_fields_lt (word / 2 ^ 64) (omega arith) in omega arith

-- words put together of halves
pub word_with_upper_lt : (word upper : ℕ) → upper < 2 ^ 64 → word_with_upper word upper < 2 ^ 128
unfolding word_with_upper
word_with_upper_lt word upper h = omega arith

pub word_with_address_lt : (word a : ℕ) → word < 2 ^ 128 → a < 2 ^ 64 → word_with_address word a < 2 ^ 128
unfolding word_with_address
word_with_address_lt word a h p = omega arith

-- a top has 65 bits
pub top_lt : (v : CapValue) → IsLawfulValue v → (parts_of v).top < 2 ^ 65
unfolding capability_at
top_lt (valid c) h = omega (arith, h.top_at_most)
top_lt (raw word) h = raw_top_lt _ _
