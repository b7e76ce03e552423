-- A value gives back the bits and the tag that it was made of.
use Rattle.std.specs.Prelude.{◌≡◌, ℕ, Bool, true, false, refl}
use Rattle.std.proofs.Common.{sym, ap}
use Rattle.cap_model.specs.values.Capability.{capability_at}
use Rattle.cap_model.specs.values.CapValue.{IsTaggedWord, IsLawfulValue, bits_of, tag_of, parts_of}
use Rattle.cap_model.specs.values.CapValue.{value_at}

pub bits_of-value_at : (tag : Bool) (word : ℕ) → IsTaggedWord tag word →
    bits_of (value_at tag word) ≡ word
bits_of-value_at true word h = (h.encoded refl).same
bits_of-value_at false word h = refl

pub tag_of-value_at : (tag : Bool) (word : ℕ) → tag_of (value_at tag word) ≡ tag
tag_of-value_at true word = refl
tag_of-value_at false word = refl

-- a value is read as its bits are, with or without a tag
pub parts_of-value_at : (tag : Bool) (word : ℕ) → IsTaggedWord tag word →
    parts_of (value_at tag word) ≡ capability_at (bits_of (value_at tag word))
parts_of-value_at true word h = ap capability_at (sym (h.encoded refl).same)
parts_of-value_at false word h = refl

-- what is in a value is lawful
pub IsLawfulValue-value_at : (tag : Bool) (word : ℕ) → IsTaggedWord tag word →
    IsLawfulValue (value_at tag word)
IsLawfulValue-value_at true word h = (h.encoded refl).lawful
IsLawfulValue-value_at false word h = h.below

pub ruleset value_facts = (bits_of-value_at, tag_of-value_at)
