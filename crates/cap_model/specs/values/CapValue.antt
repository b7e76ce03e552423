-- What a register or a granule holds: a valid capability, or a raw word without a tag (CHERI ISA
-- v9, "tags").
use Rattle.std.specs.Prelude.{◌≡◌, ℕ, ◌^◌, ◌<◌, Bool, true, false}
use Rattle.cap_model.specs.values.Capability.{Capability, IsLawful, word_of, capability_at}

pub data CapValue : Type 0 where
  valid : Capability → CapValue
  raw : ℕ → CapValue

-- its 128 bits
abbrev pub bits_of : CapValue → ℕ
bits_of (valid c) = word_of c
bits_of (raw word) = word

abbrev pub tag_of : CapValue → Bool
tag_of (valid c) = true
tag_of (raw word) = false

-- its bounds, address and fields: of a raw word those that it is read as
abbrev pub parts_of : CapValue → Capability
parts_of (valid c) = c
parts_of (raw word) = capability_at word

-- the value of a word and a tag
abbrev pub value_at : Bool → ℕ → CapValue
value_at true word = valid (capability_at word)
value_at false word = raw word

-- a result that is tagged where a condition holds: this capability, else this edited word
abbrev pub tagged_where : Bool → Capability → ℕ → CapValue
tagged_where true c word = valid c
tagged_where false c word = raw word

-- what can be in a register: a lawful capability, or any word of 128 bits
abbrev pub IsLawfulValue : CapValue → Type 0
IsLawfulValue (valid c) = IsLawful c
IsLawfulValue (raw word) = word < 2 ^ 128

-- A word that is the word of a lawful capability, namely of the one that it is read as.
pub record IsEncoding (word : ℕ) : Type 0 where
  pub lawful : IsLawful (capability_at word)
  pub same : word_of (capability_at word) ≡ word

-- where a tag is set the word is that of a lawful capability
pub record IsTaggedWord (tag : Bool) (word : ℕ) : Type 0 where
  pub below : word < 2 ^ 128
  pub encoded : tag ≡ true → IsEncoding word
