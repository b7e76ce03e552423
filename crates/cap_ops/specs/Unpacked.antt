-- What a capability value keeps beside its word.
use Rattle.std.specs.Prelude.{◌≡◌, ℕ, ◌%◌, ◌^◌, Bool}
use Rattle.cap_model.specs.values.CapValue.{CapValue, IsLawfulValue, bits_of, tag_of}
use Rattle.cap_model.specs.words.Fields.{field_of_perms, with_null_fields}
use Rattle.cap_model.specs.results.Readings.{base_of, top_of, high_of, flags_of, object_type_of}
use Rattle.cap_model.specs.results.Readings.{permissions_of}

-- the value is lawful, and these are its tag t, the halves u and a of its word, and the bounds and
-- fields that the word is decoded to
pub record IsUnpacked (v : CapValue) (t : Bool) (u a low high o p f : ℕ) : Type 0 where
  pub lawful : IsLawfulValue v
  pub tag : tag_of v ≡ t
  pub upper : high_of v ≡ u
  pub addr : bits_of v % 2 ^ 64 ≡ a
  pub base : base_of v ≡ low
  pub top : top_of v ≡ high
  pub otype : object_type_of v ≡ o
  pub permissions : field_of_perms (permissions_of v) ≡ p
  pub flag : flags_of v ≡ f

-- an upper half has the same fields IE, T and B as another, which are its low 27 bits
abbrev pub HasBoundsOf : ℕ → ℕ → Type 0
HasBoundsOf other upper = with_null_fields upper % 2 ^ 27 ≡ with_null_fields other % 2 ^ 27
