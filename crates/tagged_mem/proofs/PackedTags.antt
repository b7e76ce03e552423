-- The bitmap of tags, with one bit replaced.
use Rattle.std.proofs.Common.{◌≡◌, ◌≢◌, ℕ, ◌/◌, ◌%◌, ◌<◌, ◌==◌, Bool, true, false, List, length, inl, inr, arith, refl}
use Rattle.std.specs.Prelude.{slice_index_or, slice_set}
use Rattle.std.specs.Int.{bit_at}
use Rattle.std.proofs.lemmas.Bool.{cases_eq}
use Rattle.std.proofs.lemmas.List.{get_or-set_same, get_or-set_other}
use Rattle.cap_model.specs.results.Readings.{number_of}
use Rattle.tagged_mem.specs.Packed.{tag_at}

-- a bit as a truth value
one_is : (tag : Bool) → (number_of tag == 1) ≡ tag
one_is true = refl
one_is false = refl

pub tag_there : (tags : List ℕ) (granule byte : ℕ) (tag : Bool) → granule / 8 < length tags → bit_at byte (granule % 8) ≡ number_of tag →
    tag_at (slice_set tags (granule / 8) byte) granule ≡ tag
unfolding tag_at
tag_there tags granule byte tag inside bit = rw (get_or-set_same tags (granule / 8) byte 0 inside, bit) (one_is tag)

pub tag_other : (tags : List ℕ) (granule byte k : ℕ) → granule / 8 < length tags → k ≢ granule →
    ((j : ℕ) → j < 8 → j ≢ granule % 8 → bit_at byte j ≡ bit_at (slice_index_or tags (granule / 8) 0) j) →
    tag_at (slice_set tags (granule / 8) byte) k ≡ tag_at tags k
unfolding tag_at
tag_other tags granule byte k inside apart others = elim (cases_eq (k / 8) (granule / 8)) [
  | inl same ↦ rw (same, get_or-set_same tags (granule / 8) byte 0 inside, others (k % 8) (omega arith) (λ e. apart (omega arith))) refl
  | inr other ↦ rw (get_or-set_other tags (granule / 8) (k / 8) byte 0 other) refl
]
