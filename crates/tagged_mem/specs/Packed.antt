-- RAM as its bytes, in the order of their addresses, and a bitmap with one tag for each granule.
use Rattle.std.specs.Prelude.{◌≡◌, ℕ, zero, suc, ◌+◌, ◌*◌, ◌/◌, ◌%◌, ◌==◌, ◌<◌, ◌≤◌, Bool, true}
use Rattle.std.specs.Prelude.{List, [], ◌∷◌, length, slice_index_or, slice_set}
use Rattle.std.specs.Int.{bit_at}
use Rattle.cap_model.specs.values.CapValue.{CapValue, value_at, IsTaggedWord}
use Rattle.cheri_model.specs.steps.Memory.{is_ram_size}

-- the number that this many bytes are, from byte i on, the least significant first
unfoldable pub number_at : List ℕ → ℕ → ℕ → ℕ
number_at bytes i zero = 0
number_at bytes i (suc n) = slice_index_or bytes i 0 + 256 * number_at bytes (i + 1) n

-- the bytes with this many replaced, from byte i on, by those of a number
unfoldable pub with_number : List ℕ → ℕ → ℕ → ℕ → List ℕ
with_number bytes i zero number = bytes
with_number bytes i (suc n) number =
    with_number (slice_set bytes i (number % 256)) (i + 1) n (number / 256)

-- the tag of granule k: bit k % 8 of byte k / 8 of the bitmap
unfoldable pub tag_at : List ℕ → ℕ → Bool
tag_at tags k = bit_at (slice_index_or tags (k / 8) 0) (k % 8) == 1

-- the value of granule k
abbrev pub packed_at : List ℕ → List ℕ → ℕ → CapValue
packed_at bytes tags k = value_at (tag_at tags k) (number_at bytes (16 * k) 16)

-- the values of this many granules, from granule k on
unfoldable pub granules_from : List ℕ → List ℕ → ℕ → ℕ → List CapValue
granules_from bytes tags k zero = []
granules_from bytes tags k (suc n) = packed_at bytes tags k ∷ granules_from bytes tags (suc k) n

-- the memory that bytes and bitmap are
abbrev pub unpacked_memory : List ℕ → List ℕ → List CapValue
unpacked_memory bytes tags = granules_from bytes tags 0 (length bytes / 16)

-- What packed RAM keeps: a size that RAM may have, a bit for each granule, and a tag only on the
-- word of a lawful capability.
pub record IsPackedRam (bytes tags : List ℕ) : Type 0 where
  pub size : is_ram_size (length bytes) ≡ true
  pub room : length bytes ≤ 128 * length tags
  pub octets : (i : ℕ) → slice_index_or bytes i 0 < 256
  pub tagged : (k : ℕ) → IsTaggedWord (tag_at tags k) (number_at bytes (16 * k) 16)
