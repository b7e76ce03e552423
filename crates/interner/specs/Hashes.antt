-- Where a row is looked for: its tag says from where on.
use Rattle.std.specs.Prelude.{ℕ, ◌*◌, ◌/◌, ◌%◌, ◌^◌, List, bit_xor}
use Rattle.std.specs.List.{fold}

-- the hash after one more number
abbrev pub mixed : ℕ → ℕ → ℕ
mixed hash number = (bit_xor hash number * 0x9E37_79B9_7F4A_7C15) % 2 ^ 64

-- the hash of a row
unfoldable pub hash_of : List ℕ → ℕ
hash_of row = fold mixed 0xCBF2_9CE4_8422_2325 row

-- the tag of a row: the upper half of its hash
unfoldable pub tag_of : List ℕ → ℕ
tag_of row = hash_of row / 2 ^ 32

-- the place from which on a row with this tag is looked for, where there are so many homes
unfoldable pub home_of : ℕ → ℕ → ℕ
home_of tag homes = tag * homes / 2 ^ 32
