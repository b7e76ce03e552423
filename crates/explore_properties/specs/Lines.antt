-- Lines of a listing that carry properties (this project's own format): `#!` and a space come
-- first but for spaces and tabs, and spaces and tabs at the end don't count.
use Rattle.std.specs.Prelude.{ℕ, ◌==◌, nat_le, Bool, ◌&&◌, ◌||◌, if◌then◌else◌, List, [], ◌∷◌}
use Rattle.std.specs.Prelude.{length, take, slice_index, zero, suc}
use Rattle.std.specs.List.{take_while}

-- a space or a tab
abbrev pub is_blank : ℕ → Bool
is_blank b = (b == 0x20) || (b == 0x09)

-- How many bytes a line has without the spaces and tabs at its end: before such as are none of
-- these each byte counts.
abbrev pub with_byte : Bool → ℕ → ℕ
with_byte blank zero = if blank then 0 else suc zero
with_byte blank (suc rest) = suc (suc rest)

unfoldable pub text_length : List ℕ → ℕ
text_length [] = 0
text_length (b ∷ rest) = with_byte (is_blank b) (text_length rest)

abbrev pub trimmed : List ℕ → List ℕ
trimmed line = take (text_length line) line

-- how many spaces and tabs a line begins with
abbrev pub blank_count : List ℕ → ℕ
blank_count line = length (take_while is_blank line)

-- a text begins with `#!`; and then a space
abbrev pub is_marked : List ℕ → Bool
is_marked text =
    nat_le 2 (length text) && (slice_index text 0 == 0x23) && (slice_index text 1 == 0x21)

abbrev pub is_parted : List ℕ → Bool
is_parted text = nat_le 3 (length text) && (slice_index text 2 == 0x20)
