-- The results of instructions that replace one field of a capability (CHERI ISA v9, "capability
-- instructions").
use Rattle.std.specs.Prelude.{ℕ, ◌/◌, ◌%◌, ◌^◌, bit_and}
use Rattle.cap_model.specs.values.CapValue.{CapValue, raw, bits_of, parts_of, tagged_where}
use Rattle.cap_model.specs.results.EditedWords.{with_perms, with_flag, word_with_upper}
use Rattle.cap_model.specs.results.Addresses.{is_open}

-- CAndPerm: the permissions that are also in the mask, which has CGetPerm's form
unfoldable pub and_perm : CapValue → ℕ → CapValue
and_perm v mask =
    let perms = bit_and (parts_of v).perms mask in
    tagged_where (is_open v) (record (parts_of v) { perms = perms })
    (word_with_upper (bits_of v) (with_perms (bits_of v / 2 ^ 64) perms))

-- CSetFlags: the flag becomes the lowest bit of a number
unfoldable pub set_flags : CapValue → ℕ → CapValue
set_flags v flags =
    let flag = flags % 2 in
    tagged_where (is_open v) (record (parts_of v) { flag = flag })
    (word_with_upper (bits_of v) (with_flag (bits_of v / 2 ^ 64) flag))

-- CSetHigh: another upper half, never with a tag
unfoldable pub set_high : CapValue → ℕ → CapValue
set_high v upper = raw (word_with_upper (bits_of v) upper)
