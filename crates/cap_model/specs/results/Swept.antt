-- What a sweep makes of one value: the tag is cleared of every capability whose base lies in a
-- range of addresses (revocation, as in CheriBSD and Cornucopia).
use Rattle.std.specs.Prelude.{ℕ, nat_le, nat_lt, Bool, ◌&&◌, if◌then◌else◌}
use Rattle.cap_model.specs.values.CapValue.{CapValue, tag_of, parts_of}
use Rattle.cap_model.specs.results.Addresses.{clear_tag}

-- whether a sweep of [lo, hi) clears this value's tag: it is tagged, and its base lies in the range
abbrev pub is_in_sweep : ℕ → ℕ → CapValue → Bool
is_in_sweep lo hi v = tag_of v && nat_le lo (parts_of v).base && nat_lt (parts_of v).base hi

-- the value after the sweep
unfoldable pub swept : ℕ → ℕ → CapValue → CapValue
swept lo hi v = if is_in_sweep lo hi v then clear_tag v else v
