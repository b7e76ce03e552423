-- Where the buffers of a bump allocator lie.
use Rattle.std.specs.Prelude.{◌≡◌, ℕ, ◌+◌, ◌^◌, ◌≤◌, nat_lt, nat_le, Bool, true, ◌&&◌}
use Rattle.std.specs.Prelude.{Option, Some, None, if◌then◌else◌}
use Rattle.cap_model.specs.bounds.Numbers.{round_up}
use Rattle.cap_model.specs.bounds.Lengths.{alignment}
use Rattle.cap_model.specs.bounds.Alignment.{length_at_zero}
use Rattle.cap_model.specs.values.CapValue.{CapValue, valid, parts_of, IsLawfulValue}
use Rattle.cap_model.specs.results.Addresses.{is_open}

-- a region, and the address from which on it is free
pub record Allocator : Type 0 where
  pub region : CapValue
  pub next : ℕ

abbrev pub allocator : CapValue → ℕ → Allocator
allocator region next = record { region = region; next = next }

-- what every allocator is: its region is tagged and unsealed, and the free addresses lie in it
pub record IsAllocator (region : CapValue) (next : ℕ) : Type 0 where
  pub lawful : IsLawfulValue region
  pub open_region : is_open region ≡ true
  pub from_base : (parts_of region).base ≤ next
  pub to_top : next ≤ (parts_of region).top

-- where the next buffer of this many bytes begins, and where it ends
abbrev pub start_of : Allocator → ℕ → ℕ
start_of a len = round_up (alignment (length_at_zero len)) a.next

abbrev pub end_of : Allocator → ℕ → ℕ
end_of a len = start_of a len + length_at_zero len

-- the least length of exact bounds from a length on, where a register holds it
unfoldable pub exact_length : ℕ → Option ℕ
exact_length len = if nat_lt (length_at_zero len) (2 ^ 64) then Some (length_at_zero len) else None

-- whether the region has room for it
abbrev pub fits : Allocator → ℕ → Bool
fits a len = nat_lt (length_at_zero len) (2 ^ 64) && nat_le (end_of a len) (parts_of a.region).top

-- the buffer: the region's capability with just these bounds, at their base
unfoldable pub buffer : Allocator → ℕ → Option CapValue
buffer a len =
    if fits a len then Some (valid (record (parts_of a.region) {
      base = start_of a len;
      top = end_of a len;
      addr = start_of a len;
    }))
    else None

-- what is free after it
unfoldable pub after : Allocator → ℕ → Allocator
after a len = if fits a len then record a { next = end_of a len } else a

-- what a caller relies on: the buffer has at least the bytes that were asked for, lies in the
-- region, and in what was free before and is not free after
pub record IsBuffer (old new : Allocator) (len : ℕ) (v : CapValue) : Type 0 where
  pub enough : (parts_of v).base + len ≤ (parts_of v).top
  pub from_free : old.next ≤ (parts_of v).base
  pub to_free : (parts_of v).top ≡ new.next
  pub tagged : is_open v ≡ true
  pub same_region : new.region ≡ old.region
