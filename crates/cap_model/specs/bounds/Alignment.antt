-- The length and the alignment that a program asks for to get exact bounds (CHERI ISA v9,
-- CRoundRepresentableLength, CRRL, and CRepresentableAlignmentMask, CRAM).
use Rattle.std.specs.Prelude.{ℕ, ◌-◌, ◌%◌, ◌^◌}
use Rattle.cap_model.specs.bounds.Lengths.{alignment}
use Rattle.cap_model.specs.bounds.Rounding.{rounded_base, rounded_top}

-- the least length, from this one on, that bounds at an aligned base can have: the length rounded
-- at base 0
abbrev pub length_at_zero : ℕ → ℕ
length_at_zero len = rounded_top 0 len - rounded_base 0 len

-- CRRL: that length, as a register holds it
unfoldable pub representable_length : ℕ → ℕ
representable_length len = length_at_zero len % 2 ^ 64

-- CRAM: the mask that aligns a base to the alignment of that length, which is all ones where the
-- alignment is 1
unfoldable pub alignment_mask : ℕ → ℕ
alignment_mask len = 2 ^ 64 - alignment (length_at_zero len)
