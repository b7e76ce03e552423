-- The capability instructions on two registers, c1 and c2, with the value that each writes (CHERI
-- ISA version 9, the instructions' own pages). An immediate form is the register form with the
-- immediate, as an integer, in place of c2. The last is no instruction by itself: it is the
-- unsealing that a jump does.
use Rattle.cap_model.specs.values.CapValue.{CapValue}
use Rattle.cap_model.specs.results.Addresses.{address_of, moved, clear_tag, set_address, inc_offset}
use Rattle.cap_model.specs.results.Addresses.{set_bounds, set_bounds_exact}
use Rattle.cap_model.specs.results.Fields.{and_perm, set_flags, set_high}
use Rattle.cap_model.specs.results.Seals.{seal, unseal, seal_entry, unsealed}
use Rattle.cap_model.specs.results.Rebuilt.{build}

pub data CapInstruction : Type 0 where
  CMove : CapInstruction
  CClearTag : CapInstruction
  CSetAddr : CapInstruction
  CIncOffset : CapInstruction
  CSetBounds : CapInstruction
  CSetBoundsExact : CapInstruction
  CAndPerm : CapInstruction
  CSetFlags : CapInstruction
  CSetHigh : CapInstruction
  CSeal : CapInstruction
  CUnseal : CapInstruction
  CSealEntry : CapInstruction
  CBuildCap : CapInstruction
  UnsealedByJump : CapInstruction

-- what each writes
unfoldable pub capability_result : CapInstruction → CapValue → CapValue → CapValue
capability_result CMove v w = moved v
capability_result CClearTag v w = clear_tag v
capability_result CSetAddr v w = set_address v (address_of w)
capability_result CIncOffset v w = inc_offset v (address_of w)
capability_result CSetBounds v w = set_bounds v (address_of w)
capability_result CSetBoundsExact v w = set_bounds_exact v (address_of w)
capability_result CAndPerm v w = and_perm v (address_of w)
capability_result CSetFlags v w = set_flags v (address_of w)
capability_result CSetHigh v w = set_high v (address_of w)
capability_result CSeal v w = seal v w
capability_result CUnseal v w = unseal v w
capability_result CSealEntry v w = seal_entry v
capability_result CBuildCap v w = build v w
capability_result UnsealedByJump v w = unsealed v
