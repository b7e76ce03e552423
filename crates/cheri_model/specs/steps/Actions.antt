-- The table of instructions: what each asks of the machine, its sources read before anything is
-- written (CHERI ISA v9, "CHERI-RISC-V instructions"; RISC-V unprivileged ISA, "RV64I").
use Rattle.std.specs.Prelude.{ℕ, ℤ, ◌+◌, ◌*◌, ◌/◌, ◌%◌, ◌^◌, ◌==◌, nat_lt, Bool, true, false, not}
use Rattle.std.specs.Prelude.{bit_and, bit_or, bit_xor}
use Rattle.cheri_model.specs.declared.code.TheConstants.{INSTRUCTION_BYTES}
use Rattle.cheri_model.specs.declared.instr.Instr.{Instr}
use Rattle.cheri_model.specs.declared.instr.Instr.TheVariants as instr
use Rattle.cheri_model.specs.declared.width.Width.{Width}
use Rattle.cheri_model.specs.declared.width.Width.TheVariants.{Byte, Half, Word, Double}
use Rattle.cap_model.specs.bounds.Alignment.{representable_length, alignment_mask}
use Rattle.cap_model.specs.values.CapValue.{CapValue, tag_of}
use Rattle.cap_model.specs.results.Addresses.{address_of, length_of}
use Rattle.cap_model.specs.results.Readings.{number_of, permissions_of, type_number_of, base_of}
use Rattle.cap_model.specs.results.Readings.{high_of, flags_of, offset_of, is_sealed, is_subset}
use Rattle.cap_model.specs.results.Readings.{is_equal_exact}
use Rattle.cap_model.specs.results.CapInstructions as cap
use Rattle.cheri_model.specs.instructions.Integers.{immediate, sum, difference, is_less_signed}
use Rattle.cheri_model.specs.instructions.Integers.{shifted_left, shifted_right, shifted_arithmetic}
use Rattle.cheri_model.specs.instructions.Integers.{word_sum, word_difference, word_shifted_left}
use Rattle.cheri_model.specs.instructions.Integers.{word_shifted_right, word_shifted_arithmetic}
use Rattle.cheri_model.specs.instructions.Integers.{upper_immediate}
use Rattle.cheri_model.specs.steps.Checks.{code_base}
use Rattle.cheri_model.specs.steps.Hart.{HartState, register, integer, word_of_integer}

-- Registers are numbers, of which c1 is the one that an access or a jump goes through; addresses
-- and targets are modulo 2^64.
pub data Action : Type 0 where
  -- write this value to cd
  Put : (cd : ℕ) (value : CapValue) → Action
  -- load a number of a width from an address into cd, sign-extended or not
  Load : (cd c1 addr : ℕ) (width : Width) (signed : Bool) → Action
  -- store a number's low bytes at an address
  Store : (c1 addr : ℕ) (width : Width) (number : ℕ) → Action
  -- load the granule at an address, with its tag, into cd
  LoadCap : (cd c1 addr : ℕ) → Action
  -- store a value, with its tag, at an address
  StoreCap : (c1 addr : ℕ) (value : CapValue) → Action
  -- both in one step
  Swap : (cd c1 addr : ℕ) (value : CapValue) → Action
  -- go to the target where the condition holds
  Branch : (taken : Bool) (target : ℕ) → Action
  -- go to the target, and leave a link in cd
  Jump : (cd target : ℕ) → Action
  -- go to the target through a capability, and leave a link in cd; with no offset a sentry is one
  -- too
  JumpThrough : (cd c1 : ℕ) (is_entry : Bool) (target : ℕ) → Action
  -- go to the target through a sealed pair of code and data
  Invoke : (c1 c2 target : ℕ) → Action
  Halt : Action

-- a capability instruction on two registers, and on a register and an integer
abbrev pub derive : cap.CapInstruction → ℕ → ℕ → ℕ → HartState → Action
derive i cd c1 c2 hart = Put cd (cap.capability_result i (register hart c1) (register hart c2))

abbrev pub derive_by : cap.CapInstruction → ℕ → CapValue → ℕ → Action
derive_by i cd v number = Put cd (cap.capability_result i v (word_of_integer number))

-- an integer of one value, of two registers, and of a register and a number
abbrev pub read : (CapValue → ℕ) → ℕ → ℕ → HartState → Action
read f cd c1 hart = Put cd (word_of_integer (f (register hart c1)))

abbrev pub compute : (ℕ → ℕ → ℕ) → ℕ → ℕ → ℕ → HartState → Action
compute f cd c1 c2 hart = Put cd (word_of_integer (f (integer hart c1) (integer hart c2)))

abbrev pub compute_by : (ℕ → ℕ → ℕ) → ℕ → ℕ → ℕ → HartState → Action
compute_by f cd c1 number hart = Put cd (word_of_integer (f (integer hart c1) number))

-- the address that an offset from a register says
abbrev pub at : HartState → ℕ → ℤ → ℕ
at hart c1 imm = sum (integer hart c1) (immediate imm)

-- the same with bit 0 cleared, as jumps take it
abbrev pub even : ℕ → ℕ
even addr = addr / 2 * 2

-- the address of an instruction
unfoldable pub address_of_target : ℕ → ℕ
address_of_target number = (code_base + INSTRUCTION_BYTES * number) % 2 ^ 64

abbrev pub branch : (ℕ → ℕ → Bool) → ℕ → ℕ → ℕ → HartState → Action
branch test c1 c2 target hart =
    Branch (test (integer hart c1) (integer hart c2)) (address_of_target target)

-- comparisons as numbers
abbrev pub less_signed : ℕ → ℕ → ℕ
less_signed a b = number_of (is_less_signed a b)

abbrev pub less : ℕ → ℕ → ℕ
less a b = number_of (nat_lt a b)

unfoldable pub action : Instr → HartState → Action
-- capability values
action (instr.CMove cd c1) hart = derive cap.CMove cd c1 c1 hart
action (instr.CClearTag cd c1) hart = derive cap.CClearTag cd c1 c1 hart
action (instr.CSetAddr cd c1 c2) hart = derive cap.CSetAddr cd c1 c2 hart
action (instr.CIncOffset cd c1 c2) hart = derive cap.CIncOffset cd c1 c2 hart
action (instr.CIncOffsetImm cd c1 imm) hart =
    derive_by cap.CIncOffset cd (register hart c1) (immediate imm)
action (instr.CSetBounds cd c1 c2) hart = derive cap.CSetBounds cd c1 c2 hart
action (instr.CSetBoundsImm cd c1 len) hart = derive_by cap.CSetBounds cd (register hart c1) len
action (instr.CSetBoundsExact cd c1 c2) hart = derive cap.CSetBoundsExact cd c1 c2 hart
action (instr.CAndPerm cd c1 c2) hart = derive cap.CAndPerm cd c1 c2 hart
action (instr.CSetFlags cd c1 c2) hart = derive cap.CSetFlags cd c1 c2 hart
action (instr.CSetHigh cd c1 c2) hart = derive cap.CSetHigh cd c1 c2 hart
action (instr.CSeal cd c1 c2) hart = derive cap.CSeal cd c1 c2 hart
action (instr.CUnseal cd c1 c2) hart = derive cap.CUnseal cd c1 c2 hart
action (instr.CBuildCap cd c1 c2) hart = derive cap.CBuildCap cd c1 c2 hart
action (instr.CSealEntry cd c1) hart = derive cap.CSealEntry cd c1 c1 hart
action (instr.AuiPcc cd imm) hart = derive_by cap.CIncOffset cd hart.pcc (upper_immediate imm)
-- capability reads
action (instr.CGetPerm cd c1) hart = read permissions_of cd c1 hart
action (instr.CGetType cd c1) hart = read type_number_of cd c1 hart
action (instr.CGetBase cd c1) hart = read base_of cd c1 hart
action (instr.CGetLen cd c1) hart = read length_of cd c1 hart
action (instr.CGetTag cd c1) hart = read (λ v. number_of (tag_of v)) cd c1 hart
action (instr.CGetSealed cd c1) hart = read (λ v. number_of (is_sealed v)) cd c1 hart
action (instr.CGetOffset cd c1) hart = read offset_of cd c1 hart
action (instr.CGetFlags cd c1) hart = read flags_of cd c1 hart
action (instr.CGetAddr cd c1) hart = read address_of cd c1 hart
action (instr.CGetHigh cd c1) hart = read high_of cd c1 hart
action (instr.Crrl cd c1) hart = read (λ v. representable_length (address_of v)) cd c1 hart
action (instr.Cram cd c1) hart = read (λ v. alignment_mask (address_of v)) cd c1 hart
action (instr.CTestSubset cd c1 c2) hart =
    read (λ v. number_of (is_subset v (register hart c2))) cd c1 hart
action (instr.CSetEqualExact cd c1 c2) hart =
    read (λ v. number_of (is_equal_exact v (register hart c2))) cd c1 hart
-- integers
action (instr.Add cd c1 c2) hart = compute sum cd c1 c2 hart
action (instr.Sub cd c1 c2) hart = compute difference cd c1 c2 hart
action (instr.Sll cd c1 c2) hart = compute shifted_left cd c1 c2 hart
action (instr.Slt cd c1 c2) hart = compute less_signed cd c1 c2 hart
action (instr.Sltu cd c1 c2) hart = compute less cd c1 c2 hart
action (instr.Xor cd c1 c2) hart = compute bit_xor cd c1 c2 hart
action (instr.Srl cd c1 c2) hart = compute shifted_right cd c1 c2 hart
action (instr.Sra cd c1 c2) hart = compute shifted_arithmetic cd c1 c2 hart
action (instr.Or cd c1 c2) hart = compute bit_or cd c1 c2 hart
action (instr.And cd c1 c2) hart = compute bit_and cd c1 c2 hart
action (instr.Addw cd c1 c2) hart = compute word_sum cd c1 c2 hart
action (instr.Subw cd c1 c2) hart = compute word_difference cd c1 c2 hart
action (instr.Sllw cd c1 c2) hart = compute word_shifted_left cd c1 c2 hart
action (instr.Srlw cd c1 c2) hart = compute word_shifted_right cd c1 c2 hart
action (instr.Sraw cd c1 c2) hart = compute word_shifted_arithmetic cd c1 c2 hart
action (instr.Addi cd c1 imm) hart = compute_by sum cd c1 (immediate imm) hart
action (instr.Slti cd c1 imm) hart = compute_by less_signed cd c1 (immediate imm) hart
action (instr.Sltiu cd c1 imm) hart = compute_by less cd c1 (immediate imm) hart
action (instr.Xori cd c1 imm) hart = compute_by bit_xor cd c1 (immediate imm) hart
action (instr.Ori cd c1 imm) hart = compute_by bit_or cd c1 (immediate imm) hart
action (instr.Andi cd c1 imm) hart = compute_by bit_and cd c1 (immediate imm) hart
action (instr.Addiw cd c1 imm) hart = compute_by word_sum cd c1 (immediate imm) hart
action (instr.Slli cd c1 amount) hart = compute_by shifted_left cd c1 amount hart
action (instr.Srli cd c1 amount) hart = compute_by shifted_right cd c1 amount hart
action (instr.Srai cd c1 amount) hart = compute_by shifted_arithmetic cd c1 amount hart
action (instr.Slliw cd c1 amount) hart = compute_by word_shifted_left cd c1 amount hart
action (instr.Srliw cd c1 amount) hart = compute_by word_shifted_right cd c1 amount hart
action (instr.Sraiw cd c1 amount) hart = compute_by word_shifted_arithmetic cd c1 amount hart
action (instr.Lui cd imm) hart = Put cd (word_of_integer (upper_immediate imm))
-- memory
action (instr.Lb cd c1 imm) hart = Load cd c1 (at hart c1 imm) Byte true
action (instr.Lbu cd c1 imm) hart = Load cd c1 (at hart c1 imm) Byte false
action (instr.Lh cd c1 imm) hart = Load cd c1 (at hart c1 imm) Half true
action (instr.Lhu cd c1 imm) hart = Load cd c1 (at hart c1 imm) Half false
action (instr.Lw cd c1 imm) hart = Load cd c1 (at hart c1 imm) Word true
action (instr.Lwu cd c1 imm) hart = Load cd c1 (at hart c1 imm) Word false
action (instr.Ld cd c1 imm) hart = Load cd c1 (at hart c1 imm) Double false
action (instr.Lc cd c1 imm) hart = LoadCap cd c1 (at hart c1 imm)
action (instr.Sb c2 c1 imm) hart = Store c1 (at hart c1 imm) Byte (integer hart c2)
action (instr.Sh c2 c1 imm) hart = Store c1 (at hart c1 imm) Half (integer hart c2)
action (instr.Sw c2 c1 imm) hart = Store c1 (at hart c1 imm) Word (integer hart c2)
action (instr.Sd c2 c1 imm) hart = Store c1 (at hart c1 imm) Double (integer hart c2)
action (instr.Sc c2 c1 imm) hart = StoreCap c1 (at hart c1 imm) (register hart c2)
action (instr.AmoSwapC cd c2 c1) hart = Swap cd c1 (integer hart c1) (register hart c2)
-- jumps
action (instr.Beq c1 c2 target) hart = branch (λ a b. a == b) c1 c2 target hart
action (instr.Bne c1 c2 target) hart = branch (λ a b. not (a == b)) c1 c2 target hart
action (instr.Blt c1 c2 target) hart = branch is_less_signed c1 c2 target hart
action (instr.Bge c1 c2 target) hart = branch (λ a b. not (is_less_signed a b)) c1 c2 target hart
action (instr.Bltu c1 c2 target) hart = branch (λ a b. nat_lt a b) c1 c2 target hart
action (instr.Bgeu c1 c2 target) hart = branch (λ a b. not (nat_lt a b)) c1 c2 target hart
action (instr.CJal cd target) hart = Jump cd (address_of_target target)
action (instr.CJalr cd c1 imm) hart = JumpThrough cd c1 (immediate imm == 0) (even (at hart c1 imm))
action (instr.CInvoke c1 c2) hart = Invoke c1 c2 (even (integer hart c1))
action instr.Ecall hart = Halt
