-- Instructions that make a capability from one that they read, with their operands.
use Rattle.std.specs.Prelude.{ℕ, Option, Some, None}
use Rattle.cap_model.specs.values.CapValue.{CapValue}
use Rattle.cap_model.specs.results.CapInstructions as cap
use Rattle.cheri_model.specs.declared.instr.Instr.{Instr}
use Rattle.cheri_model.specs.declared.instr.Instr.TheVariants as instr
use Rattle.cheri_model.specs.instructions.Integers.{immediate, upper_immediate}
use Rattle.cheri_model.specs.steps.Hart.{HartState, register, word_of_integer}
use Rattle.origins.specs.declared.place.Spot.{Spot}
use Rattle.origins.specs.declared.place.Spot.TheVariants.{Pcc, Register}
use Rattle.facts.specs.declared.operands.CapOp.{CapOp}
use Rattle.facts.specs.declared.operands.CapOp.TheVariants as op
use Rattle.facts.specs.declared.operands.Operands.{Operands}
use Rattle.facts.specs.declared.operands.Derived.{Derived}

-- the operands of a capability instruction on two registers, and on a source and an integer
abbrev pub operands : ℕ → ℕ → ℕ → HartState → Operands
operands cd c1 c2 hart =
    record {
      cd = cd;
      source = Register c1;
      authority = Register c2;
      v = register hart c1;
      w = register hart c2;
    }

abbrev pub operands_by : ℕ → Spot → CapValue → ℕ → Operands
operands_by cd source v number =
    record {
      cd = cd;
      source = source;
      authority = source;
      v = v;
      w = word_of_integer number;
    }

-- a capability instruction with its operands
abbrev pub Derivation : Type 0
Derivation = cap.CapInstruction × Operands

abbrev pub derived : cap.CapInstruction → ℕ → ℕ → ℕ → HartState → Option Derivation
derived op cd c1 c2 hart = Some (op, operands cd c1 c2 hart)

abbrev pub derived_by : cap.CapInstruction → ℕ → Spot → CapValue → ℕ → Option Derivation
derived_by op cd source v number = Some (op, operands_by cd source v number)

-- the instructions that make a capability from one that they read
unfoldable pub derivation_of : Instr → HartState → Option Derivation
derivation_of (instr.CMove cd c1) hart = derived cap.CMove cd c1 c1 hart
derivation_of (instr.CClearTag cd c1) hart = derived cap.CClearTag cd c1 c1 hart
derivation_of (instr.CSetAddr cd c1 c2) hart = derived cap.CSetAddr cd c1 c2 hart
derivation_of (instr.CIncOffset cd c1 c2) hart = derived cap.CIncOffset cd c1 c2 hart
derivation_of (instr.CIncOffsetImm cd c1 imm) hart =
    derived_by cap.CIncOffset cd (Register c1) (register hart c1) (immediate imm)
derivation_of (instr.CSetBounds cd c1 c2) hart = derived cap.CSetBounds cd c1 c2 hart
derivation_of (instr.CSetBoundsImm cd c1 len) hart =
    derived_by cap.CSetBounds cd (Register c1) (register hart c1) len
derivation_of (instr.CSetBoundsExact cd c1 c2) hart = derived cap.CSetBoundsExact cd c1 c2 hart
derivation_of (instr.CAndPerm cd c1 c2) hart = derived cap.CAndPerm cd c1 c2 hart
derivation_of (instr.CSetFlags cd c1 c2) hart = derived cap.CSetFlags cd c1 c2 hart
derivation_of (instr.CSetHigh cd c1 c2) hart = derived cap.CSetHigh cd c1 c2 hart
derivation_of (instr.CSeal cd c1 c2) hart = derived cap.CSeal cd c1 c2 hart
derivation_of (instr.CUnseal cd c1 c2) hart = derived cap.CUnseal cd c1 c2 hart
derivation_of (instr.CBuildCap cd c1 c2) hart = derived cap.CBuildCap cd c1 c2 hart
derivation_of (instr.CSealEntry cd c1) hart = derived cap.CSealEntry cd c1 c1 hart
derivation_of (instr.AuiPcc cd imm) hart =
    derived_by cap.CIncOffset cd Pcc hart.pcc (upper_immediate imm)
derivation_of _ hart = None

-- the model's instruction for each of the code's, and the same with its operands
abbrev pub model_op : CapOp → cap.CapInstruction
model_op op.CMove = cap.CMove
model_op op.CClearTag = cap.CClearTag
model_op op.CSetAddr = cap.CSetAddr
model_op op.CIncOffset = cap.CIncOffset
model_op op.CSetBounds = cap.CSetBounds
model_op op.CSetBoundsExact = cap.CSetBoundsExact
model_op op.CAndPerm = cap.CAndPerm
model_op op.CSetFlags = cap.CSetFlags
model_op op.CSetHigh = cap.CSetHigh
model_op op.CSeal = cap.CSeal
model_op op.CUnseal = cap.CUnseal
model_op op.CSealEntry = cap.CSealEntry
model_op op.CBuildCap = cap.CBuildCap

abbrev pub model_of : Derived → Derivation
model_of derived = (model_op derived.op, derived.on)
