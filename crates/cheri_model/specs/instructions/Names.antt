-- The names of instructions, as listings spell them (this project's own format).
use Rattle.std.specs.Prelude.{ℕ, ◌==◌, Bool, List, [], ◌∷◌, Option, Some, None, if◌then◌else◌}
use Rattle.std.specs.Prelude.{is_some, filter, slice_index_or, codes}
use Rattle.std.specs.Option.{unwrap_or}
use Rattle.cheri_model.specs.declared.form.ThreeOp.TheVariants as three_op
use Rattle.cheri_model.specs.declared.form.TwoOp.TheVariants as two_op
use Rattle.cheri_model.specs.declared.form.ImmediateOp.TheVariants as immediate_op
use Rattle.cheri_model.specs.declared.form.ShiftOp.TheVariants as shift_op
use Rattle.cheri_model.specs.declared.form.WordShiftOp.TheVariants as word_shift_op
use Rattle.cheri_model.specs.declared.form.UpperOp.TheVariants as upper_op
use Rattle.cheri_model.specs.declared.form.LoadOp.TheVariants as load_op
use Rattle.cheri_model.specs.declared.form.StoreOp.TheVariants as store_op
use Rattle.cheri_model.specs.declared.form.BranchOp.TheVariants as branch_op
use Rattle.cheri_model.specs.declared.names.Mnemonic.{Mnemonic}
use Rattle.cheri_model.specs.declared.names.Mnemonic.TheVariants.{Three, Two, Immediate, Shift}
use Rattle.cheri_model.specs.declared.names.Mnemonic.TheVariants.{WordShift, SetBoundsImm, Upper}
use Rattle.cheri_model.specs.declared.names.Mnemonic.TheVariants.{Load, Store, Swap, Branch, Jump}
use Rattle.cheri_model.specs.declared.names.Mnemonic.TheVariants.{Invoke, Alone}
use Rattle.cheri_model.specs.contracts.names.MnemonicPartialEq.TheImpl as same
use Rattle.cheri_model.specs.instructions.Tables.{found_at}

-- the names by form
unfoldable pub mnemonic_table : List (List ℕ × Mnemonic)
mnemonic_table =
    (codes "csetaddr", Three three_op.CSetAddr)
    ∷ (codes "cincoffset", Three three_op.CIncOffset)
    ∷ (codes "csetbounds", Three three_op.CSetBounds)
    ∷ (codes "csetboundsexact", Three three_op.CSetBoundsExact)
    ∷ (codes "candperm", Three three_op.CAndPerm)
    ∷ (codes "csetflags", Three three_op.CSetFlags)
    ∷ (codes "csethigh", Three three_op.CSetHigh)
    ∷ (codes "cseal", Three three_op.CSeal)
    ∷ (codes "cunseal", Three three_op.CUnseal)
    ∷ (codes "cbuildcap", Three three_op.CBuildCap)
    ∷ (codes "ctestsubset", Three three_op.CTestSubset)
    ∷ (codes "csetequalexact", Three three_op.CSetEqualExact)
    ∷ (codes "add", Three three_op.Add)
    ∷ (codes "sub", Three three_op.Sub)
    ∷ (codes "sll", Three three_op.Sll)
    ∷ (codes "slt", Three three_op.Slt)
    ∷ (codes "sltu", Three three_op.Sltu)
    ∷ (codes "xor", Three three_op.Xor)
    ∷ (codes "srl", Three three_op.Srl)
    ∷ (codes "sra", Three three_op.Sra)
    ∷ (codes "or", Three three_op.Or)
    ∷ (codes "and", Three three_op.And)
    ∷ (codes "addw", Three three_op.Addw)
    ∷ (codes "subw", Three three_op.Subw)
    ∷ (codes "sllw", Three three_op.Sllw)
    ∷ (codes "srlw", Three three_op.Srlw)
    ∷ (codes "sraw", Three three_op.Sraw)
    ∷ (codes "cmove", Two two_op.CMove)
    ∷ (codes "ccleartag", Two two_op.CClearTag)
    ∷ (codes "csealentry", Two two_op.CSealEntry)
    ∷ (codes "cgetperm", Two two_op.CGetPerm)
    ∷ (codes "cgettype", Two two_op.CGetType)
    ∷ (codes "cgetbase", Two two_op.CGetBase)
    ∷ (codes "cgetlen", Two two_op.CGetLen)
    ∷ (codes "cgettag", Two two_op.CGetTag)
    ∷ (codes "cgetsealed", Two two_op.CGetSealed)
    ∷ (codes "cgetoffset", Two two_op.CGetOffset)
    ∷ (codes "cgetflags", Two two_op.CGetFlags)
    ∷ (codes "cgetaddr", Two two_op.CGetAddr)
    ∷ (codes "cgethigh", Two two_op.CGetHigh)
    ∷ (codes "crrl", Two two_op.Crrl)
    ∷ (codes "cram", Two two_op.Cram)
    ∷ (codes "cincoffsetimm", Immediate immediate_op.CIncOffsetImm)
    ∷ (codes "addi", Immediate immediate_op.Addi)
    ∷ (codes "slti", Immediate immediate_op.Slti)
    ∷ (codes "sltiu", Immediate immediate_op.Sltiu)
    ∷ (codes "xori", Immediate immediate_op.Xori)
    ∷ (codes "ori", Immediate immediate_op.Ori)
    ∷ (codes "andi", Immediate immediate_op.Andi)
    ∷ (codes "addiw", Immediate immediate_op.Addiw)
    ∷ (codes "slli", Shift shift_op.Slli)
    ∷ (codes "srli", Shift shift_op.Srli)
    ∷ (codes "srai", Shift shift_op.Srai)
    ∷ (codes "slliw", WordShift word_shift_op.Slliw)
    ∷ (codes "srliw", WordShift word_shift_op.Srliw)
    ∷ (codes "sraiw", WordShift word_shift_op.Sraiw)
    ∷ (codes "csetboundsimm", SetBoundsImm)
    ∷ (codes "lui", Upper upper_op.Lui)
    ∷ (codes "auipcc", Upper upper_op.AuiPcc)
    ∷ (codes "lb", Load load_op.Lb)
    ∷ (codes "lbu", Load load_op.Lbu)
    ∷ (codes "lh", Load load_op.Lh)
    ∷ (codes "lhu", Load load_op.Lhu)
    ∷ (codes "lw", Load load_op.Lw)
    ∷ (codes "lwu", Load load_op.Lwu)
    ∷ (codes "ld", Load load_op.Ld)
    ∷ (codes "lc", Load load_op.Lc)
    ∷ (codes "cjalr", Load load_op.CJalr)
    ∷ (codes "sb", Store store_op.Sb)
    ∷ (codes "sh", Store store_op.Sh)
    ∷ (codes "sw", Store store_op.Sw)
    ∷ (codes "sd", Store store_op.Sd)
    ∷ (codes "sc", Store store_op.Sc)
    ∷ (codes "amoswap.c", Swap)
    ∷ (codes "beq", Branch branch_op.Beq)
    ∷ (codes "bne", Branch branch_op.Bne)
    ∷ (codes "blt", Branch branch_op.Blt)
    ∷ (codes "bge", Branch branch_op.Bge)
    ∷ (codes "bltu", Branch branch_op.Bltu)
    ∷ (codes "bgeu", Branch branch_op.Bgeu)
    ∷ (codes "cjal", Jump)
    ∷ (codes "cinvoke", Invoke)
    ∷ (codes "ecall", Alone) ∷ []

-- those that begin with a letter
unfoldable pub names_from : ℕ → List (List ℕ × Mnemonic)
names_from letter = filter (λ row. slice_index_or row.0 0 0 == letter) mnemonic_table

-- the instruction that a token names
unfoldable pub mnemonic_of : List ℕ → Option Mnemonic
mnemonic_of token = found_at mnemonic_table token

-- whether a token names an instruction
unfoldable pub is_instruction : List ℕ → Bool
is_instruction token = is_some (mnemonic_of token)

-- the name that these rows have for an instruction
unfoldable pub name_among : List (List ℕ × Mnemonic) → Mnemonic → Option (List ℕ)
name_among [] mnemonic = None
name_among (row ∷ rows) mnemonic =
    if (same.ghosts).eq row.1 mnemonic then Some row.0 else name_among rows mnemonic

-- the name that the first of these tables with one has
unfoldable pub name_in : List (List (List ℕ × Mnemonic)) → Mnemonic → List ℕ
name_in [] mnemonic = []
name_in (rows ∷ tables) mnemonic = unwrap_or (name_among rows mnemonic) (name_in tables mnemonic)

-- the name of an instruction: that of its row
unfoldable pub name_of : Mnemonic → List ℕ
name_of mnemonic = unwrap_or (name_among mnemonic_table mnemonic) []
