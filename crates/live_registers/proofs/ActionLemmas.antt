-- What an instruction asks for depends on the hart by the registers that it reads and by PCC alone;
-- and what its action reads, writes and leads to is what its form says.
use Rattle.std.proofs.Common.{◌≡◌, ℕ, suc, refl}
use Rattle.std.specs.Prelude.{Bool, true, false, ◌==◌, ◌||◌, ⊤}
use Rattle.std.proofs.lemmas.Bool.{false≢true}
use Rattle.cap_model.specs.values.CapValue.{CapValue}
use Rattle.cheri_model.specs.declared.instr.Instr.{Instr}
use Rattle.cheri_model.specs.declared.instr.Instr.TheVariants as instr
use Rattle.cheri_model.specs.instructions.Form.{form_of}
use Rattle.cheri_model.specs.steps.Hart.{HartState, null, register}
use Rattle.cheri_model.specs.steps.HartStep.{invoked_data}
use Rattle.cheri_model.specs.steps.Actions.{Action, Put, Load, Store, LoadCap, StoreCap, Swap, Branch, Jump, JumpThrough, Invoke, Halt, action, address_of_target}
use Rattle.live_registers.specs.Operands.{reads, writes, only_computes, way_of, may_lead_to}

-- ---- what an action reads when it is done, writes, and leads to

-- the registers that it goes through are the same
unfoldable pub SameThrough : HartState → HartState → Action → Type 0
SameThrough g h (Put cd v) = ⊤
SameThrough g h (Load cd c1 addr width signed) = register g c1 ≡ register h c1
SameThrough g h (Store c1 addr width number) = register g c1 ≡ register h c1
SameThrough g h (LoadCap cd c1 addr) = register g c1 ≡ register h c1
SameThrough g h (StoreCap c1 addr v) = register g c1 ≡ register h c1
SameThrough g h (Swap cd c1 addr v) = register g c1 ≡ register h c1
SameThrough g h (Branch taken target) = ⊤
SameThrough g h (Jump cd target) = ⊤
SameThrough g h (JumpThrough cd c1 is_entry target) = register g c1 ≡ register h c1
SameThrough g h (Invoke c1 c2 target) = (register g c1 ≡ register h c1) × (register g c2 ≡ register h c2)
SameThrough g h Halt = ⊤

unfoldable pub written : Action → ℕ
written (Put cd v) = cd
written (Load cd c1 addr width signed) = cd
written (Store c1 addr width number) = 0
written (LoadCap cd c1 addr) = cd
written (StoreCap c1 addr v) = 0
written (Swap cd c1 addr v) = cd
written (Branch taken target) = 0
written (Jump cd target) = cd
written (JumpThrough cd c1 is_entry target) = cd
written (Invoke c1 c2 target) = invoked_data
written Halt = 0

-- with the address of the next instruction
unfoldable pub leads : Action → ℕ → ℕ → Bool
leads (Put cd v) next addr = addr == next
leads (Load cd c1 at width signed) next addr = addr == next
leads (Store c1 at width number) next addr = addr == next
leads (LoadCap cd c1 at) next addr = addr == next
leads (StoreCap c1 at v) next addr = addr == next
leads (Swap cd c1 at v) next addr = addr == next
leads (Branch taken target) next addr = (addr == next) || (addr == target)
leads (Jump cd target) next addr = addr == target
leads (JumpThrough cd c1 is_entry target) next addr = true
leads (Invoke c1 c2 target) next addr = true
leads Halt next addr = false

unfoldable pub value_put : Action → CapValue
value_put (Put cd v) = v
value_put _ = null

-- ---- the table of instructions

pub writes_is : (i : Instr) (h : HartState) → written (action i h) ≡ writes (form_of i)
unfolding action form_of writes written
-- the first line makes the match split, here and below
writes_is (instr.CSetAddr cd c1 c2) h = refl
writes_is _ h = refl

pub leads_is : (i : Instr) (h : HartState) (number addr : ℕ) →
    leads (action i h) (address_of_target (suc number)) addr ≡ may_lead_to (way_of (form_of i)) number addr
unfolding action form_of way_of may_lead_to leads
leads_is (instr.CSetAddr cd c1 c2) h number addr = refl
leads_is _ h number addr = refl

pub same_action : (i : Instr) (g h : HartState) → g.pcc ≡ h.pcc →
    register g (reads (form_of i)).0 ≡ register h (reads (form_of i)).0 →
    register g (reads (form_of i)).1 ≡ register h (reads (form_of i)).1 → action i g ≡ action i h
unfolding action form_of reads
same_action (instr.CSetAddr cd c1 c2) g h pcc one two = cc
same_action _ g h pcc one two = cc

pub same_through : (i : Instr) (g h : HartState) →
    register g (reads (form_of i)).0 ≡ register h (reads (form_of i)).0 →
    register g (reads (form_of i)).1 ≡ register h (reads (form_of i)).1 → SameThrough g h (action i h)
unfolding action form_of reads SameThrough
same_through (instr.Lb cd c1 imm) g h one two = one
same_through (instr.Lbu cd c1 imm) g h one two = one
same_through (instr.Lh cd c1 imm) g h one two = one
same_through (instr.Lhu cd c1 imm) g h one two = one
same_through (instr.Lw cd c1 imm) g h one two = one
same_through (instr.Lwu cd c1 imm) g h one two = one
same_through (instr.Ld cd c1 imm) g h one two = one
same_through (instr.Lc cd c1 imm) g h one two = one
same_through (instr.Sb c2 c1 imm) g h one two = one
same_through (instr.Sh c2 c1 imm) g h one two = one
same_through (instr.Sw c2 c1 imm) g h one two = one
same_through (instr.Sd c2 c1 imm) g h one two = one
same_through (instr.Sc c2 c1 imm) g h one two = one
same_through (instr.AmoSwapC cd c2 c1) g h one two = one
same_through (instr.CJalr cd c1 imm) g h one two = one
same_through (instr.CInvoke c1 c2) g h one two = (one, two)
same_through _ g h one two = tt

-- an instruction that only computes puts a value into its register
pub puts : (i : Instr) (h : HartState) → only_computes (form_of i) ≡ true →
    action i h ≡ Put (writes (form_of i)) (value_put (action i h))
unfolding action form_of writes only_computes value_put
puts (instr.Lb cd c1 imm) h computes = absurd (false≢true computes)
puts (instr.Lbu cd c1 imm) h computes = absurd (false≢true computes)
puts (instr.Lh cd c1 imm) h computes = absurd (false≢true computes)
puts (instr.Lhu cd c1 imm) h computes = absurd (false≢true computes)
puts (instr.Lw cd c1 imm) h computes = absurd (false≢true computes)
puts (instr.Lwu cd c1 imm) h computes = absurd (false≢true computes)
puts (instr.Ld cd c1 imm) h computes = absurd (false≢true computes)
puts (instr.Lc cd c1 imm) h computes = absurd (false≢true computes)
puts (instr.CJalr cd c1 imm) h computes = absurd (false≢true computes)
puts (instr.Sb c2 c1 imm) h computes = absurd (false≢true computes)
puts (instr.Sh c2 c1 imm) h computes = absurd (false≢true computes)
puts (instr.Sw c2 c1 imm) h computes = absurd (false≢true computes)
puts (instr.Sd c2 c1 imm) h computes = absurd (false≢true computes)
puts (instr.Sc c2 c1 imm) h computes = absurd (false≢true computes)
puts (instr.AmoSwapC cd c2 c1) h computes = absurd (false≢true computes)
puts (instr.Beq c1 c2 target) h computes = absurd (false≢true computes)
puts (instr.Bne c1 c2 target) h computes = absurd (false≢true computes)
puts (instr.Blt c1 c2 target) h computes = absurd (false≢true computes)
puts (instr.Bge c1 c2 target) h computes = absurd (false≢true computes)
puts (instr.Bltu c1 c2 target) h computes = absurd (false≢true computes)
puts (instr.Bgeu c1 c2 target) h computes = absurd (false≢true computes)
puts (instr.CJal cd target) h computes = absurd (false≢true computes)
puts (instr.CInvoke c1 c2) h computes = absurd (false≢true computes)
puts instr.Ecall h computes = absurd (false≢true computes)
puts _ h computes = refl
