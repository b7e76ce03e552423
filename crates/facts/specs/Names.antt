-- Which places an instruction reads and sets, and which bytes it accesses.
use Rattle.std.specs.Prelude.{ℕ, ◌==◌, Bool, true, false, if◌then◌else◌, List, [], ◌∷◌}
use Rattle.std.specs.Prelude.{Option, Some, None, ⊤}
use Rattle.cheri_model.specs.declared.form.Form.{Form}
use Rattle.cheri_model.specs.declared.form.Form.TheVariants as form
use Rattle.cheri_model.specs.declared.form.LoadOp.{LoadOp}
use Rattle.cheri_model.specs.declared.form.LoadOp.TheVariants.{CJalr}
use Rattle.cheri_model.specs.declared.form.UpperOp.TheVariants.{Lui, AuiPcc}
use Rattle.cheri_model.specs.declared.memory.TheConstants.{GRANULE_BYTES}
use Rattle.cheri_model.specs.steps.Memory.{bytes_of}
use Rattle.cheri_model.specs.steps.Actions.{Action, Put, Load, Store, LoadCap, StoreCap, Swap}
use Rattle.cheri_model.specs.steps.Actions.{Branch, Jump, JumpThrough, Invoke, Halt}
use Rattle.cheri_model.specs.steps.HartStep.{invoked_data}
use Rattle.origins.specs.declared.place.Spot.{Spot}
use Rattle.origins.specs.declared.place.Spot.TheVariants.{Pcc, Register}
use Rattle.facts.specs.declared.step_facts.Extent.{Extent}
use Rattle.facts.specs.declared.step_facts.UpToTwo.{UpToTwo}
use Rattle.facts.specs.declared.step_facts.UpToTwo.TheVariants.{Zero, One, Two}

-- up to two things as the list that they are
abbrev pub list_of : {T : Type 0} → UpToTwo T → List T
list_of Zero = []
list_of (One first) = first ∷ []
list_of (Two first second) = first ∷ second ∷ []

-- the same function of each
abbrev pub each_of : {T U : Type 0} → (T → U) → UpToTwo T → UpToTwo U
each_of f Zero = Zero
each_of f (One first) = One (f first)
each_of f (Two first second) = Two (f first) (f second)

-- a fact of each
abbrev pub EachIs : {T : Type 0} → (T → Type 0) → UpToTwo T → Type 0
EachIs P Zero = ⊤
EachIs P (One first) = P first
EachIs P (Two first second) = P first × P second

-- two registers in this order, each once
abbrev pub both : ℕ → ℕ → UpToTwo Spot
both first second =
    if first == second then One (Register first) else Two (Register first) (Register second)

-- what a load reads, and CJALR, which has a load's operands
abbrev pub load_reads : LoadOp → ℕ → UpToTwo Spot
load_reads CJalr c1 = Two Pcc (Register c1)
load_reads _ c1 = One (Register c1)

-- what an instruction reads, by its form: the source registers in the order in which the operands
-- are written, after PCC for AUIPCC, CJAL and CJALR
unfoldable pub reads_of : Form → UpToTwo Spot
reads_of (form.Three op cd c1 c2) = both c1 c2
reads_of (form.Two op cd c1) = One (Register c1)
reads_of (form.Immediate op cd c1 imm) = One (Register c1)
reads_of (form.Shift op cd c1 amount) = One (Register c1)
reads_of (form.WordShift op cd c1 amount) = One (Register c1)
reads_of (form.SetBoundsImm cd c1 len) = One (Register c1)
reads_of (form.Upper Lui cd imm) = Zero
reads_of (form.Upper AuiPcc cd imm) = One Pcc
reads_of (form.Load op cd c1 imm) = load_reads op c1
reads_of (form.Store op c2 c1 imm) = both c2 c1
reads_of (form.Swap cd c2 c1) = both c2 c1
reads_of (form.Branch op c1 c2 target) = both c1 c2
reads_of (form.Jump cd target) = One Pcc
reads_of (form.Invoke c1 c2) = both c1 c2
reads_of form.Alone = Zero

abbrev pub extent : ℕ → ℕ → Extent
extent address bytes = record { address = address; bytes = bytes }

-- the bytes that an action accesses in memory
abbrev pub access_of : Action → Option Extent
access_of (Put cd v) = None
access_of (Load cd c1 addr width signed) = Some (extent addr (bytes_of width))
access_of (Store c1 addr width number) = Some (extent addr (bytes_of width))
access_of (LoadCap cd c1 addr) = Some (extent addr GRANULE_BYTES)
access_of (StoreCap c1 addr v) = Some (extent addr GRANULE_BYTES)
access_of (Swap cd c1 addr v) = Some (extent addr GRANULE_BYTES)
access_of (Branch taken target) = None
access_of (Jump cd target) = None
access_of (JumpThrough cd c1 is_entry target) = None
access_of (Invoke c1 c2 target) = None
access_of Halt = None

-- whether an action stores
abbrev pub is_store : Action → Bool
is_store (Store c1 addr width number) = true
is_store (StoreCap c1 addr v) = true
is_store (Swap cd c1 addr v) = true
is_store _ = false

-- a result in cd; a write to c0 sets nothing
abbrev pub result_in : ℕ → UpToTwo Spot
result_in cd = if cd == 0 then Zero else One (Register cd)

-- the same, and PCC after it
abbrev pub result_and_pcc : ℕ → UpToTwo Spot
result_and_pcc cd = if cd == 0 then One Pcc else Two (Register cd) Pcc

-- what an action which is done sets, besides memory and the advance of PCC
unfoldable pub sets_of : Action → UpToTwo Spot
sets_of (Put cd v) = result_in cd
sets_of (Load cd c1 addr width signed) = result_in cd
sets_of (Store c1 addr width number) = Zero
sets_of (LoadCap cd c1 addr) = result_in cd
sets_of (StoreCap c1 addr v) = Zero
sets_of (Swap cd c1 addr v) = result_in cd
sets_of (Branch true target) = One Pcc
sets_of (Branch false target) = Zero
sets_of (Jump cd target) = result_and_pcc cd
sets_of (JumpThrough cd c1 is_entry target) = result_and_pcc cd
sets_of (Invoke c1 c2 target) = result_and_pcc invoked_data
sets_of Halt = Zero
