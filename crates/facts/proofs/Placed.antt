-- The access of a step that did not trap is aligned and lies in memory, before it and after it.
use Rattle.std.proofs.Common.{◌≡◌, ℕ, ◌%◌, ◌==◌, true, List, length, refl, length-set}
use Rattle.std.specs.Prelude.{nat_lt, false, Result, Ok, Err, Option, Some, None}
use Rattle.cap_model.specs.values.CapValue.{CapValue}
use Rattle.cheri_model.specs.declared.access.Access.{Access}
use Rattle.cheri_model.specs.declared.access.Access.TheVariants as access
use Rattle.cheri_model.specs.declared.trace.Trap.{Trap}
use Rattle.cheri_model.specs.declared.width.Width.{Width}
use Rattle.cheri_model.specs.declared.width.Width.TheVariants.{Byte, Half, Word, Double}
use Rattle.cheri_model.specs.steps.Hart.{HartState}
use Rattle.cheri_model.specs.steps.Memory.{fits, is_in_ram, bytes_of, store_data, store_capability}
use Rattle.cheri_model.specs.steps.Checks.{first_failing, size_of, access_table}
use Rattle.cheri_model.specs.steps.Actions.{Action, Put, Load, Store, LoadCap, StoreCap, Swap, Branch, Jump, JumpThrough, Invoke, Halt}
use Rattle.cheri_model.specs.declared.instr.Instr.{Instr}
use Rattle.cheri_model.specs.steps.HartStep.{Stepped, trapped, unless_trapped, execute, hart_step}
use Rattle.cheri_model.proofs.Runs.ChecksPassed.{access_is}
use Rattle.facts.specs.declared.step_facts.Extent.{Extent}
use Rattle.facts.specs.Names.{access_of}
use Rattle.facts.specs.Stepping.{IsPlaced, IsNotTrap}

-- a step that did not trap passed its check
unless_passed : (r : Result (Unit {0}) Trap) (hart : HartState) (memory : List CapValue) (after : Stepped) →
    IsNotTrap (unless_trapped r hart memory after).outcome → r ≡ Ok tt
unfolding trapped
unless_passed (Ok u) hart memory after done = refl
unless_passed (Err trap) hart memory after done = absurd done

fits_of : (memory : List CapValue) (addr bytes : ℕ) → nat_lt 0 bytes ≡ true → (addr % bytes == 0) ≡ true → is_in_ram memory addr bytes ≡ true → fits memory addr bytes ≡ true
fits_of memory addr bytes some aligned placed = rw (some, aligned, placed) refl

some_bytes : (width : Width) → nat_lt 0 (bytes_of width) ≡ true
some_bytes Byte = refl
some_bytes Half = refl
some_bytes Word = refl
some_bytes Double = refl

-- an access that passed its check fits memory
passed_fits : (auth : CapValue) (reg addr : ℕ) (kind : Access) (stored : Option CapValue) (memory : List CapValue) →
    nat_lt 0 (size_of kind) ≡ true → first_failing (access_table auth reg addr kind stored memory) ≡ Ok tt → fits memory addr (size_of kind) ≡ true
passed_fits auth reg addr kind stored memory some passed =
    let placed = access_is auth reg addr kind stored memory passed in
    fits_of memory addr (size_of kind) some placed.aligned placed.placed

pub placed_done : (act : Action) (hart : HartState) (memory : List CapValue) → IsNotTrap (execute act hart memory).outcome → IsPlaced memory (access_of act)
unfolding execute
placed_done (Put cd v) hart memory done = tt
placed_done (Load cd c1 addr width signed) hart memory done =
    passed_fits _ _ addr (access.Load width) _ memory (some_bytes width) (unless_passed _ _ _ _ done)
placed_done (Store c1 addr width number) hart memory done =
    passed_fits _ _ addr (access.Store width) _ memory (some_bytes width) (unless_passed _ _ _ _ done)
placed_done (LoadCap cd c1 addr) hart memory done =
    passed_fits _ _ addr access.LoadCap _ memory refl (unless_passed _ _ _ _ done)
placed_done (StoreCap c1 addr v) hart memory done =
    passed_fits _ _ addr access.StoreCap _ memory refl (unless_passed _ _ _ _ done)
placed_done (Swap cd c1 addr v) hart memory done =
    passed_fits _ _ addr access.Swap _ memory refl (unless_passed _ _ _ _ done)
placed_done (Branch taken target) hart memory done = tt
placed_done (Jump cd target) hart memory done = tt
placed_done (JumpThrough cd c1 is_entry target) hart memory done = tt
placed_done (Invoke c1 c2 target) hart memory done = tt
placed_done Halt hart memory done = tt

-- no step changes the size of memory
unless_length : (r : Result (Unit {0}) Trap) (hart : HartState) (memory : List CapValue) (after : Stepped) →
    length after.memory ≡ length memory → length (unless_trapped r hart memory after).memory ≡ length memory
unfolding trapped
unless_length (Ok u) hart memory after same = same
unless_length (Err trap) hart memory after same = refl

pub length_executed : (act : Action) (hart : HartState) (memory : List CapValue) → length (execute act hart memory).memory ≡ length memory
unfolding execute store_data store_capability
length_executed (Put cd v) hart memory = refl
length_executed (Load cd c1 addr width signed) hart memory = unless_length _ hart memory _ refl
length_executed (Store c1 addr width number) hart memory = unless_length _ hart memory _ (length-set _ _ _)
length_executed (LoadCap cd c1 addr) hart memory = unless_length _ hart memory _ refl
length_executed (StoreCap c1 addr v) hart memory = unless_length _ hart memory _ (length-set _ _ _)
length_executed (Swap cd c1 addr v) hart memory = unless_length _ hart memory _ (length-set _ _ _)
length_executed (Branch true target) hart memory = unless_length _ hart memory _ refl
length_executed (Branch false target) hart memory = refl
length_executed (Jump cd target) hart memory = unless_length _ hart memory _ refl
length_executed (JumpThrough cd c1 is_entry target) hart memory = unless_length _ hart memory _ refl
length_executed (Invoke c1 c2 target) hart memory = unless_length _ hart memory _ refl
length_executed Halt hart memory = refl

-- what fits a memory fits one of the same size
pub placed_same : (old new : List CapValue) (at : Option Extent) → length new ≡ length old → IsPlaced old at → IsPlaced new at
placed_same old new None same placed = tt
placed_same old new (Some bytes) same placed = rw same placed

pub length_stepped : (program : List Instr) (hart : HartState) (memory : List CapValue) → length (hart_step program hart memory).memory ≡ length memory
unfolding hart_step
length_stepped program hart memory = unless_length _ hart memory _ (length_executed _ hart memory)
