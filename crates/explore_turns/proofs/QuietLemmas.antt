-- A step that asks for no access does the same in every memory.
use Rattle.std.proofs.Common.{◌≡◌, List, [], length, ap, sym, ◌∙◌, refl}
use Rattle.std.specs.Prelude.{true, false, Result, Ok, Err}
use Rattle.cap_model.specs.results.Addresses.{address_of}
use Rattle.cap_model.specs.values.CapValue.{CapValue}
use Rattle.cheri_model.specs.declared.instr.Instr.{Instr}
use Rattle.cheri_model.specs.declared.trace.Trap.{Trap}
use Rattle.cheri_model.specs.steps.Actions.{Action, Put, Load, Store, LoadCap, StoreCap, Swap, Branch, Jump, JumpThrough, Invoke, Halt, action}
use Rattle.cheri_model.specs.steps.Checks.{first_failing, fetch_table, target_table, jump_table, invoke_table}
use Rattle.cheri_model.specs.steps.Hart.{HartState, register}
use Rattle.cheri_model.specs.steps.HartStep.{Stepped, done, unless_trapped, trapped, execute, hart_step, instruction_at}
use Rattle.explore_turns.specs.QuietSteps.{is_access, where_fetched, asks_memory, own_step}

-- the hart of one is that of the other, and the memory stays
abbrev SameHart : (List CapValue → Stepped) → List CapValue → List CapValue → Type 0
SameHart step m n = ((step m).hart ≡ (step n).hart) × ((step m).memory ≡ m)

same_unless : (r : Result (Unit {0}) Trap) (before after : HartState) (m n : List CapValue) →
    SameHart (λ (k : List CapValue). unless_trapped r before k (done after k)) m n
unfolding trapped
same_unless (Ok u) before after m n = (refl, refl)
same_unless (Err trap) before after m n = (refl, refl)

same_execution : (a : Action) (h : HartState) (m n : List CapValue) → is_access a ≡ false → SameHart (execute a h) m n
unfolding execute
same_execution (Put cd v) h m n fails = (refl, refl)
same_execution (Load cd c1 addr width signed) h m n fails = absurd (cc)
same_execution (Store c1 addr width number) h m n fails = absurd (cc)
same_execution (LoadCap cd c1 addr) h m n fails = absurd (cc)
same_execution (StoreCap c1 addr v) h m n fails = absurd (cc)
same_execution (Swap cd c1 addr v) h m n fails = absurd (cc)
same_execution (Branch false target) h m n fails = (refl, refl)
same_execution (Branch true target) h m n fails = same_unless (first_failing (target_table h.pcc target)) h _ m n
same_execution (Jump cd target) h m n fails = same_unless (first_failing (target_table h.pcc target)) h _ m n
same_execution (JumpThrough cd c1 is_entry target) h m n fails =
    same_unless (first_failing (jump_table (register h c1) c1 is_entry target)) h _ m n
same_execution (Invoke c1 c2 target) h m n fails =
    same_unless (first_failing (invoke_table (register h c1) c1 (register h c2) c2 target)) h _ m n
same_execution Halt h m n fails = (refl, refl)

same_fetched : (r : Result (Unit {0}) Trap) (a : Action) (h : HartState) (m n : List CapValue) →
    where_fetched r (is_access a) ≡ false →
    SameHart (λ (k : List CapValue). unless_trapped r h k (execute a h k)) m n
unfolding trapped
same_fetched (Ok u) a h m n fails = same_execution a h m n fails
same_fetched (Err trap) a h m n fails = (refl, refl)

pub own_step_alone : (program : List Instr) (h : HartState) (m : List CapValue) → asks_memory program h ≡ false →
    ((hart_step program h m).hart ≡ own_step program h) × ((hart_step program h m).memory ≡ m)
unfolding asks_memory own_step hart_step
own_step_alone program h m fails =
    same_fetched (first_failing (fetch_table h.pcc (length program)))
    (action (instruction_at program (address_of h.pcc)) h) h m [] fails

pub alone_stepped : (program : List Instr) (h : HartState) (m : List CapValue) (after : Stepped) →
    asks_memory program h ≡ false → hart_step program h m ≡ after →
    (after.hart ≡ own_step program h) × (after.memory ≡ m)
alone_stepped program h m after alone is =
    let same = own_step_alone program h m alone in
    (sym (ap (λ (t : Stepped). t.hart) is) ∙ same.0, sym (ap (λ (t : Stepped). t.memory) is) ∙ same.1)
