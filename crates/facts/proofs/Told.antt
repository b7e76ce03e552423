-- What the facts of a step tell of a trap and of a lost tag is so.
use Rattle.std.proofs.Common.{◌≡◌, ℕ, List, length, refl, sym, ◌∙◌, ap, subst}
use Rattle.std.specs.Prelude.{◌==◌, Bool, true, false, not, ◌&&◌, if◌then◌else◌, Option, Some, None, is_some, Result, Ok, Err}
use Rattle.std.specs.Option.{option_map}
use Rattle.std.proofs.lemmas.Bool.{eqb-false}
use Rattle.cap_model.specs.declared.permission.TheConstants as permission
use Rattle.cap_model.specs.values.CapValue.{CapValue, IsLawfulValue, tag_of}
use Rattle.cap_model.specs.results.Addresses.{address_of, has_permission}
use Rattle.cheri_model.specs.declared.instr.Instr.{Instr}
use Rattle.cheri_model.specs.declared.trace.Trap.{Trap}
use Rattle.cheri_model.specs.declared.trace.Outcome.{Outcome}
use Rattle.cheri_model.specs.declared.trace.Outcome.TheVariants as outcome
use Rattle.cheri_model.specs.steps.Hart.{HartState, null, register, put, next}
use Rattle.cheri_model.specs.steps.Memory.{bytes_of, granule_number, granule_at, load_capability, store_data}
use Rattle.cheri_model.specs.steps.Actions.{Action, Put, Load, Store, LoadCap, StoreCap, Swap, Branch, Jump, JumpThrough, Invoke, Halt, action}
use Rattle.cheri_model.specs.steps.HartStep.{Stepped, trapped, unless_trapped, permitted, execute, hart_step, instruction_at}
use Rattle.cheri_model.specs.runs.Authority.{EachOfHart}
use Rattle.origins.specs.declared.place.Spot.{Spot}
use Rattle.origins.specs.declared.place.Spot.TheVariants.{Register}
use Rattle.origins.specs.Places.{value_at_spot}
use Rattle.origins.specs.Flows.{granule_of}
use Rattle.origins.specs.Origins.{Origins}
use Rattle.origins.proofs.Writes.{at_set}
use Rattle.facts.specs.declared.step_facts.Cleared.{Cleared}
use Rattle.facts.specs.declared.step_facts.Fetched.{Fetched}
use Rattle.facts.specs.declared.why.Why.{Why}
use Rattle.facts.specs.declared.why.Why.TheVariants as why
use Rattle.facts.specs.Names.{access_of}
use Rattle.facts.specs.Operands.{Derivation, derivation_of}
use Rattle.facts.specs.Losses.{cleared, lost, lost_by_load, lost_by, clears_of}
use Rattle.facts.specs.Traps.{trap_why}
use Rattle.facts.specs.StepFacts.{named_at, fetched_of, granule_accessed, facts_by, hart_facts}
use Rattle.facts.specs.Stepping.{IsNotTrap}
use Rattle.facts.specs.ClearsLaw.{IsWritten, loses_by, loses_tag, found_by}
use Rattle.facts.specs.TrapsLaw.{IsTrapSo, ReadsRegisters}
use Rattle.facts.specs.StepLaw.{IsTrapTold, is_trap, step_loses_tag, IsLoss, IsLost, IsLossTold}
use Rattle.facts.proofs.Stepped.{fetched_instr, step_executes, unfetched_traps}
use Rattle.facts.proofs.Reasons.{reason_so}
use Rattle.facts.proofs.Written.{written_result}
use Rattle.facts.proofs.Exact.{cleared_exactly}
use Rattle.facts.proofs.TrapsSo.{trap_so}

-- ---- a trap

told_by : (count : ℕ) (hart : HartState) (memory : List CapValue) (fetched : Option Fetched) (number : ℕ) (from later : Origins)
    (now : HartState) (left : List CapValue) (result : Outcome) →
    ((trap : Trap) → result ≡ outcome.Trap trap → IsTrapSo count hart memory (trap_why (option_map (λ f. f.instr) fetched) hart trap)) →
    IsTrapTold count hart memory result (facts_by fetched number hart memory from (record { hart = now; memory = left; outcome = result }) later).traps
told_by count hart memory None number from later now left outcome.Done so = tt
told_by count hart memory None number from later now left outcome.Halt so = tt
told_by count hart memory None number from later now left (outcome.Trap trap) so = (refl, so trap refl)
told_by count hart memory (Some fetched) number from later now left outcome.Done so = tt
told_by count hart memory (Some fetched) number from later now left outcome.Halt so = tt
told_by count hart memory (Some fetched) number from later now left (outcome.Trap trap) so = (refl, so trap refl)

pub trap_told : (program : List Instr) (number : ℕ) (hart : HartState) (memory : List CapValue) (from : Origins) → ReadsRegisters program hart →
    IsTrapTold (length program) hart memory (hart_step program hart memory).outcome (hart_facts program number hart memory from).traps
unfolding hart_facts
trap_told program number hart memory from reads =
    let after = hart_step program hart memory in
    told_by (length program) hart memory (fetched_of program hart.pcc) number from _ after.hart after.memory after.outcome
    (λ trap is. trap_so program hart memory trap reads is)

-- ---- what an action clears

-- what is cleared where a test passes, if there is a reason
record IsCleared (passes : Bool) (name : Spot) (reason : Option Why) (told : Cleared) : Type 0 where
  passed : passes ≡ true
  named : told.name ≡ name
  given : reason ≡ Some told.why

cleared_parts : (passes : Bool) (name : Spot) (reason : Option Why) (told : Cleared) →
    (if passes then option_map (cleared name) reason else None) ≡ Some told → IsCleared passes name reason told
cleared_parts true name None told is = absurd (cc)
cleared_parts true name (Some why) told is =
    let same : cleared name why ≡ told = cc in
    record { passed = refl; named = sym (ap (λ c. c.name) same); given = ap (λ c. Some c.why) same }
cleared_parts false name reason told is = absurd (cc)

-- what is cleared where three tests pass
record IsSurely (c told : Cleared) (first third : Bool) : Type 0 where
  is : told ≡ c
  first_passed : first ≡ true
  third_passed : third ≡ true

surely : (first second third : Bool) (c told : Cleared) → (if first && second && third then Some c else None) ≡ Some told → IsSurely c told first third
surely true true true c told is = record { is = cc; first_passed = refl; third_passed = refl }
surely true true false c told is = absurd (cc)
surely true false third c told is = absurd (cc)
surely false second third c told is = absurd (cc)

not_so : (b : Bool) → not b ≡ true → b ≡ false
not_so true is = absurd (cc)
not_so false is = refl

first_of : (a b : Bool) → (a && b) ≡ true → a ≡ true
first_of true b both = refl
first_of false b both = absurd (cc)

if_tagged : (tagged : Bool) (c told : Cleared) → (if tagged then Some c else None) ≡ Some told → (tagged ≡ true) × (told ≡ c)
if_tagged true c told is = (refl, cc)
if_tagged false c told is = absurd (cc)

module _ (hart : HartState) (memory : List CapValue) (from : Origins) (number : ℕ) where
  -- what an action clears in the granule that it finds
  Clears : Action → Option Derivation → Cleared → Type 0
  Clears act d told =
      lost_by act d hart (option_map (named_at hart memory from number) (granule_accessed (access_of act))) ≡ Some told

  load_loss : (cd c1 addr : ℕ) (told : Cleared) → lost_by_load cd c1 hart (Some (named_at hart memory from number (granule_of addr))) ≡ Some told →
      IsSurely (cleared (Register cd) (why.Lacks (Register c1) permission.LOAD_CAP)) told (not (cd == 0)) (not (has_permission (register hart c1) permission.LOAD_CAP))
  load_loss cd c1 addr told is =
      surely (not (cd == 0)) (tag_of (named_at hart memory from number (granule_of addr)).value)
      (not (has_permission (register hart c1) permission.LOAD_CAP)) (cleared (Register cd) (why.Lacks (Register c1) permission.LOAD_CAP)) told is

  loss_so : (act : Action) (d : Option Derivation) (told : Cleared) → Clears act d told → IsLoss act d hart memory told.why
  unfolding Clears lost named_at load_capability
  loss_so (Put cd v) None told is = absurd (cc)
  loss_so (Put cd v) (Some d) told is = reason_so d.0 d.1 told.why (cleared_parts _ _ _ told is).given
  loss_so (Load cd c1 addr width signed) d told is = absurd (cc)
  loss_so (Store c1 addr width n) d told is =
      let parts = if_tagged _ _ told is in (ap (λ c. c.why) parts.1, parts.0)
  loss_so (LoadCap cd c1 addr) d told is =
      let parts = load_loss cd c1 addr told is in (ap (λ c. c.why) parts.is, not_so _ parts.third_passed)
  loss_so (StoreCap c1 addr v) d told is = absurd (cc)
  loss_so (Swap cd c1 addr v) d told is =
      let parts = load_loss cd c1 addr told is in (ap (λ c. c.why) parts.is, not_so _ parts.third_passed)
  loss_so (Branch taken target) d told is = absurd (cc)
  loss_so (Jump cd target) d told is = absurd (cc)
  loss_so (JumpThrough cd c1 is_entry target) d told is = absurd (cc)
  loss_so (Invoke c1 c2 target) d told is = absurd (cc)
  loss_so Halt d told is = absurd (cc)

  -- ---- what is left in its place

  abbrev Gone : Spot → Stepped → Type 0
  Gone name after = tag_of (value_at_spot after.hart after.memory name) ≡ false

  written : (cd : ℕ) (v : CapValue) → (cd == 0) ≡ false → tag_of v ≡ false → tag_of (register (next (put cd v hart)) cd) ≡ false
  unfolding put next register
  written cd v some untagged =
      rw some (at_set (λ x. tag_of x ≡ false) hart.regs cd cd v null refl (λ same. untagged) (λ other. absurd (eqb-false cd cd other refl)))

  stored : (addr bytes n : ℕ) → tag_of (granule_at (store_data memory addr bytes n) (granule_number addr)) ≡ false
  unfolding store_data granule_at
  stored addr bytes n =
      at_set (λ x. tag_of x ≡ false) memory (granule_number addr) (granule_number addr) _ null refl
      (λ same. refl) (λ other. absurd (eqb-false (granule_number addr) (granule_number addr) other refl))

  -- a step that did not trap left what its action leaves
  unless_gone : (r : Result (Unit {0}) Trap) (name : Spot) (after : Stepped) → IsNotTrap (unless_trapped r hart memory after).outcome →
      Gone name after → Gone name (unless_trapped r hart memory after)
  unfolding trapped
  unless_gone (Ok u) name after done gone = gone
  unless_gone (Err trap) name after done gone = absurd done

  loss_gone : (act : Action) (d : Option Derivation) (i : Instr) (told : Cleared) → IsWritten d act → Clears act d told →
      loses_by act i hart memory ≡ true → IsNotTrap (execute act hart memory).outcome → Gone told.name (execute act hart memory)
  unfolding Clears lost named_at execute
  loss_gone (Put cd v) None i told is_written is loses done = absurd (cc)
  loss_gone (Put cd v) (Some d) i told is_written is loses done =
      let parts = cleared_parts _ _ _ told is in
      let same : cd ≡ d.1.cd = ap cd_of is_written in
      let some : (cd == 0) ≡ false = rw same (not_so _ (first_of _ _ parts.passed)) in
      rw (parts.named, ← same) (written cd v some (not_so _ (first_of _ _ loses)))
    where
      cd_of : Action → ℕ
      cd_of (Put c x) = c
      cd_of _ = 0
  loss_gone (Load cd c1 addr width signed) d i told is_written is loses done = absurd (cc)
  loss_gone (Store c1 addr width n) d i told is_written is loses done =
      let parts = if_tagged _ _ told is in
      subst (λ name. Gone name (execute (Store c1 addr width n) hart memory)) (sym (ap (λ c. c.name) parts.1))
      (unless_gone _ (granule_of addr) _ done (stored addr (bytes_of width) n))
  loss_gone (LoadCap cd c1 addr) d i told is_written is loses done =
      let parts = load_loss cd c1 addr told is in
      subst (λ name. Gone name (execute (LoadCap cd c1 addr) hart memory)) (sym (ap (λ c. c.name) parts.is))
      (unless_gone _ (Register cd) _ done
      (written cd (permitted (register hart c1) (load_capability memory addr)) (not_so _ parts.first_passed) (not_so _ (first_of _ _ loses))))
  loss_gone (StoreCap c1 addr v) d i told is_written is loses done = absurd (cc)
  loss_gone (Swap cd c1 addr v) d i told is_written is loses done =
      let parts = load_loss cd c1 addr told is in
      subst (λ name. Gone name (execute (Swap cd c1 addr v) hart memory)) (sym (ap (λ c. c.name) parts.is))
      (unless_gone _ (Register cd) _ done
      (written cd (permitted (register hart c1) (load_capability memory addr)) (not_so _ parts.first_passed) (not_so _ (first_of _ _ loses))))
  loss_gone (Branch taken target) d i told is_written is loses done = absurd (cc)
  loss_gone (Jump cd target) d i told is_written is loses done = absurd (cc)
  loss_gone (JumpThrough cd c1 is_entry target) d i told is_written is loses done = absurd (cc)
  loss_gone (Invoke c1 c2 target) d i told is_written is loses done = absurd (cc)
  loss_gone Halt d i told is_written is loses done = absurd (cc)

  -- ---- a lost tag

  -- what an instruction that did not trap clears
  record IsDone (fetched : Option Fetched) (result : Outcome) (told : Cleared) : Type 0 where
    instr : Fetched
    is : fetched ≡ Some instr
    done : IsNotTrap result
    clears : clears_of instr.instr hart (found_by instr.instr hart memory from number) ≡ Some told

  cleared_by : (fetched : Option Fetched) (later : Origins) (now : HartState) (left : List CapValue) (result : Outcome) (told : Cleared) →
      (facts_by fetched number hart memory from (record { hart = now; memory = left; outcome = result }) later).clears ≡ Some told →
      IsDone fetched result told
  cleared_by None later now left result told is = absurd (cc)
  cleared_by (Some f) later now left outcome.Done told is = record { instr = f; is = refl; done = tt; clears = is }
  cleared_by (Some f) later now left outcome.Halt told is = record { instr = f; is = refl; done = tt; clears = is }
  cleared_by (Some f) later now left (outcome.Trap trap) told is = absurd (cc)

  exactly_by : (fetched : Option Fetched) (later : Origins) (now : HartState) (left : List CapValue) (result : Outcome) (loses : Bool) →
      (fetched ≡ None → IsNotTrap result → ⊥) →
      ((f : Fetched) → fetched ≡ Some f → is_some (clears_of f.instr hart (found_by f.instr hart memory from number)) ≡ loses) →
      is_some (facts_by fetched number hart memory from (record { hart = now; memory = left; outcome = result }) later).clears
      ≡ (not (is_trap result) && loses)
  exactly_by None later now left outcome.Done loses traps same = absurd (traps refl tt)
  exactly_by None later now left outcome.Halt loses traps same = absurd (traps refl tt)
  exactly_by None later now left (outcome.Trap trap) loses traps same = refl
  exactly_by (Some f) later now left outcome.Done loses traps same = same f refl
  exactly_by (Some f) later now left outcome.Halt loses traps same = same f refl
  exactly_by (Some f) later now left (outcome.Trap trap) loses traps same = refl

  -- what an instruction clears that did not trap is a tag that is lost
  is_lost : (i : Instr) (told : Cleared) → EachOfHart IsLawfulValue hart → IsNotTrap (execute (action i hart) hart memory).outcome →
      clears_of i hart (found_by i hart memory from number) ≡ Some told → IsLost i hart memory (execute (action i hart) hart memory) told
  unfolding clears_of Clears
  is_lost i told lawful done is =
      let loses : loses_tag i hart memory ≡ true =
      sym (cleared_exactly i hart memory from number lawful) ∙ ap (λ c. is_some c) is in
      record {
        so = loss_so (action i hart) (derivation_of i hart) told is;
        gone = loss_gone (action i hart) (derivation_of i hart) i told (written_result i hart) is loses done;
      }

  lost_told : (program : List Instr) (told : Option Cleared) → is_some told ≡ step_loses_tag program hart memory →
      ((c : Cleared) → told ≡ Some c → IsLost (instruction_at program (address_of hart.pcc)) hart memory (hart_step program hart memory) c) →
      IsLossTold program hart memory told
  lost_told program None same each = sym same
  lost_told program (Some c) same each = (sym same, each c refl)

  pub loss_told : (program : List Instr) → EachOfHart IsLawfulValue hart →
      IsLossTold program hart memory (hart_facts program number hart memory from).clears
  unfolding hart_facts
  loss_told program lawful =
      let after = hart_step program hart memory in
      lost_told program _
      (exactly_by (fetched_of program hart.pcc) _ after.hart after.memory after.outcome _
      (unfetched_traps program hart memory)
      (λ f is. cleared_exactly f.instr hart memory from number lawful
      ∙ ap (λ i. loses_tag i hart memory) (fetched_instr program hart.pcc f is)))
      (λ c is.
      let by = cleared_by (fetched_of program hart.pcc) _ after.hart after.memory after.outcome c is in
      let does = step_executes program hart memory by.instr by.is in
      let quiet : IsNotTrap (execute (action by.instr.instr hart) hart memory).outcome = subst (λ s. IsNotTrap s.outcome) does by.done in
      let lost = is_lost by.instr.instr c lawful quiet by.clears in
      subst (λ i. IsLost i hart memory after c) (fetched_instr program hart.pcc by.instr by.is)
      (subst (λ s. IsLost by.instr.instr hart memory s c) (sym does) lost))
