-- The reason for a trap is so: it is what the first line that fails of the step's checks says.
use Rattle.std.proofs.Common.{◌≡◌, ℕ, ◌<◌, ◌%◌, ◌==◌, Bool, true, false, List, [], ◌∷◌, length, refl, sym, ◌∙◌, ap, subst, arith}
use Rattle.std.specs.Prelude.{not, nat_lt, ◌&&◌, ◌||◌, find, cond, Option, Some, None, Result, Ok, Err, if◌then◌else◌}
use Rattle.std.specs.Option.{option_map, ForSome}
use Rattle.std.proofs.lemmas.Bool.Decides.{nat_tests}
use Rattle.cap_model.specs.declared.permission.TheConstants as permission
use Rattle.cap_model.specs.values.CapValue.{CapValue, tag_of}
use Rattle.cap_model.specs.values.Capability.{unsealed_type, sentry_type}
use Rattle.cap_model.specs.results.Addresses.{address_of, has_permission, in_bounds}
use Rattle.cap_model.specs.results.Readings.{is_sealed}
use Rattle.cheri_model.specs.declared.access.Access.{Access}
use Rattle.cheri_model.specs.declared.access.Access.TheVariants as access
use Rattle.cheri_model.specs.declared.instr.Instr.{Instr}
use Rattle.cheri_model.specs.declared.instr.Instr.TheVariants as instr
use Rattle.cheri_model.specs.declared.width.Width.TheVariants.{Byte, Half, Word, Double}
use Rattle.cheri_model.specs.instructions.Form.{form_of}
use Rattle.cheri_model.specs.steps.Memory.{is_in_ram}
use Rattle.cheri_model.specs.steps.Actions.{Branch, action}
use Rattle.cheri_model.specs.declared.trace.Trap.{Trap}
use Rattle.cheri_model.specs.declared.trace.Outcome.TheVariants as outcome
use Rattle.cheri_model.specs.steps.Hart.{HartState, register}
use Rattle.cheri_model.specs.steps.Checks.{CheckLine, verdict_of, first_failing, fetch_table, access_table, target_table, jump_table, invoke_table, size_of, stores_capability, is_tagged, is_global}
use Rattle.cheri_model.specs.steps.HartStep.{Stepped, trapped, unless_trapped, execute, hart_step, instruction_at}
use Rattle.origins.specs.declared.place.Spot.TheVariants.{Register}
use Rattle.origins.specs.Places.{value_at_spot}
use Rattle.origins.specs.Flows.{IsSpot}
use Rattle.facts.specs.declared.step_facts.UpToTwo.TheVariants.{One, Two}
use Rattle.facts.specs.Names.{EachIs, extent, reads_of}
use Rattle.facts.specs.Traps.{checked_bytes, checked_by, stored_by, is_invoke, access_why, why_of_cause, trap_why}
use Rattle.facts.specs.StepFacts.{fetched_by, fetched_of}
use Rattle.facts.specs.TrapsLaw.{IsTrapSo, ReadsRegisters, step_trap_why}

not_true : (b : Bool) → not b ≡ true → b ≡ false
not_true true is = absurd (cc)
not_true false is = refl

first_part : (a b : Bool) → (a && b) ≡ true → a ≡ true
first_part true b both = refl
first_part false b both = absurd (cc)

second_part : (a b : Bool) → (a && b) ≡ true → b ≡ true
second_part true b both = both
second_part false b both = absurd (cc)

-- each line of a table, where it fails, shows what its trap is to show
EachLine : (Trap → Type 0) → List CheckLine → Type 0
EachLine P [] = Unit {0}
EachLine P (line ∷ rest) = (line.fails ≡ true → P line.trap) × EachLine P rest

from_line : (P : Trap → Type 0) (trap : Trap) (line : CheckLine) (rest : List CheckLine) (fails : Bool) → line.fails ≡ fails →
    (line.fails ≡ true → P line.trap) → (first_failing rest ≡ Err trap → P trap) →
    verdict_of (cond fails (Some line) (find (λ l. l.fails) rest)) ≡ Err trap → P trap
unfolding first_failing
from_line P trap line rest true is shows later err = let same : line.trap ≡ trap = cc in subst P same (shows is)
from_line P trap line rest false is shows later err = later err

from_lines : (P : Trap → Type 0) (trap : Trap) (table : List CheckLine) → EachLine P table → first_failing table ≡ Err trap → P trap
unfolding EachLine first_failing
from_lines P trap [] each err = absurd (cc)
from_lines P trap (line ∷ rest) each err = from_line P trap line rest line.fails refl each.0 (from_lines P trap rest each.1) err

-- ---- the fetch

module _ (count : ℕ) (hart : HartState) (memory : List CapValue) where
  abbrev Shows : Option Instr → Trap → Type 0
  Shows fetched trap = IsTrapSo count hart memory (trap_why fetched hart trap)

  lacks_execute : (fetched : Option Instr) (reg : ℕ) → has_permission hart.pcc permission.EXECUTE ≡ false →
      Shows fetched (record { cause = 3; reg = 32 })
  unfolding why_of_cause
  lacks_execute fetched reg lacks = rw lacks lacks

  pub fetch_so : (trap : Trap) → first_failing (fetch_table hart.pcc count) ≡ Err trap → Shows None trap
  unfolding fetch_table EachLine why_of_cause
  fetch_so trap err = from_lines (Shows None) trap (fetch_table hart.pcc count) (
    λ fails. not_true _ fails,
    (
      λ fails. (fails, refl),
      (
        λ fails. lacks_execute None 32 (not_true _ fails),
        (
          λ fails. (not_true _ fails, refl, refl),
          (
            λ fails. not_true _ fails,
            (
              λ fails. not_true _ fails,
              tt,
            ),
          ),
        ),
      ),
    ),
  ) err

  -- ---- an instruction

  at_register : (fetched : Option Instr) (number c1 : ℕ) → c1 < 32 →
      trap_why fetched hart (record { cause = number; reg = c1 }) ≡ why_of_cause fetched hart number (Register c1) (register hart c1)
  at_register fetched number c1 below =
      let not_pcc : (c1 == 32) ≡ false = grind (arith, nat_tests) in
      let is : nat_lt c1 32 ≡ true = grind (arith, nat_tests) in
      rw (not_pcc, is) refl

  -- a line that speaks of a register
  of_register : (fetched : Option Instr) (number c1 : ℕ) → c1 < 32 →
      IsTrapSo count hart memory (why_of_cause fetched hart number (Register c1) (register hart c1)) → Shows fetched (record { cause = number; reg = c1 })
  of_register fetched number c1 below so = subst (IsTrapSo count hart memory) (sym (at_register fetched number c1 below)) so

  -- what is stored, where a capability is
  abbrev IsStored : Instr → Bool → Option CapValue → Type 0
  IsStored i stores stored = stores ≡ true → stored ≡ Some (value_at_spot hart memory (stored_by (Some i)))

  stored_tagged : (i : Instr) (stores : Bool) (stored : Option CapValue) → IsStored i stores stored → (stores && is_tagged stored) ≡ true →
      tag_of (value_at_spot hart memory (stored_by (Some i))) ≡ true
  stored_tagged i stores stored is both =
      let same = is (first_part stores (is_tagged stored) both) in
      sym (ap (λ s. is_tagged s) same) ∙ second_part stores (is_tagged stored) both

  stored_local : (i : Instr) (stores : Bool) (stored : Option CapValue) → IsStored i stores stored → stores ≡ true → not (is_global stored) ≡ true →
      has_permission (value_at_spot hart memory (stored_by (Some i))) permission.GLOBAL ≡ false
  stored_local i stores stored is so local = sym (ap (λ s. is_global s) (is so)) ∙ not_true _ local

  seal_so : (i : Instr) (c1 : ℕ) → is_invoke (Some i) ≡ false → is_sealed (register hart c1) ≡ true →
      IsTrapSo count hart memory (why_of_cause (Some i) hart 2 (Register c1) (register hart c1))
  unfolding why_of_cause
  seal_so i c1 plain sealed = rw plain (sealed, refl)

  bytes_so : (i : Instr) (c1 address bytes : ℕ) → checked_bytes (Some i) hart ≡ extent address bytes → in_bounds (register hart c1) address bytes ≡ false →
      IsTrapSo count hart memory (why_of_cause (Some i) hart 8 (Register c1) (register hart c1))
  unfolding why_of_cause
  bytes_so i c1 address bytes is outside = rw is (outside, refl, refl)

  aligned_so : (i : Instr) (c1 address bytes : ℕ) → checked_bytes (Some i) hart ≡ extent address bytes → (address % bytes == 0) ≡ false →
      IsTrapSo count hart memory (why_of_cause (Some i) hart 9 (Register c1) (register hart c1))
  unfolding why_of_cause
  aligned_so i c1 address bytes is misaligned = rw is misaligned

  placed_so : (i : Instr) (c1 address bytes : ℕ) → checked_bytes (Some i) hart ≡ extent address bytes → is_in_ram memory address bytes ≡ false →
      IsTrapSo count hart memory (why_of_cause (Some i) hart 10 (Register c1) (register hart c1))
  unfolding why_of_cause access_why
  placed_so i c1 address bytes is outside = rw is outside

  access_so : (i : Instr) (c1 addr : ℕ) (kind : Access) (stored : Option CapValue) (trap : Trap) → c1 < 32 →
      checked_bytes (Some i) hart ≡ extent addr (size_of kind) → is_invoke (Some i) ≡ false → IsStored i (stores_capability kind) stored →
      first_failing (access_table (register hart c1) c1 addr kind stored memory) ≡ Err trap → Shows (Some i) trap
  unfolding access_table EachLine why_of_cause access_why
  access_so i c1 addr kind stored trap below bytes plain is err =
      from_lines (Shows (Some i)) trap (access_table (register hart c1) c1 addr kind stored memory) (
        λ fails. of_register (Some i) 1 c1 below (not_true _ fails),
        (
          λ fails. of_register (Some i) 2 c1 below (seal_so i c1 plain fails),
          (
            λ fails. of_register (Some i) 4 c1 below (not_true _ (second_part _ _ fails)),
            (
              λ fails. of_register (Some i) 5 c1 below (not_true _ (second_part _ _ fails)),
              (
                λ fails. of_register (Some i) 6 c1 below (not_true _ (second_part _ _ fails), stored_tagged i _ stored is (first_part _ _ fails)),
                (
                  λ fails. of_register (Some i) 7 c1 below (
                    not_true _ (second_part _ _ fails),
                    stored_tagged i _ stored is (first_part _ _ (first_part _ _ fails)),
                    stored_local i _ stored is (first_part _ _ (first_part _ _ (first_part _ _ fails))) (second_part _ _ (first_part _ _ fails)),
                  ),
                  (
                    λ fails. of_register (Some i) 8 c1 below (bytes_so i c1 addr (size_of kind) bytes (not_true _ fails)),
                    (
                      λ fails. of_register (Some i) 9 c1 below (aligned_so i c1 addr (size_of kind) bytes (not_true _ fails)),
                      (
                        λ fails. of_register (Some i) 10 c1 below (placed_so i c1 addr (size_of kind) bytes (not_true _ fails)),
                        tt,
                      ),
                    ),
                  ),
                ),
              ),
            ),
          ),
        ),
      ) err

  target_so : (i : Instr) (target : ℕ) (trap : Trap) → checked_bytes (Some i) hart ≡ extent target 4 →
      first_failing (target_table hart.pcc target) ≡ Err trap → Shows (Some i) trap
  unfolding target_table EachLine why_of_cause
  target_so i target trap bytes err =
      from_lines (Shows (Some i)) trap (target_table hart.pcc target)
      (λ fails. rw bytes (not_true _ fails, refl, refl), tt) err

  executes_so : (i : Instr) (c1 : ℕ) → has_permission (register hart c1) permission.EXECUTE ≡ false →
      IsTrapSo count hart memory (why_of_cause (Some i) hart 3 (Register c1) (register hart c1))
  unfolding why_of_cause
  executes_so i c1 lacks = rw lacks lacks

  data_so : (i : Instr) (c2 : ℕ) → has_permission (register hart c2) permission.EXECUTE ≡ true →
      IsTrapSo count hart memory (why_of_cause (Some i) hart 3 (Register c2) (register hart c2))
  unfolding why_of_cause
  data_so i c2 has = rw has has

  sealed_of : (otype : ℕ) (is_entry : Bool) → not ((otype == unsealed_type) || ((otype == sentry_type) && is_entry)) ≡ true → not (otype == unsealed_type) ≡ true
  sealed_of otype is_entry fails = by (otype == unsealed_type) ((otype == sentry_type) && is_entry) fails
    where
      by : (a b : Bool) → not (a || b) ≡ true → not a ≡ true
      by true b fails = fails
      by false b fails = refl

  jump_so : (i : Instr) (c1 : ℕ) (is_entry : Bool) (target : ℕ) (trap : Trap) → c1 < 32 →
      checked_bytes (Some i) hart ≡ extent target 4 → is_invoke (Some i) ≡ false →
      first_failing (jump_table (register hart c1) c1 is_entry target) ≡ Err trap → Shows (Some i) trap
  unfolding jump_table EachLine why_of_cause
  jump_so i c1 is_entry target trap below bytes plain err =
      from_lines (Shows (Some i)) trap (jump_table (register hart c1) c1 is_entry target) (
        λ fails. of_register (Some i) 1 c1 below (not_true _ fails),
        (
          λ fails. of_register (Some i) 2 c1 below (seal_so i c1 plain (sealed_of _ is_entry fails)),
          (
            λ fails. of_register (Some i) 3 c1 below (executes_so i c1 (not_true _ fails)),
            (
              λ fails. of_register (Some i) 8 c1 below (bytes_so i c1 target 4 bytes (not_true _ fails)),
              (
                λ fails. of_register (Some i) 9 c1 below (aligned_so i c1 target 4 bytes (not_true _ fails)),
                tt,
              ),
            ),
          ),
        ),
      ) err

  invoke_so : (c1 c2 target : ℕ) (trap : Trap) → c1 < 32 → c2 < 32 → checked_bytes (Some (instr.CInvoke c1 c2)) hart ≡ extent target 4 →
      first_failing (invoke_table (register hart c1) c1 (register hart c2) c2 target) ≡ Err trap → Shows (Some (instr.CInvoke c1 c2)) trap
  unfolding invoke_table EachLine why_of_cause access_why
  invoke_so c1 c2 target trap below below2 bytes err =
      let i = instr.CInvoke c1 c2 in
      from_lines (Shows (Some i)) trap (invoke_table (register hart c1) c1 (register hart c2) c2 target) (
        λ fails. of_register (Some i) 1 c1 below (not_true _ fails),
        (
          λ fails. of_register (Some i) 1 c2 below2 (not_true _ fails),
          (
            λ fails. of_register (Some i) 2 c1 below (not_true _ fails),
            (
              λ fails. of_register (Some i) 2 c2 below2 (not_true _ fails),
              (
                λ fails. of_register (Some i) 12 c1 below (not_true _ fails),
                (
                  λ fails. of_register (Some i) 13 c1 below (not_true _ fails),
                  (
                    λ fails. of_register (Some i) 13 c2 below2 (not_true _ fails),
                    (
                      λ fails. of_register (Some i) 3 c1 below (executes_so i c1 (not_true _ fails)),
                      (
                        λ fails. of_register (Some i) 3 c2 below2 (data_so i c2 fails),
                        (
                          λ fails. of_register (Some i) 8 c1 below (bytes_so i c1 target 4 bytes (not_true _ fails)),
                          (
                            λ fails. of_register (Some i) 9 c1 below (aligned_so i c1 target 4 bytes (not_true _ fails)),
                            tt,
                          ),
                        ),
                      ),
                    ),
                  ),
                ),
              ),
            ),
          ),
        ),
      ) err

  -- a step whose check did not pass traps so
  checked : (r : Result (Unit {0}) Trap) (after : Stepped) (trap : Trap) → after.outcome ≡ outcome.Done →
      (unless_trapped r hart memory after).outcome ≡ outcome.Trap trap → r ≡ Err trap
  unfolding trapped
  checked (Ok u) after trap done is = absurd (cc)
  checked (Err other) after trap done is = cc

  both_below : (a b : ℕ) (same : Bool) → (a == b) ≡ same → EachIs (IsSpot 0) (if same then One (Register a) else Two (Register a) (Register b)) → (a < 32) × (b < 32)
  both_below a b true is below = let equal : a ≡ b = grind (arith, nat_tests) in (below, omega arith)
  both_below a b false is below = below

  branch_so : (i : Instr) (taken : Bool) (target : ℕ) (trap : Trap) → checked_bytes (Some i) hart ≡ extent target 4 →
      (execute (Branch taken target) hart memory).outcome ≡ outcome.Trap trap → Shows (Some i) trap
  unfolding execute
  branch_so i true target trap bytes is = target_so i target trap bytes (checked _ _ trap refl is)
  branch_so i false target trap bytes is = absurd (cc)

  pub instr_so : (i : Instr) (trap : Trap) → EachIs (IsSpot 0) (reads_of (form_of i)) →
      (execute (action i hart) hart memory).outcome ≡ outcome.Trap trap → Shows (Some i) trap
  unfolding execute action reads_of form_of checked_by
  instr_so (instr.Lb cd c1 imm) trap reads is = access_so _ c1 _ (access.Load Byte) None trap reads refl refl (λ no. absurd (cc)) (checked _ _ trap refl is)
  instr_so (instr.Lbu cd c1 imm) trap reads is = access_so _ c1 _ (access.Load Byte) None trap reads refl refl (λ no. absurd (cc)) (checked _ _ trap refl is)
  instr_so (instr.Lh cd c1 imm) trap reads is = access_so _ c1 _ (access.Load Half) None trap reads refl refl (λ no. absurd (cc)) (checked _ _ trap refl is)
  instr_so (instr.Lhu cd c1 imm) trap reads is = access_so _ c1 _ (access.Load Half) None trap reads refl refl (λ no. absurd (cc)) (checked _ _ trap refl is)
  instr_so (instr.Lw cd c1 imm) trap reads is = access_so _ c1 _ (access.Load Word) None trap reads refl refl (λ no. absurd (cc)) (checked _ _ trap refl is)
  instr_so (instr.Lwu cd c1 imm) trap reads is = access_so _ c1 _ (access.Load Word) None trap reads refl refl (λ no. absurd (cc)) (checked _ _ trap refl is)
  instr_so (instr.Ld cd c1 imm) trap reads is = access_so _ c1 _ (access.Load Double) None trap reads refl refl (λ no. absurd (cc)) (checked _ _ trap refl is)
  instr_so (instr.Lc cd c1 imm) trap reads is = access_so _ c1 _ access.LoadCap None trap reads refl refl (λ no. absurd (cc)) (checked _ _ trap refl is)
  instr_so (instr.Sb c2 c1 imm) trap reads is = access_so _ c1 _ (access.Store Byte) None trap (both_below c2 c1 _ refl reads).1 refl refl (λ no. absurd (cc)) (checked _ _ trap refl is)
  instr_so (instr.Sh c2 c1 imm) trap reads is = access_so _ c1 _ (access.Store Half) None trap (both_below c2 c1 _ refl reads).1 refl refl (λ no. absurd (cc)) (checked _ _ trap refl is)
  instr_so (instr.Sw c2 c1 imm) trap reads is = access_so _ c1 _ (access.Store Word) None trap (both_below c2 c1 _ refl reads).1 refl refl (λ no. absurd (cc)) (checked _ _ trap refl is)
  instr_so (instr.Sd c2 c1 imm) trap reads is = access_so _ c1 _ (access.Store Double) None trap (both_below c2 c1 _ refl reads).1 refl refl (λ no. absurd (cc)) (checked _ _ trap refl is)
  instr_so (instr.Sc c2 c1 imm) trap reads is = access_so _ c1 _ access.StoreCap (Some (register hart c2)) trap (both_below c2 c1 _ refl reads).1 refl refl (λ yes. refl) (checked _ _ trap refl is)
  instr_so (instr.AmoSwapC cd c2 c1) trap reads is = access_so _ c1 _ access.Swap (Some (register hart c2)) trap (both_below c2 c1 _ refl reads).1 refl refl (λ yes. refl) (checked _ _ trap refl is)
  instr_so (instr.Beq c1 c2 target) trap reads is = branch_so _ _ _ trap refl is
  instr_so (instr.Bne c1 c2 target) trap reads is = branch_so _ _ _ trap refl is
  instr_so (instr.Blt c1 c2 target) trap reads is = branch_so _ _ _ trap refl is
  instr_so (instr.Bge c1 c2 target) trap reads is = branch_so _ _ _ trap refl is
  instr_so (instr.Bltu c1 c2 target) trap reads is = branch_so _ _ _ trap refl is
  instr_so (instr.Bgeu c1 c2 target) trap reads is = branch_so _ _ _ trap refl is
  instr_so (instr.CJal cd target) trap reads is = target_so _ _ trap refl (checked _ _ trap refl is)
  instr_so (instr.CJalr cd c1 imm) trap reads is = jump_so _ c1 _ _ trap reads.1 refl refl (checked _ _ trap refl is)
  instr_so (instr.CInvoke c1 c2) trap reads is =
      let below = both_below c1 c2 _ refl reads in invoke_so c1 c2 _ trap below.0 below.1 refl (checked _ _ trap refl is)
  instr_so _ trap reads is = absurd (cc)

-- ---- a step

by_fetch : (r : Result (Unit {0}) Trap) (program : List Instr) (hart : HartState) (memory : List CapValue) (trap : Trap) →
    first_failing (fetch_table hart.pcc (length program)) ≡ r →
    ForSome (fetched_by r program hart.pcc) (λ f. EachIs (IsSpot 0) (reads_of (form_of f.instr))) →
    (unless_trapped r hart memory (execute (action (instruction_at program (address_of hart.pcc)) hart) hart memory)).outcome ≡ outcome.Trap trap →
    IsTrapSo (length program) hart memory (trap_why (option_map (λ f. f.instr) (fetched_by r program hart.pcc)) hart trap)
unfolding trapped
by_fetch (Ok u) program hart memory trap passed reads is =
    instr_so (length program) hart memory (instruction_at program (address_of hart.pcc)) trap (reads _ refl) is
by_fetch (Err other) program hart memory trap passed reads is =
    let same : other ≡ trap = cc in
    fetch_so (length program) hart memory trap (passed ∙ ap (λ t. Err t) same)

pub trap_so : (program : List Instr) (hart : HartState) (memory : List CapValue) (trap : Trap) → ReadsRegisters program hart →
    (hart_step program hart memory).outcome ≡ outcome.Trap trap → IsTrapSo (length program) hart memory (step_trap_why program hart trap)
unfolding hart_step fetched_of
trap_so program hart memory trap reads is = by_fetch _ program hart memory trap refl reads is
