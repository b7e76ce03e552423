-- What a step leaves in each place is made of what was, before it, in the place that its flows name.
use Rattle.std.proofs.Common.{◌≡◌, ℕ, ◌==◌, true, false, List, [], ◌∷◌, refl, inl, inr, arith, length}
use Rattle.std.specs.Prelude.{if◌then◌else◌, All, slice_set, Result, Ok, Err, Some, None}
use Rattle.std.proofs.lemmas.Bool.{cases_Bool}
use Rattle.cheri_model.specs.declared.instr.Instr.{Instr}
use Rattle.cheri_model.specs.declared.instr.Instr.TheVariants as instr
use Rattle.cheri_model.specs.declared.trace.Trap.{Trap}
use Rattle.cheri_model.specs.declared.trace.Outcome.TheVariants as outcome
use Rattle.cheri_model.specs.declared.trace.Status.TheVariants as status
use Rattle.cap_model.specs.values.CapValue.{CapValue, valid, raw, IsLawfulValue}
use Rattle.cap_model.specs.results.Addresses.{with_address, address_of}
use Rattle.cap_model.specs.results.Seals.{unsealed}
use Rattle.cap_model.specs.results.CapInstructions.{CapInstruction, capability_result}
use Rattle.cheri_model.specs.declared.access.Access.TheVariants as access
use Rattle.cheri_model.specs.steps.Memory.{bytes_of, granule_number, granule_at, load_capability, store_capability, store_data}
use Rattle.cheri_model.specs.steps.Hart.{HartState, null, register, word_of_integer, put, next_pcc, next, link}
use Rattle.cheri_model.specs.steps.Actions.{Action, Put, Load, Store, LoadCap, StoreCap, Swap, Branch, Jump, JumpThrough, Invoke, Halt, action}
use Rattle.cheri_model.specs.steps.HartStep.{Stepped, trapped, unless_trapped, access_check, permitted, jumped_to, done, invoked_data, execute, hart_step, instruction_at}
use Rattle.cheri_model.specs.steps.Checks.{first_failing, fetch_table, target_table, jump_table, invoke_table}
use Rattle.cheri_model.specs.runs.Authority.{EachOfHart}
use Rattle.origins.specs.declared.place.Spot.{Spot}
use Rattle.origins.specs.declared.place.Spot.TheVariants.{Pcc, Register, Granule}
use Rattle.origins.specs.declared.place.Flow.{Flow}
use Rattle.origins.specs.Places.{value_at_spot}
use Rattle.origins.specs.Flows.{flow, into, granule_of, flows_at, accessed_address, flows, flows_if, step_flows, source_of}
use Rattle.origins.specs.OriginLaw.{IsOf}
use Rattle.origins.proofs.Made.{IsOf-itself, IsOf-result, IsOf-next_pcc, IsOf-with_address, IsOf-link, IsOf-jumped_to, IsOf-unsealed, IsOf-permitted}
use Rattle.origins.proofs.Writes.{at_each, at_set}

-- a lawful hart's register
pub register_lawful : (hart : HartState) (n : ℕ) → EachOfHart IsLawfulValue hart → IsLawfulValue (register hart n)
unfolding register
register_lawful hart n lawful = at_each IsLawfulValue hart.regs n null (omega arith) lawful.regs

module _ (hart : HartState) (memory : List CapValue) where
  abbrev before : Spot → CapValue
  before spot = value_at_spot hart memory spot

  -- what these flows leave of PCC and of memory where they set a register alone
  into_pcc : (cd : ℕ) (s : Spot) → source_of (into cd s) Pcc ≡ Pcc
  unfolding source_of
  into_pcc cd s = elim (cd == 0) as (λ z. source_of (if z then [] else flow (Register cd) s ∷ []) Pcc ≡ Pcc) [ true ↦ refl | false ↦ refl ]

  into_granule : (cd : ℕ) (s : Spot) (k : ℕ) → source_of (into cd s) (Granule k) ≡ Granule k
  unfolding source_of
  into_granule cd s k = elim (cd == 0) as (λ z. source_of (if z then [] else flow (Register cd) s ∷ []) (Granule k) ≡ Granule k) [ true ↦ refl | false ↦ refl ]

  -- a result in cd is made of its source, and every other register stays
  put_from : (cd n : ℕ) (s : Spot) (v : CapValue) → IsOf v (before s) →
      IsOf (register (put cd v hart) n) (before (source_of (into cd s) (Register n)))
  unfolding source_of put register
  put_from cd n s v made = elim (cases_Bool (cd == 0)) [
    | inl zero ↦ rw zero (IsOf-itself (register hart n))
    | inr some ↦ rw some (at_set (λ x. IsOf x (before (if cd == n then s else Register n))) hart.regs cd n v null tt
        (λ same. rw same made) (λ other. rw other (IsOf-itself (register hart n))))
  ]

  -- an integer in cd is made of nothing
  put_integer : (cd n word : ℕ) → IsOf (register (put cd (raw word) hart) n) (register hart n)
  unfolding put register
  put_integer cd n word = elim (cases_Bool (cd == 0)) [
    | inl zero ↦ rw zero (IsOf-itself (register hart n))
    | inr some ↦ rw some (at_set (λ x. IsOf x (register hart n)) hart.regs cd n (raw word) null tt
        (λ same. tt) (λ other. IsOf-itself (register hart n)))
  ]

  -- a capability stored in a granule is made of its source
  store_from : (addr k : ℕ) (s : Spot) (rest : List Flow) (v : CapValue) → source_of rest (Granule k) ≡ Granule k → IsOf v (before s) →
      IsOf (granule_at (store_capability memory addr v) k) (before (source_of (flow (granule_of addr) s ∷ rest) (Granule k)))
  unfolding source_of store_capability granule_at
  store_from addr k s rest v stays made =
      at_set (λ x. IsOf x (before (if granule_number addr == k then s else source_of rest (Granule k)))) memory (granule_number addr) k v null tt
      (λ same. rw same made) (λ other. rw (other, stays) (IsOf-itself (granule_at memory k)))

  store_integer : (addr bytes number k : ℕ) → IsOf (granule_at (store_data memory addr bytes number) k) (granule_at memory k)
  unfolding store_data granule_at
  store_integer addr bytes number k =
      at_set (λ x. IsOf x (granule_at memory k)) memory (granule_number addr) k _ null tt
      (λ same. tt) (λ other. IsOf-itself (granule_at memory k))

  -- what these flows say of what is in each place now
  record LeftBy (flows : List Flow) (now : HartState) (left : List CapValue) : Type 0 where
    registers : (n : ℕ) → IsOf (register now n) (before (source_of flows (Register n)))
    pcc : IsOf now.pcc (before (source_of flows Pcc))
    granules : (k : ℕ) → IsOf (granule_at left k) (before (source_of flows (Granule k)))

  -- with no flows all is as it was
  unmoved : (now : HartState) → ((n : ℕ) → IsOf (register now n) (register hart n)) → IsOf now.pcc hart.pcc → LeftBy [] now memory
  unfolding source_of
  unmoved now registers pcc = record { registers = registers; pcc = pcc; granules = λ k. IsOf-itself _ }

  -- a value written to cd, and PCC at the next instruction
  record PutFrom (cd : ℕ) (v : CapValue) (flows : List Flow) : Type 0 where
    registers : (n : ℕ) → IsOf (register (put cd v hart) n) (before (source_of flows (Register n)))
    pcc : source_of flows Pcc ≡ Pcc
    granules : (k : ℕ) → source_of flows (Granule k) ≡ Granule k

  from_source : (cd : ℕ) (s : Spot) (v : CapValue) → IsOf v (before s) → PutFrom cd v (into cd s)
  from_source cd s v made = record { registers = λ n. put_from cd n s v made; pcc = into_pcc cd s; granules = into_granule cd s }

  from_nothing : (cd word : ℕ) → PutFrom cd (raw word) []
  unfolding source_of
  from_nothing cd word = record { registers = λ n. put_integer cd n word; pcc = refl; granules = λ k. refl }

  pcc-put : (cd : ℕ) (v : CapValue) → (put cd v hart).pcc ≡ hart.pcc
  unfolding put
  pcc-put cd v = elim (cases_Bool (cd == 0)) [ inl zero ↦ rw zero refl | inr some ↦ rw some refl ]

  put_next : (cd : ℕ) (v : CapValue) (flows : List Flow) → PutFrom cd v flows → LeftBy flows (next (put cd v hart)) memory
  unfolding next register
  put_next cd v flows from = record {
    registers = from.registers;
    pcc = rw (from.pcc, pcc-put cd v) (IsOf-next_pcc hart.pcc);
    granules = λ k. rw (from.granules k) (IsOf-itself (granule_at memory k));
  }

  -- what an action does, as these flows say it
  ActionFrom : Action → List Flow → Type 0
  ActionFrom (Put cd v) flows = PutFrom cd v flows
  ActionFrom (Load cd c1 addr width signed) flows = flows ≡ []
  ActionFrom (Store c1 addr width number) flows = flows ≡ []
  ActionFrom (LoadCap cd c1 addr) flows = flows ≡ into cd (granule_of addr)
  ActionFrom (StoreCap c1 addr v) flows =
      (c2 : ℕ) × (v ≡ register hart c2) × (flows ≡ flow (granule_of addr) (Register c2) ∷ [])
  ActionFrom (Swap cd c1 addr v) flows =
      (c2 : ℕ) × (v ≡ register hart c2) × (flows ≡ flow (granule_of addr) (Register c2) ∷ into cd (granule_of addr))
  ActionFrom (Branch taken target) flows = flows ≡ []
  ActionFrom (Jump cd target) flows = flows ≡ into cd Pcc
  ActionFrom (JumpThrough cd c1 is_entry target) flows = flows ≡ flow Pcc (Register c1) ∷ into cd Pcc
  ActionFrom (Invoke c1 c2 target) flows = flows ≡ flow Pcc (Register c1) ∷ into invoked_data (Register c2)
  ActionFrom Halt flows = flows ≡ []

  derive_from : (i : CapInstruction) (cd c1 : ℕ) (w : CapValue) → EachOfHart IsLawfulValue hart →
      PutFrom cd (capability_result i (register hart c1) w) (into cd (Register c1))
  derive_from i cd c1 w lawful = from_source cd (Register c1) _ (IsOf-result i _ w (register_lawful hart c1 lawful))

  action_from : (i : Instr) → EachOfHart IsLawfulValue hart → ActionFrom (action i hart) (flows i hart)
  unfolding action flows_at ActionFrom
  action_from (instr.CMove cd c1) lawful = derive_from _ cd c1 _ lawful
  action_from (instr.CClearTag cd c1) lawful = derive_from _ cd c1 _ lawful
  action_from (instr.CSetAddr cd c1 c2) lawful = derive_from _ cd c1 _ lawful
  action_from (instr.CIncOffset cd c1 c2) lawful = derive_from _ cd c1 _ lawful
  action_from (instr.CIncOffsetImm cd c1 imm) lawful = derive_from _ cd c1 _ lawful
  action_from (instr.CSetBounds cd c1 c2) lawful = derive_from _ cd c1 _ lawful
  action_from (instr.CSetBoundsImm cd c1 len) lawful = derive_from _ cd c1 _ lawful
  action_from (instr.CSetBoundsExact cd c1 c2) lawful = derive_from _ cd c1 _ lawful
  action_from (instr.CAndPerm cd c1 c2) lawful = derive_from _ cd c1 _ lawful
  action_from (instr.CSetFlags cd c1 c2) lawful = derive_from _ cd c1 _ lawful
  action_from (instr.CSetHigh cd c1 c2) lawful = derive_from _ cd c1 _ lawful
  action_from (instr.CSeal cd c1 c2) lawful = derive_from _ cd c1 _ lawful
  action_from (instr.CUnseal cd c1 c2) lawful = derive_from _ cd c1 _ lawful
  action_from (instr.CBuildCap cd c1 c2) lawful = derive_from _ cd c1 _ lawful
  action_from (instr.CSealEntry cd c1) lawful = derive_from _ cd c1 _ lawful
  action_from (instr.AuiPcc cd imm) lawful = from_source cd Pcc _ (IsOf-result _ _ _ lawful.pcc)
  action_from (instr.Lb cd c1 imm) lawful = refl
  action_from (instr.Lbu cd c1 imm) lawful = refl
  action_from (instr.Lh cd c1 imm) lawful = refl
  action_from (instr.Lhu cd c1 imm) lawful = refl
  action_from (instr.Lw cd c1 imm) lawful = refl
  action_from (instr.Lwu cd c1 imm) lawful = refl
  action_from (instr.Ld cd c1 imm) lawful = refl
  action_from (instr.Lc cd c1 imm) lawful = refl
  action_from (instr.Sb c2 c1 imm) lawful = refl
  action_from (instr.Sh c2 c1 imm) lawful = refl
  action_from (instr.Sw c2 c1 imm) lawful = refl
  action_from (instr.Sd c2 c1 imm) lawful = refl
  action_from (instr.Sc c2 c1 imm) lawful = (c2, refl, refl)
  action_from (instr.AmoSwapC cd c2 c1) lawful = (c2, refl, refl)
  action_from (instr.Beq c1 c2 target) lawful = refl
  action_from (instr.Bne c1 c2 target) lawful = refl
  action_from (instr.Blt c1 c2 target) lawful = refl
  action_from (instr.Bge c1 c2 target) lawful = refl
  action_from (instr.Bltu c1 c2 target) lawful = refl
  action_from (instr.Bgeu c1 c2 target) lawful = refl
  action_from (instr.CJal cd target) lawful = refl
  action_from (instr.CJalr cd c1 imm) lawful = refl
  action_from (instr.CInvoke c1 c2) lawful = refl
  action_from instr.Ecall lawful = refl
  action_from _ lawful = from_nothing _ _

  -- a step as its flows say it
  abbrev StepFrom : List Flow → Stepped → Type 0
  StepFrom flows after = LeftBy (flows_if after.outcome flows) after.hart after.memory

  unless_from : (verdict : Result (Unit {0}) Trap) (flows : List Flow) (after : Stepped) →
      StepFrom flows after → StepFrom flows (unless_trapped verdict hart memory after)
  unfolding trapped register
  unless_from (Ok u) flows after from = from
  unless_from (Err trap) flows after from = unmoved _ (λ n. IsOf-itself _) (IsOf-itself hart.pcc)

  loaded_from : (auth addr : ℕ) → IsOf (permitted (register hart auth) (load_capability memory addr)) (before (granule_of addr))
  unfolding load_capability
  loaded_from auth addr = IsOf-permitted _ _

  execute_from : (asked : Action) (list : List Flow) → ActionFrom asked list → StepFrom list (execute asked hart memory)
  unfolding execute ActionFrom source_of next register
  execute_from (Put cd v) list from = put_next cd v list from
  execute_from (Load cd c1 addr width signed) list is =
      rw is (unless_from (access_check hart c1 addr (access.Load width) None memory) [] _ (put_next cd _ [] (from_nothing cd _)))
  execute_from (Store c1 addr width number) list is =
      let left = store_data memory addr (bytes_of width) number in
      rw is (unless_from (access_check hart c1 addr (access.Store width) None memory) [] (done (next hart) left) record {
        registers = λ n. IsOf-itself (register hart n);
        pcc = IsOf-next_pcc hart.pcc;
        granules = λ k. store_integer addr (bytes_of width) number k;
      })
  execute_from (LoadCap cd c1 addr) list is =
      rw is (unless_from (access_check hart c1 addr access.LoadCap None memory) (into cd (granule_of addr)) _
      (put_next cd _ _ (from_source cd (granule_of addr) _ (loaded_from c1 addr))))
  execute_from (StoreCap c1 addr v) list (c2, stored, is) =
      let left = store_capability memory addr (register hart c2) in
      rw (is, stored) (unless_from (access_check hart c1 addr access.StoreCap (Some (register hart c2)) memory)
      (flow (granule_of addr) (Register c2) ∷ []) (done (next hart) left) record {
        registers = λ n. IsOf-itself (register hart n);
        pcc = IsOf-next_pcc hart.pcc;
        granules = λ k. store_from addr k (Register c2) [] (register hart c2) refl (IsOf-itself (register hart c2));
      })
  execute_from (Swap cd c1 addr v) list (c2, stored, is) =
      let value = permitted (register hart c1) (load_capability memory addr) in
      let loaded = put_next cd value (into cd (granule_of addr)) (from_source cd (granule_of addr) value (loaded_from c1 addr)) in
      rw (is, stored) (unless_from (access_check hart c1 addr access.Swap (Some (register hart c2)) memory)
      (flow (granule_of addr) (Register c2) ∷ into cd (granule_of addr))
      (done (next (put cd value hart)) (store_capability memory addr (register hart c2))) record {
        registers = loaded.registers;
        pcc = loaded.pcc;
        granules = λ k. store_from addr k (Register c2) (into cd (granule_of addr)) (register hart c2)
            (into_granule cd (granule_of addr) k) (IsOf-itself (register hart c2));
      })
  execute_from (Branch false target) list is = rw is (unmoved (next hart) (λ n. IsOf-itself (register hart n)) (IsOf-next_pcc hart.pcc))
  execute_from (Branch true target) list is =
      rw is (unless_from (first_failing (target_table hart.pcc target)) [] (done (jumped_to hart.pcc target hart) memory)
      (unmoved (jumped_to hart.pcc target hart) (λ n. IsOf-itself (register hart n)) (IsOf-with_address hart.pcc target)))
  execute_from (Jump cd target) list is =
      rw is (unless_from (first_failing (target_table hart.pcc target)) (into cd Pcc)
      (done (jumped_to hart.pcc target (put cd (link hart.pcc) hart)) memory) record {
        registers = λ n. put_from cd n Pcc (link hart.pcc) (IsOf-link hart.pcc);
        pcc = rw (into_pcc cd Pcc) (IsOf-with_address hart.pcc target);
        granules = λ k. rw (into_granule cd Pcc k) (IsOf-itself (granule_at memory k));
      })
  execute_from (JumpThrough cd c1 is_entry target) list is =
      let through = register hart c1 in
      rw is (unless_from (first_failing (jump_table through c1 is_entry target)) (flow Pcc (Register c1) ∷ into cd Pcc)
      (done (jumped_to (unsealed through) target (put cd (link hart.pcc) hart)) memory) record {
        registers = λ n. put_from cd n Pcc (link hart.pcc) (IsOf-link hart.pcc);
        pcc = IsOf-jumped_to through target;
        granules = λ k. rw (into_granule cd Pcc k) (IsOf-itself (granule_at memory k));
      })
  execute_from (Invoke c1 c2 target) list is =
      let code = register hart c1 in
      let pair = register hart c2 in
      rw is (unless_from (first_failing (invoke_table code c1 pair c2 target)) (flow Pcc (Register c1) ∷ into invoked_data (Register c2))
      (done (jumped_to (unsealed code) target (put invoked_data (unsealed pair) hart)) memory) record {
        registers = λ n. put_from invoked_data n (Register c2) (unsealed pair) (IsOf-unsealed pair);
        pcc = IsOf-jumped_to code target;
        granules = λ k. IsOf-itself (granule_at memory k);
      })
  execute_from Halt list is = unmoved (record hart { status = status.Halted }) (λ n. IsOf-itself (register hart n)) (IsOf-itself hart.pcc)

  step_left : (program : List Instr) → EachOfHart IsLawfulValue hart →
      LeftBy (step_flows program hart memory) (hart_step program hart memory).hart (hart_step program hart memory).memory
  unfolding hart_step step_flows
  step_left program lawful =
      let i = instruction_at program (address_of hart.pcc) in
      unless_from (first_failing (fetch_table hart.pcc (length program))) (flows i hart) (execute (action i hart) hart memory)
      (execute_from (action i hart) (flows i hart) (action_from i lawful))

  -- so of each place
  pub step_from : (program : List Instr) (spot : Spot) → EachOfHart IsLawfulValue hart →
      IsOf (value_at_spot (hart_step program hart memory).hart (hart_step program hart memory).memory spot)
      (value_at_spot hart memory (source_of (step_flows program hart memory) spot))
  step_from program Pcc lawful = (step_left program lawful).pcc
  step_from program (Register n) lawful = (step_left program lawful).registers n
  step_from program (Granule k) lawful = (step_left program lawful).granules k
