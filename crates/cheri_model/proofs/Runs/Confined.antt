-- Every value of a run is lawful and, if it is tagged, granted by what any moment before held: each step keeps it.
use Rattle.std.proofs.Common.{◌≡◌, ◌==◌, ◌+◌, ◌%◌, ◌^◌, ◌≤◌, ℕ, leb-true, eqb-true, length, inl, inr, true, false, List, [], ◌∷◌, refl, ◌∙◌, arith}
use Rattle.std.specs.Prelude.{nat_le, All, slice_set, slice_index_or, map, Result, Ok, Err, None, ⊤, if◌then◌else◌}
use Rattle.std.proofs.lemmas.List.{get_or_past}
use Rattle.std.proofs.lemmas.List.Elements.{All-set, All-map, All-nil, All-weaker}
use Rattle.std.proofs.lemmas.Bool.{and_parts, cases_lt, false≢true}
use Rattle.cheri_model.specs.declared.operation.Op.{Op}
use Rattle.cheri_model.specs.declared.operation.Op.TheVariants as operation
use Rattle.cheri_model.specs.declared.access.Access.TheVariants as access
use Rattle.cheri_model.specs.declared.instr.Instr.{Instr}
use Rattle.cheri_model.specs.declared.instr.Instr.TheVariants as instr
use Rattle.cheri_model.specs.declared.trace.Trap.{Trap}
use Rattle.cheri_model.specs.declared.width.Width.{Width}
use Rattle.cheri_model.specs.declared.width.Width.TheVariants.{Byte, Half, Word, Double}
use Rattle.cap_model.specs.results.CapInstructions.{CapInstruction, capability_result}
use Rattle.cap_model.specs.values.CapValue.{CapValue, valid, raw, bits_of, tag_of, parts_of}
use Rattle.cap_model.specs.results.Addresses.{in_bounds, with_address, address_of, clear_tag}
use Rattle.cap_model.specs.results.Seals.{unsealed}
use Rattle.cheri_model.specs.steps.Hart.{HartState, null, register, word_of_integer, put, next_pcc, next, link}
use Rattle.cheri_model.specs.steps.Actions.{Action, Put, Load, Store, LoadCap, StoreCap, Swap, Branch, Jump, JumpThrough, Invoke, Halt, action}
use Rattle.cheri_model.specs.steps.HartStep.{Stepped, trapped, unless_trapped, access_check, loaded, permitted, jumped_to, invoked_data, execute, hart_step, instruction_at}
use Rattle.cheri_model.specs.steps.Checks.{first_failing, fetch_table, target_table, jump_table, invoke_table}
use Rattle.cheri_model.specs.runs.Image.{ImageParts}
use Rattle.cheri_model.specs.steps.Memory.{ram_base, bytes_of, granule_number, granule_offset, granule_at, load_data, store_data, load_capability, store_capability}
use Rattle.cap_model.specs.results.Swept.{is_in_sweep, swept}
use Rattle.cheri_model.specs.runs.Sweeps.{swept_hart, swept_memory}
use Rattle.cheri_model.specs.runs.Machine.{MachineState, hart_at, no_hart, state_after_step, swept_state, state_after_one}
use Rattle.cheri_model.specs.runs.Replay.{state_after}
use Rattle.cheri_model.specs.runs.Authority.{EachOfHart, EachOfState}
use Rattle.cheri_model.proofs.Runs.Fetches.{fetched_is}
use Rattle.cheri_model.proofs.Runs.ChecksPassed.{IsPlacedAccess, access_is, target_within, IsEntered, jump_is, invoke_is}
use Rattle.cap_model.proofs.Results.Values.{bits_lt}
use Rattle.cheri_model.proofs.Runs.Granted.{IsGood, IsGood-raw, IsGood-null, IsGood-derived, IsGood-cleared, IsGood-entry, IsGood-unsealed, IsGood-permitted, IsGood-moved, with_bytes_below}

-- a data access lies within one granule
within_granule : (addr : ℕ) (width : Width) → ram_base ≤ addr → addr % bytes_of width ≡ 0 → granule_offset addr + bytes_of width ≤ 16
within_granule addr Byte base aligned = omega arith
within_granule addr Half base aligned = omega arith
within_granule addr Word base aligned = omega arith
within_granule addr Double base aligned = omega arith

module _ (sources : List CapValue) where
  abbrev pub Good : CapValue → Type 0
  Good = IsGood sources

  -- past the end of a list there is the default
  good_at : {X : Type 0} (P : X → Type 0) (xs : List X) (n : ℕ) (d : X) → P d → All P xs → P (slice_index_or xs n d)
  good_at P xs n d past each = elim (cases_lt n (length xs)) [
    | inl inside ↦ each n d inside
    | inr outside ↦ rw (get_or_past xs n d outside) past
  ]

  IsGood-register : (hart : HartState) (n : ℕ) → EachOfHart Good hart → Good (register hart n)
  unfolding register
  IsGood-register hart n good = good_at Good hart.regs n null (IsGood-null sources) good.regs

  IsGood-integer : (n : ℕ) → Good (word_of_integer n)
  IsGood-integer n = IsGood-raw sources (n % 2 ^ 64) (omega arith)

  IsGood-granule : (memory : List CapValue) (k : ℕ) → All Good memory → Good (granule_at memory k)
  unfolding granule_at
  IsGood-granule memory k good = good_at Good memory k (raw 0) (IsGood-null sources) good

  put_good : (cd : ℕ) (v : CapValue) (hart : HartState) → Good v → EachOfHart Good hart → EachOfHart Good (put cd v hart)
  unfolding put
  put_good cd v hart value good = elim (cd == 0) as (λ zero. EachOfHart Good (if zero then hart else record hart { regs = slice_set hart.regs cd v })) [
    | true ↦ good
    | false ↦ record { pcc = good.pcc; regs = All-set Good hart.regs cd v value good.regs }
  ]

  -- a write to a register leaves PCC alone
  pcc-put : (cd : ℕ) (v : CapValue) (hart : HartState) → (put cd v hart).pcc ≡ hart.pcc
  unfolding put
  pcc-put cd v hart = elim (cd == 0) as (λ zero. (if zero then hart else record hart { regs = slice_set hart.regs cd v }).pcc ≡ hart.pcc) [
    | true ↦ refl
    | false ↦ refl
  ]

  -- ---- PCC after a fetch, and at a target

  next_pcc_good : (pcc : CapValue) (count : ℕ) → first_failing (fetch_table pcc count) ≡ Ok tt → Good pcc → Good (next_pcc pcc)
  unfolding next_pcc address_of
  next_pcc_good pcc count fetched good =
      let is = fetched_is pcc count fetched in
      let inside = and_parts (nat_le (parts_of pcc).base (parts_of pcc).addr) _ is.within in
      let from = leb-true _ _ inside.0 in
      let to = leb-true _ _ inside.1 in
      IsGood-moved sources pcc ((parts_of pcc).addr + 4) _ is.tagged (omega arith) (omega arith) refl good

  target_good : (v : CapValue) (target : ℕ) → tag_of v ≡ true → in_bounds v target 4 ≡ true → Good v → Good (with_address v target)
  target_good (raw word) target tagged within good = IsGood-moved sources (raw word) target target tagged (absurd (false≢true tagged)) (absurd (false≢true tagged)) (absurd (false≢true tagged)) good
  target_good (valid c) target tagged within good =
      let inside = and_parts (nat_le c.base target) _ within in
      let from = leb-true _ _ inside.0 in
      let to = leb-true _ _ inside.1 in
      let most = good.lawful.top_at_most in
      IsGood-moved sources (valid c) target target tagged (omega arith) (omega arith) (omega arith) good

  -- unsealing keeps tag and bounds
  tag_of-unsealed : (v : CapValue) → tag_of v ≡ true → tag_of (unsealed v) ≡ true
  unfolding unsealed
  tag_of-unsealed (valid c) tagged = refl
  tag_of-unsealed (raw word) tagged = absurd (false≢true tagged)

  in_bounds-unsealed : (v : CapValue) (p n : ℕ) → tag_of v ≡ true → in_bounds (unsealed v) p n ≡ in_bounds v p n
  unfolding unsealed
  in_bounds-unsealed (valid c) p n tagged = refl
  in_bounds-unsealed (raw word) p n tagged = absurd (false≢true tagged)

  entered_good : (v : CapValue) (target : ℕ) → IsEntered v target → Good v → Good (with_address (unsealed v) target)
  entered_good v target is good =
      target_good (unsealed v) target (tag_of-unsealed v is.tagged)
      (in_bounds-unsealed v target 4 is.tagged ∙ is.within) (IsGood-unsealed sources v good)

  -- ---- what an instruction asks for

  -- the values that an action has with it
  ActionGood : Action → Type 0
  ActionGood (Put cd v) = Good v
  ActionGood (Load cd c1 addr width signed) = ⊤
  ActionGood (Store c1 addr width number) = ⊤
  ActionGood (LoadCap cd c1 addr) = ⊤
  ActionGood (StoreCap c1 addr v) = Good v
  ActionGood (Swap cd c1 addr v) = Good v
  ActionGood (Branch taken target) = ⊤
  ActionGood (Jump cd target) = ⊤
  ActionGood (JumpThrough cd c1 is_entry target) = ⊤
  ActionGood (Invoke c1 c2 target) = ⊤
  ActionGood Halt = ⊤

  derive_good : (i : CapInstruction) (c1 c2 : ℕ) (hart : HartState) → EachOfHart Good hart →
      Good (capability_result i (register hart c1) (register hart c2))
  derive_good i c1 c2 hart good =
      IsGood-derived sources i _ _ (IsGood-register hart c1 good) (IsGood-register hart c2 good)

  derive_by_good : (i : CapInstruction) (v : CapValue) (number : ℕ) → Good v → Good (capability_result i v (word_of_integer number))
  derive_by_good i v number good = IsGood-derived sources i _ _ good (IsGood-integer number)

  action_good : (i : Instr) (hart : HartState) → EachOfHart Good hart → ActionGood (action i hart)
  unfolding action ActionGood
  action_good (instr.CMove cd c1) hart good = derive_good _ c1 c1 hart good
  action_good (instr.CClearTag cd c1) hart good = derive_good _ c1 c1 hart good
  action_good (instr.CSetAddr cd c1 c2) hart good = derive_good _ c1 c2 hart good
  action_good (instr.CIncOffset cd c1 c2) hart good = derive_good _ c1 c2 hart good
  action_good (instr.CIncOffsetImm cd c1 imm) hart good = derive_by_good _ _ _ (IsGood-register hart c1 good)
  action_good (instr.CSetBounds cd c1 c2) hart good = derive_good _ c1 c2 hart good
  action_good (instr.CSetBoundsImm cd c1 len) hart good = derive_by_good _ _ _ (IsGood-register hart c1 good)
  action_good (instr.CSetBoundsExact cd c1 c2) hart good = derive_good _ c1 c2 hart good
  action_good (instr.CAndPerm cd c1 c2) hart good = derive_good _ c1 c2 hart good
  action_good (instr.CSetFlags cd c1 c2) hart good = derive_good _ c1 c2 hart good
  action_good (instr.CSetHigh cd c1 c2) hart good = derive_good _ c1 c2 hart good
  action_good (instr.CSeal cd c1 c2) hart good = derive_good _ c1 c2 hart good
  action_good (instr.CUnseal cd c1 c2) hart good = derive_good _ c1 c2 hart good
  action_good (instr.CBuildCap cd c1 c2) hart good = derive_good _ c1 c2 hart good
  action_good (instr.CSealEntry cd c1) hart good = derive_good _ c1 c1 hart good
  action_good (instr.AuiPcc cd imm) hart good = derive_by_good _ _ _ good.pcc
  action_good (instr.Lb cd c1 imm) hart good = tt
  action_good (instr.Lbu cd c1 imm) hart good = tt
  action_good (instr.Lh cd c1 imm) hart good = tt
  action_good (instr.Lhu cd c1 imm) hart good = tt
  action_good (instr.Lw cd c1 imm) hart good = tt
  action_good (instr.Lwu cd c1 imm) hart good = tt
  action_good (instr.Ld cd c1 imm) hart good = tt
  action_good (instr.Lc cd c1 imm) hart good = tt
  action_good (instr.Sb c2 c1 imm) hart good = tt
  action_good (instr.Sh c2 c1 imm) hart good = tt
  action_good (instr.Sw c2 c1 imm) hart good = tt
  action_good (instr.Sd c2 c1 imm) hart good = tt
  action_good (instr.Sc c2 c1 imm) hart good = IsGood-register hart c2 good
  action_good (instr.AmoSwapC cd c2 c1) hart good = IsGood-register hart c2 good
  action_good (instr.Beq c1 c2 target) hart good = tt
  action_good (instr.Bne c1 c2 target) hart good = tt
  action_good (instr.Blt c1 c2 target) hart good = tt
  action_good (instr.Bge c1 c2 target) hart good = tt
  action_good (instr.Bltu c1 c2 target) hart good = tt
  action_good (instr.Bgeu c1 c2 target) hart good = tt
  action_good (instr.CJal cd target) hart good = tt
  action_good (instr.CJalr cd c1 imm) hart good = tt
  action_good (instr.CInvoke c1 c2) hart good = tt
  action_good instr.Ecall hart good = tt
  action_good _ hart good = IsGood-integer _

  -- ---- what a step leaves

  pub record StepGood (after : Stepped) : Type 0 where
    pub hart : EachOfHart Good after.hart
    pub memory : All Good after.memory

  unless_good : (verdict : Result (Unit {0}) Trap) (hart : HartState) (memory : List CapValue) (after : Stepped) →
      EachOfHart Good hart → All Good memory → (verdict ≡ Ok tt → StepGood after) → StepGood (unless_trapped verdict hart memory after)
  unfolding trapped
  unless_good (Ok u) hart memory after good granules passed = passed refl
  unless_good (Err trap) hart memory after good granules passed =
      record { hart = record { pcc = good.pcc; regs = good.regs }; memory = granules }

  next_good : (hart : HartState) → Good (next_pcc hart.pcc) → EachOfHart Good hart → EachOfHart Good (next hart)
  unfolding next
  next_good hart moved good = record { pcc = moved; regs = good.regs }

  -- a register written, and PCC four bytes on
  put_next_good : (cd : ℕ) (v : CapValue) (hart : HartState) → Good (next_pcc hart.pcc) → Good v → EachOfHart Good hart → EachOfHart Good (next (put cd v hart))
  put_next_good cd v hart moved value good =
      next_good (put cd v hart) (rw (pcc-put cd v hart) moved) (put_good cd v hart value good)

  put_jumped_good : (cd : ℕ) (v pcc : CapValue) (target : ℕ) (hart : HartState) → Good (with_address pcc target) → Good v → EachOfHart Good hart → EachOfHart Good (jumped_to pcc target (put cd v hart))
  put_jumped_good cd v pcc target hart moved value good =
      let written = put_good cd v hart value good in record { pcc = moved; regs = written.regs }

  link_good : (pcc : CapValue) → Good (next_pcc pcc) → Good (link pcc)
  unfolding link
  link_good pcc moved = IsGood-entry sources (next_pcc pcc) moved

  -- what a store leaves in its granule
  stored_good : (memory : List CapValue) (addr : ℕ) (width : Width) (number : ℕ) → IsPlacedAccess addr (access.Store width) memory → All Good memory →
      All Good (store_data memory addr (bytes_of width) number)
  unfolding store_data
  stored_good memory addr width number is good =
      let k : ℕ = granule_number addr in
      let before = IsGood-granule memory k good in
      let inside = and_parts (nat_le ram_base addr) _ is.placed in
      let fits = within_granule addr width (leb-true _ _ inside.0) (eqb-true _ _ is.aligned) in
      let word = with_bytes_below (bits_of (granule_at memory k)) (granule_offset addr) (bytes_of width) number (bits_lt _ before.lawful) fits in
      All-set Good memory k _ (IsGood-raw sources _ word) good

  stored_capability_good : (memory : List CapValue) (addr : ℕ) (v : CapValue) → Good v → All Good memory → All Good (store_capability memory addr v)
  unfolding store_capability
  stored_capability_good memory addr v value good = All-set Good memory (granule_number addr) v value good

  loaded_capability_good : (auth : CapValue) (memory : List CapValue) (addr : ℕ) → All Good memory → Good (permitted auth (load_capability memory addr))
  unfolding load_capability
  loaded_capability_good auth memory addr good =
      IsGood-permitted sources auth _ (IsGood-granule memory (granule_number addr) good)

  execute_good : (act : Action) (hart : HartState) (memory : List CapValue) → tag_of hart.pcc ≡ true → Good (next_pcc hart.pcc) →
      ActionGood act → EachOfHart Good hart → All Good memory → StepGood (execute act hart memory)
  unfolding execute ActionGood
  execute_good (Put cd v) hart memory tagged moved value good granules =
      record { hart = put_next_good cd v hart moved value good; memory = granules }
  execute_good (Load cd c1 addr width signed) hart memory tagged moved value good granules =
      unless_good _ hart memory _ good granules
      (λ passed. record {
        hart = put_next_good cd _ hart moved (IsGood-integer (loaded signed width (load_data memory addr (bytes_of width)))) good;
        memory = granules;
      })
  execute_good (Store c1 addr width number) hart memory tagged moved value good granules =
      unless_good (access_check hart c1 addr (access.Store width) None memory) hart memory _ good granules
      (λ passed. record {
        hart = next_good hart moved good;
        memory = stored_good memory addr width number (access_is (register hart c1) c1 addr (access.Store width) None memory passed) granules;
      })
  execute_good (LoadCap cd c1 addr) hart memory tagged moved value good granules =
      unless_good _ hart memory _ good granules
      (λ passed. record {
        hart = put_next_good cd _ hart moved (loaded_capability_good (register hart c1) memory addr granules) good;
        memory = granules;
      })
  execute_good (StoreCap c1 addr v) hart memory tagged moved value good granules =
      unless_good _ hart memory _ good granules
      (λ passed. record { hart = next_good hart moved good; memory = stored_capability_good memory addr v value granules })
  execute_good (Swap cd c1 addr v) hart memory tagged moved value good granules =
      unless_good _ hart memory _ good granules
      (λ passed. record {
        hart = put_next_good cd _ hart moved (loaded_capability_good (register hart c1) memory addr granules) good;
        memory = stored_capability_good memory addr v value granules;
      })
  execute_good (Branch false target) hart memory tagged moved value good granules =
      record { hart = next_good hart moved good; memory = granules }
  execute_good (Branch true target) hart memory tagged moved value good granules =
      unless_good (first_failing (target_table hart.pcc target)) hart memory _ good granules
      (λ passed. record {
        hart = record { pcc = target_good hart.pcc target tagged (target_within hart.pcc target passed) good.pcc; regs = good.regs };
        memory = granules;
      })
  execute_good (Jump cd target) hart memory tagged moved value good granules =
      unless_good (first_failing (target_table hart.pcc target)) hart memory _ good granules
      (λ passed. record {
        hart = put_jumped_good cd (link hart.pcc) hart.pcc target hart
            (target_good hart.pcc target tagged (target_within hart.pcc target passed) good.pcc) (link_good hart.pcc moved) good;
        memory = granules;
      })
  execute_good (JumpThrough cd c1 is_entry target) hart memory tagged moved value good granules =
      unless_good (first_failing (jump_table (register hart c1) c1 is_entry target)) hart memory _ good granules
      (λ passed. record {
        hart = put_jumped_good cd (link hart.pcc) (unsealed (register hart c1)) target hart
            (entered_good (register hart c1) target (jump_is (register hart c1) c1 is_entry target passed) (IsGood-register hart c1 good))
            (link_good hart.pcc moved) good;
        memory = granules;
      })
  execute_good (Invoke c1 c2 target) hart memory tagged moved value good granules =
      unless_good (first_failing (invoke_table (register hart c1) c1 (register hart c2) c2 target)) hart memory _ good granules
      (λ passed. record {
        hart = put_jumped_good invoked_data (unsealed (register hart c2)) (unsealed (register hart c1)) target hart
            (entered_good (register hart c1) target (invoke_is (register hart c1) c1 (register hart c2) c2 target passed) (IsGood-register hart c1 good))
            (IsGood-unsealed sources (register hart c2) (IsGood-register hart c2 good)) good;
        memory = granules;
      })
  execute_good Halt hart memory tagged moved value good granules =
      record { hart = record { pcc = good.pcc; regs = good.regs }; memory = granules }

  pub step_good : (program : List Instr) (hart : HartState) (memory : List CapValue) →
      EachOfHart Good hart → All Good memory → StepGood (hart_step program hart memory)
  unfolding hart_step
  step_good program hart memory good granules =
      let act = action (instruction_at program (address_of hart.pcc)) hart in
      unless_good (first_failing (fetch_table hart.pcc (length program))) hart memory (execute act hart memory) good granules
      (λ passed.
      execute_good act hart memory (fetched_is hart.pcc (length program) passed).tagged
      (next_pcc_good hart.pcc (length program) passed good.pcc) (action_good _ hart good) good granules)

  -- ---- runs

  step_state_good : (image : ImageParts) (state : MachineState) (number : ℕ) →
      EachOfState Good state → EachOfState Good (state_after_step image state number)
  unfolding state_after_step hart_at
  step_state_good image state number good =
      let default : EachOfHart Good no_hart = record { pcc = IsGood-null sources; regs = All-nil Good } in
      let here = good_at (EachOfHart Good) state.harts number no_hart default good.harts in
      let after = step_good image.program (hart_at state number) state.memory here good.memory in
      record { harts = All-set (EachOfHart Good) state.harts number _ after.hart good.harts; memory = after.memory }

  -- a sweep clears tags, and leaves all else
  swept_good : (lo hi : ℕ) (v : CapValue) → Good v → Good (swept lo hi v)
  unfolding swept
  swept_good lo hi v good = elim (is_in_sweep lo hi v) as (λ cleared. Good (if cleared then clear_tag v else v)) [
    | true ↦ IsGood-cleared sources v good
    | false ↦ good
  ]

  all_swept_good : (lo hi : ℕ) (values : List CapValue) → All Good values → All Good (map (swept lo hi) values)
  all_swept_good lo hi values good = All-map Good (swept lo hi) values (All-weaker Good (λ v. Good (swept lo hi v)) (swept_good lo hi) values good)

  swept_state_good : (lo hi : ℕ) (state : MachineState) → EachOfState Good state → EachOfState Good (swept_state lo hi state)
  unfolding swept_state swept_hart swept_memory
  swept_state_good lo hi state good = record {
    harts = All-map (EachOfHart Good) (swept_hart lo hi) state.harts
        (All-weaker (EachOfHart Good) (λ h. EachOfHart Good (swept_hart lo hi h))
        (λ h each. record { pcc = swept_good lo hi h.pcc each.pcc; regs = all_swept_good lo hi h.regs each.regs }) state.harts good.harts);
    memory = all_swept_good lo hi state.memory good.memory;
  }

  state_good : (image : ImageParts) (state : MachineState) (op : Op) →
      EachOfState Good state → EachOfState Good (state_after_one image state op)
  unfolding state_after_one
  state_good image state (operation.Step number) good = step_state_good image state number good
  state_good image state (operation.Sweep lo hi) good = swept_state_good lo hi state good

  pub run_good : (image : ImageParts) (order : List Op) (state : MachineState) →
      EachOfState Good state → EachOfState Good (state_after image state order)
  unfolding state_after
  run_good image [] state good = good
  run_good image (op ∷ order) state good = run_good image order _ (state_good image state op good)
