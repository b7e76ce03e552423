-- What a hart that runs has forgotten makes no difference to what it asks of memory.
use Rattle.std.proofs.Common.{◌≡◌, ℕ, ◌-◌, ◌/◌, ◌%◌, length, List, refl, sym, ap, ◌∙◌, inl, inr, subst}
use Rattle.std.specs.Prelude.{Bool, true, not, Option, ◌==◌, ◌||◌, nat_le, nat_lt, if◌then◌else◌, Result, Ok, Err, slice_index_or}
use Rattle.std.proofs.lemmas.Bool.{and_parts}
use Rattle.std.proofs.lemmas.Option.{slice_get-get_or}
use Rattle.cap_model.specs.results.Addresses.{address_of}
use Rattle.cap_model.specs.values.CapValue.{CapValue, tag_of}
use Rattle.cheri_model.specs.declared.instr.Instr.{Instr}
use Rattle.cheri_model.specs.declared.instr.Instr.TheVariants as instr
use Rattle.cheri_model.specs.declared.instr.Instr.TheVariants.{Ecall}
use Rattle.cheri_model.specs.declared.trace.Trap.{Trap}
use Rattle.cheri_model.specs.instructions.Form.{form_of}
use Rattle.cheri_model.specs.runs.Image.{ImageParts}
use Rattle.cheri_model.specs.runs.Machine.{is_running}
use Rattle.cheri_model.specs.steps.Actions.{Action, action}
use Rattle.cheri_model.specs.steps.Checks.{first_failing, fetch_table, code_base}
use Rattle.cheri_model.specs.steps.Hart.{HartState, register}
use Rattle.cheri_model.specs.steps.HartStep.{instruction_at}
use Rattle.cheri_model.specs.steps.Memory.{granule_number}
use Rattle.cheri_model.proofs.Runs.Fetches.{IsFetched, fetched_is, from_code}
use Rattle.explore_turns.specs.QuietSteps.{is_access, where_fetched, asks_memory}
use Rattle.forgotten_turns.proofs.ForgettingLemmas.{same_access}
use Rattle.live_registers.specs.LiveSets.{IsRight, IsRightBefore, LiveSets, set_at, set_of, forgotten_hart}
use Rattle.live_registers.specs.Operands.{reads, only_computes}
use Rattle.live_registers.specs.RegisterSets.{has, forgotten}
use Rattle.live_registers.proofs.ActionLemmas.{same_action, puts}
use Rattle.live_registers.proofs.SetLemmas.{kept_in}
use Rattle.own_granules.specs.Granules.{asks_store, granule_of, granules_of, is_private, is_store, may_touch, respects}
use Rattle.states.specs.Accesses.{accessed_address, address_in, unless_fetch_traps}
use Rattle.states.specs.Locals.{touched}

-- whether an instruction asks for a store depends on no register
same_store : (i : Instr) (g h : HartState) → is_store (action i g) ≡ is_store (action i h)
unfolding action
same_store (instr.CSetAddr cd c1 c2) g h = refl
same_store _ g h = refl

-- one that only computes asks for no access
no_address : (i : Instr) (h : HartState) → only_computes (form_of i) ≡ true → address_in (action i h) ≡ 0
no_address i h computes = ap (λ (a : Action). address_in a) (puts i h computes)

-- the address depends on the registers that it reads alone
same_address : (i : Instr) (g h : HartState) → g.pcc ≡ h.pcc →
    register g (reads (form_of i)).0 ≡ register h (reads (form_of i)).0 →
    register g (reads (form_of i)).1 ≡ register h (reads (form_of i)).1 →
    address_in (action i g) ≡ address_in (action i h)
same_address i g h pcc one two = ap (λ (a : Action). address_in a) (same_action i g h pcc one two)

where_passed : (verdict : Result (Unit {0}) Trap) (a b : ℕ) → (verdict ≡ Ok tt → a ≡ b) →
    unless_fetch_traps verdict a ≡ unless_fetch_traps verdict b
where_passed (Ok u) a b same = same refl
where_passed (Err trap) a b same = refl

-- what matters to a hart that runs at an instruction
set_here : (live : LiveSets) (h : HartState) → is_running h.status ≡ true → tag_of h.pcc ≡ true →
    nat_le code_base (address_of h.pcc) ≡ true → (address_of h.pcc % 4 == 0) ≡ true →
    set_of live h ≡ slice_index_or live.sets ((address_of h.pcc - code_base) / 4) live.asked
unfolding set_of set_at
set_here live h running tagged base aligned = rw (running, tagged, base, aligned) refl

pcc_stays : (live : LiveSets) (h : HartState) → (forgotten_hart live h).pcc ≡ h.pcc
unfolding forgotten_hart forgotten
pcc_stays live h = refl

register_stays : (live : LiveSets) (h : HartState) (reg : ℕ) → has (set_of live h) reg ≡ true →
    register (forgotten_hart live h) reg ≡ register h reg
unfolding forgotten_hart forgotten register
register_stays live h reg held = kept_in (set_of live h) h.regs reg held

module _ (program : List Instr) (live : LiveSets) (h : HartState) where
  abbrev lost : HartState
  lost = forgotten_hart live h

  -- an instruction before which such registers matter
  by_reading : (i : Instr) (number : ℕ) (set : List Bool) → set_of live h ≡ set →
      IsRightBefore live number (form_of i) set → address_in (action i lost) ≡ address_in (action i h)
  by_reading i number set here before = elim before.read [
    | inl alone ↦ no_address i lost alone.0 ∙ sym (no_address i h alone.0)
    | inr read ↦
        same_address i lost h (pcc_stays live h)
        (register_stays live h (reads (form_of i)).0
        (subst (λ (s : List Bool). has s (reads (form_of i)).0 ≡ true) (sym here) read.0))
        (register_stays live h (reads (form_of i)).1
        (subst (λ (s : List Bool). has s (reads (form_of i)).1 ≡ true) (sym here) read.1))
  ]

  at_instruction : IsRight program live → is_running h.status ≡ true → IsFetched h.pcc (length program) →
      address_in (action (instruction_at program (address_of h.pcc)) lost)
      ≡ address_in (action (instruction_at program (address_of h.pcc)) h)
  unfolding instruction_at
  at_instruction right running is =
      let addr = address_of h.pcc in
      let number = (addr - code_base) / 4 in
      let place = from_code (length program) addr is.placed in
      let base : nat_le code_base addr ≡ true = (and_parts (nat_le code_base addr) _ is.placed).0 in
      by_reading (slice_index_or program number Ecall) number (slice_index_or live.sets number live.asked)
      (set_here live h running is.tagged base is.aligned)
      (right.before number (slice_index_or program number Ecall) (slice_get-get_or program number Ecall place.1))

  same_accessed : IsRight program live → is_running h.status ≡ true →
      accessed_address program (forgotten_hart live h) ≡ accessed_address program h
  unfolding accessed_address
  same_accessed right running =
      ap (λ (pcc : CapValue). unless_fetch_traps (first_failing (fetch_table pcc (length program)))
      (address_in (action (instruction_at program (address_of pcc)) lost))) (pcc_stays live h)
      ∙ where_passed (first_failing (fetch_table h.pcc (length program)))
      (address_in (action (instruction_at program (address_of h.pcc)) lost))
      (address_in (action (instruction_at program (address_of h.pcc)) h))
      (λ passed. at_instruction right running (fetched_is h.pcc (length program) passed))

  -- ---- what it asks for

  pub same_asks : asks_memory program (forgotten_hart live h) ≡ asks_memory program h
  unfolding asks_memory
  same_asks =
      ap (λ (pcc : CapValue). where_fetched (first_failing (fetch_table pcc (length program)))
      (is_access (action (instruction_at program (address_of pcc)) lost))) (pcc_stays live h)
      ∙ ap (where_fetched (first_failing (fetch_table h.pcc (length program))))
      (same_access (instruction_at program (address_of h.pcc)) lost h)

  pub same_stores : asks_store program (forgotten_hart live h) ≡ asks_store program h
  unfolding asks_store
  same_stores =
      ap (λ (pcc : CapValue). where_fetched (first_failing (fetch_table pcc (length program)))
      (is_store (action (instruction_at program (address_of pcc)) lost))) (pcc_stays live h)
      ∙ ap (where_fetched (first_failing (fetch_table h.pcc (length program))))
      (same_store (instruction_at program (address_of h.pcc)) lost h)

module _ (image : ImageParts) (live : LiveSets) (right : IsRight image.program live) (h : HartState)
    (running : is_running h.status ≡ true) where
  pub same_granule : granule_of image (forgotten_hart live h) ≡ granule_of image h
  unfolding touched
  same_granule =
      ap (λ (address : ℕ). if nat_lt (granule_number address) (granules_of image) then granule_number address else 0)
      (same_accessed image.program live h right running)

  pub same_private : (shared : ℕ → Bool) → is_private image shared (forgotten_hart live h) ≡ is_private image shared h
  unfolding is_private
  same_private shared =
      ap (λ (asks : Bool). not asks || not (shared (granule_of image (forgotten_hart live h))))
      (same_asks image.program live h)
      ∙ ap (λ (granule : ℕ). not (asks_memory image.program h) || not (shared granule)) same_granule

  pub same_respects : (shared : ℕ → Bool) (owner : ℕ → Option ℕ) (number : ℕ) →
      respects image shared owner number (forgotten_hart live h) ≡ respects image shared owner number h
  unfolding respects
  same_respects shared owner number =
      ap (λ (asks : Bool). not asks || (shared (granule_of image (forgotten_hart live h))
      || may_touch (owner (granule_of image (forgotten_hart live h))) number
      (asks_store image.program (forgotten_hart live h)))) (same_asks image.program live h)
      ∙ (ap (λ (granule : ℕ). not (asks_memory image.program h) || (shared granule
      || may_touch (owner granule) number (asks_store image.program (forgotten_hart live h)))) same_granule
      ∙ ap (λ (stores : Bool). not (asks_memory image.program h) || (shared (granule_of image h)
      || may_touch (owner (granule_of image h)) number stores)) (same_stores image.program live h))
