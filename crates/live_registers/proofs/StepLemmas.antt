-- A step of two harts that differ in registers that don't matter: they end alike, and differ in
-- such registers again.
use Rattle.std.proofs.Common.{◌≡◌, ◌+◌, ◌-◌, ◌*◌, ◌/◌, ◌%◌, ◌^◌, ◌≤◌, ℕ, suc, length, List, refl, sym, ap, ◌∙◌, arith, inl, inr, ◌⊎◌, eqb-true}
use Rattle.std.specs.Prelude.{Bool, true, false, ◌==◌, ◌&&◌, nat_le, if◌then◌else◌, All, Result, Ok, Err, Some, None, slice_index_or}
use Rattle.std.proofs.lemmas.Bool.{cases_lt, cases_Bool, false≢true, eq-eqb, or_left, or_right, and_parts}
use Rattle.std.proofs.lemmas.List.{get_or_past}
use Rattle.std.proofs.lemmas.Option.{slice_get-get_or}
use Rattle.cap_model.specs.values.CapValue.{CapValue, valid, raw, tag_of}
use Rattle.cap_model.specs.results.Addresses.{address_of, with_address}
use Rattle.cap_model.specs.results.Seals.{unsealed}
use Rattle.cheri_model.specs.declared.access.Access.TheVariants as access
use Rattle.cheri_model.specs.declared.instr.Instr.{Instr}
use Rattle.cheri_model.specs.declared.instr.Instr.TheVariants.{Ecall}
use Rattle.cheri_model.specs.declared.trace.Trap.{Trap}
use Rattle.cheri_model.specs.instructions.Form.{form_of}
use Rattle.cheri_model.specs.runs.Machine.{is_running}
use Rattle.cheri_model.specs.steps.Actions.{Action, Put, Load, Store, LoadCap, StoreCap, Swap, Branch, Jump, JumpThrough, Invoke, Halt, action, address_of_target}
use Rattle.cheri_model.specs.steps.Checks.{first_failing, fetch_table, target_table, jump_table, invoke_table, code_base}
use Rattle.cheri_model.specs.steps.Hart.{HartState, register, put, next, next_pcc, link}
use Rattle.cheri_model.specs.steps.HartStep.{Stepped, done, trapped, unless_trapped, access_check, jumped_to, invoked_data, execute, hart_step, instruction_at}
use Rattle.cheri_model.proofs.Runs.Fetches.{IsFetched, fetched_is, from_code}
use Rattle.live_registers.specs.RegisterSets.{has, IsWithin, IsWithinBut}
use Rattle.live_registers.specs.Operands.{reads, writes, way_of, may_lead_to}
use Rattle.live_registers.specs.LiveSets.{LiveSets, set_at, set_of, IsRightBefore, IsRight}
use Rattle.live_registers.proofs.SetLemmas.{AreAlike, alike_within}
use Rattle.live_registers.proofs.WriteLemmas.{put_in, put_is, alike_but_zero, put_alike}
use Rattle.live_registers.proofs.ActionLemmas.{SameThrough, written, leads, writes_is, leads_is, same_action, same_through, puts}

-- ---- what the question looks at matters everywhere

asked_in : (live : LiveSets) → All (IsWithin live.asked) live.sets → (n : ℕ) → IsWithin live.asked (slice_index_or live.sets n live.asked)
asked_in live each n = elim (cases_lt n (length live.sets)) [
  | inl inside ↦ each n live.asked inside
  | inr outside ↦ rw (get_or_past live.sets n live.asked outside) (λ reg held. held)
]

asked_at : (live : LiveSets) → All (IsWithin live.asked) live.sets → (addr : ℕ) → IsWithin live.asked (set_at live addr)
unfolding set_at
asked_at live each addr =
    elim (nat_le code_base addr && (addr % 4 == 0))
    as (λ (there : Bool). IsWithin live.asked (if there then slice_index_or live.sets ((addr - code_base) / 4) live.asked else live.asked)) [
      | true ↦ asked_in live each ((addr - code_base) / 4)
      | false ↦ λ reg held. held
    ]

pub asked_of : (live : LiveSets) → All (IsWithin live.asked) live.sets → (h : HartState) → IsWithin live.asked (set_of live h)
unfolding set_of
asked_of live each h =
    elim (is_running h.status && tag_of h.pcc)
    as (λ (goes : Bool). IsWithin live.asked (if goes then set_at live (address_of h.pcc) else live.asked)) [
      | true ↦ asked_at live each (address_of h.pcc)
      | false ↦ λ reg held. held
    ]

-- what matters to a hart whose PCC has an address if it is tagged
of_within : (live : LiveSets) → All (IsWithin live.asked) live.sets → (h : HartState) (addr : ℕ) →
    (tag_of h.pcc ≡ true → address_of h.pcc ≡ addr) → IsWithin (set_of live h) (set_at live addr)
unfolding set_of
of_within live each h addr there = elim (cases_Bool (tag_of h.pcc)) [
  | inl tagged ↦
      rw (there tagged)
      (elim (is_running h.status && tag_of h.pcc)
      as (λ (goes : Bool). IsWithin (if goes then set_at live addr else live.asked) (set_at live addr)) [
        | true ↦ λ reg held. held
        | false ↦ asked_at live each addr
      ])
  | inr untagged ↦
      rw untagged
      (elim (is_running h.status)
      as (λ (goes : Bool). IsWithin (if goes && false then set_at live (address_of h.pcc) else live.asked) (set_at live addr)) [
        | true ↦ asked_at live each addr
        | false ↦ asked_at live each addr
      ])
]

-- ---- addresses

address_with : (v : CapValue) (a : ℕ) → tag_of (with_address v a) ≡ true → address_of (with_address v a) ≡ a
unfolding with_address address_of
address_with (valid c) a tagged = refl
address_with (raw word) a tagged = absurd (false≢true tagged)

address_next : (pcc : CapValue) (n : ℕ) → (address_of pcc + 4) % 2 ^ 64 ≡ n → tag_of (next_pcc pcc) ≡ true → address_of (next_pcc pcc) ≡ n
unfolding next_pcc
address_next pcc n is tagged = address_with pcc ((address_of pcc + 4) % 2 ^ 64) tagged ∙ is

-- ---- what two steps leave is the same but for registers that don't matter there

pub record IsLike (live : LiveSets) (s t : Stepped) : Type 0 where
  pub regs : List CapValue
  pub same : s ≡ record t { hart = record t.hart { regs = regs } }
  pub alike : AreAlike (set_of live t.hart) regs t.hart.regs

unless_like : (live : LiveSets) (verdict : Result (Unit {0}) Trap) (h : HartState) (xs : List CapValue) (m : List CapValue) (s t : Stepped) →
    AreAlike live.asked xs h.regs → (verdict ≡ Ok tt → IsLike live s t) →
    IsLike live (unless_trapped verdict (record h { regs = xs }) m s) (unless_trapped verdict h m t)
unfolding trapped set_of
unless_like live (Ok u) h xs m s t alike passed = passed refl
unless_like live (Err trap) h xs m s t alike passed = record { regs = xs; same = refl; alike = alike }

module _ (live : LiveSets) (each : All (IsWithin live.asked) live.sets) (h : HartState) where
  -- at a capability, with these registers
  done_like : (xs ys : List CapValue) (pcc : CapValue) (addr : ℕ) (m : List CapValue) →
      (tag_of pcc ≡ true → address_of pcc ≡ addr) → AreAlike (set_at live addr) xs ys →
      IsLike live (done (record h { regs = xs; pcc = pcc }) m) (done (record h { regs = ys; pcc = pcc }) m)
  done_like xs ys pcc addr m there alike = record {
    regs = xs;
    same = refl;
    alike = alike_within (set_of live (record h { regs = ys; pcc = pcc })) (set_at live addr) xs ys
        (of_within live each (record h { regs = ys; pcc = pcc }) addr there) alike;
  }

  next_like : (xs : List CapValue) (cd : ℕ) (v w : CapValue) (n : ℕ) (m : List CapValue) → (address_of h.pcc + 4) % 2 ^ 64 ≡ n →
      AreAlike (set_at live n) (put_in cd v xs) (put_in cd w h.regs) →
      IsLike live (done (next (put cd v (record h { regs = xs }))) m) (done (next (put cd w h)) m)
  unfolding next
  next_like xs cd v w n m is alike =
      rw (put_is cd v h xs, put_is cd w h h.regs)
      (done_like (put_in cd v xs) (put_in cd w h.regs) (next_pcc h.pcc) n m (address_next h.pcc n is) alike)

  jump_like : (xs : List CapValue) (cd : ℕ) (v : CapValue) (pcc : CapValue) (target addr : ℕ) (m : List CapValue) →
      (tag_of (with_address pcc target) ≡ true → address_of (with_address pcc target) ≡ addr) →
      AreAlike (set_at live addr) (put_in cd v xs) (put_in cd v h.regs) →
      IsLike live (done (jumped_to pcc target (put cd v (record h { regs = xs }))) m) (done (jumped_to pcc target (put cd v h)) m)
  jump_like xs cd v pcc target addr m there alike =
      rw (put_is cd v h xs, put_is cd v h h.regs)
      (done_like (put_in cd v xs) (put_in cd v h.regs) (with_address pcc target) addr m there alike)

-- ---- an action

-- what matters behind an action matters before it, but for the register that it writes
abbrev LeadsTo : LiveSets → List Bool → ℕ → Action → Type 0
LeadsTo live set n a =
    (addr : ℕ) → leads a n addr ≡ true → IsWithinBut (set_at live addr) (written a) set

itself : (n : ℕ) → (n == n) ≡ true
itself n = eq-eqb n n refl

module _ (live : LiveSets) (each : All (IsWithin live.asked) live.sets) (h : HartState) (xs : List CapValue) (set : List Bool)
    (alike : AreAlike set xs h.regs) (asks : IsWithin live.asked set) (n : ℕ) (is : (address_of h.pcc + 4) % 2 ^ 64 ≡ n)
    (m : List CapValue) where
  asked_alike : AreAlike live.asked xs h.regs
  asked_alike = alike_within live.asked set xs h.regs asks alike

  -- a value put where it is the same, or where nobody needs it
  pub put_like : (cd : ℕ) (v w : CapValue) → (v ≡ w) ⊎ ((cd ≡ 0) ⊎ (has (set_at live n) cd ≡ false)) → IsWithinBut (set_at live n) cd set →
      (after : List CapValue) →
      IsLike live (done (next (put cd v (record h { regs = xs }))) after) (done (next (put cd w h)) after)
  put_like cd v w either within after =
      next_like live each h xs cd v w n after is (put_alike (set_at live n) set xs h.regs cd v w either within alike)

  -- the same with no register written
  on_like : IsWithinBut (set_at live n) 0 set → (after : List CapValue) →
      IsLike live (done (next (record h { regs = xs })) after) (done (next h) after)
  unfolding next
  on_like within after =
      done_like live each h xs h.regs (next_pcc h.pcc) n after (address_next h.pcc n is)
      (alike_but_zero (set_at live n) set xs h.regs within alike)

  jumps_like : (cd : ℕ) (v pcc : CapValue) (target addr : ℕ) →
      (tag_of (with_address pcc target) ≡ true → address_of (with_address pcc target) ≡ addr) →
      IsWithinBut (set_at live addr) cd set →
      IsLike live (done (jumped_to pcc target (put cd v (record h { regs = xs }))) m) (done (jumped_to pcc target (put cd v h)) m)
  jumps_like cd v pcc target addr there within =
      jump_like live each h xs cd v pcc target addr m there
      (put_alike (set_at live addr) set xs h.regs cd v v (inl refl) within alike)

  halted_like : IsLike live (execute Halt (record h { regs = xs }) m) (execute Halt h m)
  unfolding execute set_of
  halted_like = record { regs = xs; same = refl; alike = asked_alike }

  pub execute_like : (a : Action) → SameThrough (record h { regs = xs }) h a → LeadsTo live set n a →
      IsLike live (execute a (record h { regs = xs }) m) (execute a h m)
  unfolding execute SameThrough leads written
  execute_like (Put cd v) same later = put_like cd v v (inl refl) (later n (itself n)) m
  execute_like (Load cd c1 addr width signed) same later =
      rw same
      (unless_like live (access_check h c1 addr (access.Load width) None m) h xs m _ _ asked_alike
      (λ passed. put_like cd _ _ (inl refl) (later n (itself n)) m))
  execute_like (Store c1 addr width number) same later =
      rw same
      (unless_like live (access_check h c1 addr (access.Store width) None m) h xs m _ _ asked_alike
      (λ passed. on_like (later n (itself n)) _))
  execute_like (LoadCap cd c1 addr) same later =
      rw same
      (unless_like live (access_check h c1 addr access.LoadCap None m) h xs m _ _ asked_alike
      (λ passed. put_like cd _ _ (inl refl) (later n (itself n)) m))
  execute_like (StoreCap c1 addr v) same later =
      rw same
      (unless_like live (access_check h c1 addr access.StoreCap (Some v) m) h xs m _ _ asked_alike
      (λ passed. on_like (later n (itself n)) _))
  execute_like (Swap cd c1 addr v) same later =
      rw same
      (unless_like live (access_check h c1 addr access.Swap (Some v) m) h xs m _ _ asked_alike
      (λ passed. put_like cd _ _ (inl refl) (later n (itself n)) _))
  execute_like (Branch false target) same later =
      on_like (later n (or_left (n == n) (n == target) (itself n))) m
  execute_like (Branch true target) same later =
      unless_like live (first_failing (target_table h.pcc target)) h xs m _ _ asked_alike
      (λ passed. done_like live each h xs h.regs (with_address h.pcc target) target m (address_with h.pcc target)
      (alike_but_zero (set_at live target) set xs h.regs
      (later target (or_right (target == n) (target == target) (itself target))) alike))
  execute_like (Jump cd target) same later =
      unless_like live (first_failing (target_table h.pcc target)) h xs m _ _ asked_alike
      (λ passed. jumps_like cd (link h.pcc) h.pcc target target (address_with h.pcc target)
      (later target (itself target)))
  execute_like (JumpThrough cd c1 is_entry target) same later =
      rw same
      (unless_like live (first_failing (jump_table (register h c1) c1 is_entry target)) h xs m _ _ asked_alike
      (λ passed. jumps_like cd (link h.pcc) (unsealed (register h c1)) target _ (λ tagged. refl)
      (later _ refl)))
  execute_like (Invoke c1 c2 target) same later =
      rw (same.0, same.1)
      (unless_like live (first_failing (invoke_table (register h c1) c1 (register h c2) c2 target)) h xs m _ _ asked_alike
      (λ passed. jumps_like invoked_data (unsealed (register h c2)) (unsealed (register h c1)) target _ (λ tagged. refl)
      (later _ refl)))
  execute_like Halt same later = halted_like

-- ---- a step

-- PCC four bytes on is at the next instruction
next_number : (addr : ℕ) → code_base ≤ addr → (addr % 4 == 0) ≡ true →
    (addr + 4) % 2 ^ 64 ≡ address_of_target (suc ((addr - code_base) / 4))
unfolding address_of_target
next_number addr base aligned =
    let even : addr % 4 ≡ 0 = eqb-true _ _ aligned in
    let same : addr + 4 ≡ code_base + 4 * suc ((addr - code_base) / 4) = omega arith in
    ap (λ (n : ℕ). n % 2 ^ 64) same

-- what matters to a hart that runs at an instruction
set_here : (live : LiveSets) (h : HartState) → is_running h.status ≡ true → tag_of h.pcc ≡ true →
    nat_le code_base (address_of h.pcc) ≡ true → (address_of h.pcc % 4 == 0) ≡ true →
    set_of live h ≡ slice_index_or live.sets ((address_of h.pcc - code_base) / 4) live.asked
unfolding set_of set_at
set_here live h running tagged base aligned = rw (running, tagged, base, aligned) refl

put_leads : (a : Action) (cd : ℕ) (v : CapValue) (n : ℕ) → a ≡ Put cd v → leads a n n ≡ true
unfolding leads
put_leads a cd v n is = rw is (itself n)

module _ (program : List Instr) (live : LiveSets) (right : IsRight program live) (h : HartState) (xs : List CapValue) (m : List CapValue) where
  abbrev Fetched : Instr → Type 0
  Fetched i = IsLike live (execute (action i (record h { regs = xs })) (record h { regs = xs }) m) (execute (action i h) h m)

  -- a value that nobody needs
  puts_like : (set : List Bool) (n : ℕ) → AreAlike set xs h.regs → IsWithin live.asked set → (address_of h.pcc + 4) % 2 ^ 64 ≡ n →
      (a b : Action) (cd : ℕ) (v w : CapValue) → a ≡ Put cd v → b ≡ Put cd w →
      (cd ≡ 0) ⊎ (has (set_at live n) cd ≡ false) → IsWithinBut (set_at live n) cd set →
      IsLike live (execute a (record h { regs = xs }) m) (execute b h m)
  unfolding execute
  puts_like set n alike asks is a b cd v w put_v put_w unneeded within =
      rw (put_v, put_w) (put_like live right.asked h xs set alike asks n is m cd v w (inr unneeded) within m)

  by_reading : (i : Instr) (set : List Bool) (number : ℕ) → AreAlike set xs h.regs → IsWithin live.asked set →
      (address_of h.pcc + 4) % 2 ^ 64 ≡ address_of_target (suc number) → IsRightBefore live number (form_of i) set → Fetched i
  unfolding register
  by_reading i set number alike asks is before =
      let later : LeadsTo live set (address_of_target (suc number)) (action i h) =
      λ addr leads_there. rw (writes_is i h) (before.later addr (sym (leads_is i h number addr) ∙ leads_there)) in
      elim before.read [
        | inr read ↦
            let one : register (record h { regs = xs }) (reads (form_of i)).0 ≡ register h (reads (form_of i)).0 = alike.same _ read.0 in
            let two : register (record h { regs = xs }) (reads (form_of i)).1 ≡ register h (reads (form_of i)).1 = alike.same _ read.1 in
            rw (same_action i (record h { regs = xs }) h refl one two)
            (execute_like live right.asked h xs set alike asks (address_of_target (suc number)) is m (action i h)
            (same_through i (record h { regs = xs }) h one two) later)
        | inl alone ↦
            let w = writes (form_of i) in
            let there = address_of_target (suc number) in
            let puts_h = puts i h alone.0 in
            let next_one : may_lead_to (way_of (form_of i)) number there ≡ true =
            sym (leads_is i h number there) ∙ put_leads (action i h) w _ there puts_h in
            puts_like set there alike asks is (action i (record h { regs = xs })) (action i h) w _ _
            (puts i (record h { regs = xs }) alone.0) puts_h (alone.1 there next_one)
            (before.later there next_one)
      ]

  at_instruction : is_running h.status ≡ true → AreAlike (set_of live h) xs h.regs →
      IsFetched h.pcc (length program) → Fetched (instruction_at program (address_of h.pcc))
  unfolding instruction_at
  at_instruction running alike is =
      let addr = address_of h.pcc in
      let number = (addr - code_base) / 4 in
      let place = from_code (length program) addr is.placed in
      let base : nat_le code_base addr ≡ true = (and_parts (nat_le code_base addr) _ is.placed).0 in
      let here : set_of live h ≡ slice_index_or live.sets number live.asked =
      set_here live h running is.tagged base is.aligned in
      by_reading (slice_index_or program number Ecall) (slice_index_or live.sets number live.asked) number
      (rw here at alike) (asked_in live right.asked number) (next_number addr place.0 is.aligned)
      (right.before number (slice_index_or program number Ecall) (slice_get-get_or program number Ecall place.1))

  pub step_like : is_running h.status ≡ true → AreAlike (set_of live h) xs h.regs →
      IsLike live (hart_step program (record h { regs = xs }) m) (hart_step program h m)
  unfolding hart_step
  step_like running alike =
      unless_like live (first_failing (fetch_table h.pcc (length program))) h xs m _ _
      (alike_within live.asked (set_of live h) xs h.regs (asked_of live right.asked h) alike)
      (λ passed. at_instruction running alike (fetched_is h.pcc (length program) passed))
