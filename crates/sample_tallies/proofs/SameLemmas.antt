-- What is found to be the same is the same.
use Rattle.std.proofs.Common.{◌≡◌, ℕ, Bool, true, ◌&&◌, List, [], ◌∷◌, refl, ap, ◌∙◌, eqb-true}
use Rattle.std.specs.Prelude.{◌==◌}
use Rattle.std.proofs.lemmas.Bool.Decides.{nat_tests}
use Rattle.std.proofs.Common.{arith}
use Rattle.std.proofs.lemmas.Bool.{and_parts}
use Rattle.cap_model.specs.values.Capability.{Capability}
use Rattle.cap_model.specs.values.CapValue.{CapValue, valid, raw}
use Rattle.cheri_model.specs.declared.trace.Status.{Status}
use Rattle.cheri_model.specs.declared.trace.Status.TheVariants.{Running, Halted, Trapped}
use Rattle.cheri_model.specs.declared.trace.Trap.{Trap}
use Rattle.cheri_model.specs.steps.Hart.{HartState}
use Rattle.cheri_model.specs.runs.Machine.{MachineState}
use Rattle.sample_tallies.specs.declared.seen.TrapPlace.{TrapPlace}
use Rattle.sample_tallies.specs.SameStates.{same_capability, same_value, same_status, same_lists, same_hart, same_state, same_place}

-- a test that finds the same exactly in what is the same
pub record IsSame {A : Type 0} (same : A → A → Bool) : Type 0 where
  pub reflects : (x y : A) → same x y ≡ true → x ≡ y
  pub itself : (x : A) → same x x ≡ true

numbers : (m n : ℕ) → (m == n) ≡ true → m ≡ n
numbers m n h = eqb-true m n h

both_hold : (a b : Bool) → a ≡ true → b ≡ true → (a && b) ≡ true
both_hold a b p q = ap (λ (x : Bool). x && b) p ∙ q

abbrev capability_with : (base top addr perms flag otype : ℕ) → Capability
capability_with base top addr perms flag otype =
    record { base = base; top = top; addr = addr; perms = perms; flag = flag; otype = otype }

one_capability : (c d : Capability) → same_capability c d ≡ true → c ≡ d
unfolding same_capability
one_capability c d h =
    let base : c.base ≡ d.base = grind (arith, nat_tests) in
    let top : c.top ≡ d.top = grind (arith, nat_tests) in
    let addr : c.addr ≡ d.addr = grind (arith, nat_tests) in
    let perms : c.perms ≡ d.perms = grind (arith, nat_tests) in
    let flag : c.flag ≡ d.flag = grind (arith, nat_tests) in
    let otype : c.otype ≡ d.otype = grind (arith, nat_tests) in
    let made : capability_with c.base c.top c.addr c.perms c.flag c.otype
    ≡ capability_with d.base d.top d.addr d.perms d.flag d.otype = cc in
    made

capability_itself : (c : Capability) → same_capability c c ≡ true
unfolding same_capability
capability_itself c = grind (arith, nat_tests)

one_value : (v w : CapValue) → same_value v w ≡ true → v ≡ w
unfolding same_value
one_value (valid c) (valid d) h = ap valid (one_capability c d h)
one_value (raw word) (raw other) h = ap raw (numbers word other h)
one_value (valid c) (raw word) h = absurd (cc)
one_value (raw word) (valid d) h = absurd (cc)

value_itself : (v : CapValue) → same_value v v ≡ true
unfolding same_value
value_itself (valid c) = capability_itself c
value_itself (raw word) = grind (arith, nat_tests)

abbrev trap_with : (cause reg : ℕ) → Trap
trap_with cause reg = record { cause = cause; reg = reg }

one_trap : (trap other : Trap) → ((trap.cause == other.cause) && (trap.reg == other.reg)) ≡ true → trap ≡ other
one_trap trap other h =
    let p = and_parts (trap.cause == other.cause) (trap.reg == other.reg) h in
    let cause = numbers trap.cause other.cause p.0 in
    let reg = numbers trap.reg other.reg p.1 in
    let made : trap_with trap.cause trap.reg ≡ trap_with other.cause other.reg = cc in
    made

pub one_status : (s t : Status) → same_status s t ≡ true → s ≡ t
unfolding same_status
one_status Running Running h = refl
one_status Halted Halted h = refl
one_status (Trapped trap) (Trapped other) h = ap (λ (t : Trap). Trapped t) (one_trap trap other h)
one_status Running Halted h = absurd (cc)
one_status Running (Trapped other) h = absurd (cc)
one_status Halted Running h = absurd (cc)
one_status Halted (Trapped other) h = absurd (cc)
one_status (Trapped trap) Running h = absurd (cc)
one_status (Trapped trap) Halted h = absurd (cc)

status_itself : (s : Status) → same_status s s ≡ true
unfolding same_status
status_itself Running = refl
status_itself Halted = refl
status_itself (Trapped trap) = grind (arith, nat_tests)

one_list : {A : Type 0} (same : A → A → Bool) → ((x y : A) → same x y ≡ true → x ≡ y) → (xs ys : List A)
    → same_lists same xs ys ≡ true → xs ≡ ys
unfolding same_lists
one_list {A} same one [] [] h = refl
one_list {A} same one [] (y ∷ ys) h = absurd (cc)
one_list {A} same one (x ∷ xs) [] h = absurd (cc)
one_list {A} same one (x ∷ xs) (y ∷ ys) h =
    let p = and_parts (same x y) (same_lists same xs ys) h in
    ap (λ (z : A). z ∷ xs) (one x y p.0) ∙ ap (λ (zs : List A). y ∷ zs) (one_list same one xs ys p.1)

list_itself : {A : Type 0} (same : A → A → Bool) → ((x : A) → same x x ≡ true) → (xs : List A)
    → same_lists same xs xs ≡ true
unfolding same_lists
list_itself {A} same itself [] = refl
list_itself {A} same itself (x ∷ xs) = both_hold (same x x) (same_lists same xs xs) (itself x) (list_itself same itself xs)

abbrev hart_with : List CapValue → CapValue → Status → HartState
hart_with regs pcc status = record { regs = regs; pcc = pcc; status = status }

one_hart : (a b : HartState) → same_hart a b ≡ true → a ≡ b
unfolding same_hart
one_hart a b h =
    let p = and_parts (same_status a.status b.status && same_value a.pcc b.pcc) (same_lists same_value a.regs b.regs) h in
    let q = and_parts (same_status a.status b.status) (same_value a.pcc b.pcc) p.0 in
    let status = one_status a.status b.status q.0 in
    let pcc = one_value a.pcc b.pcc q.1 in
    let regs = one_list same_value one_value a.regs b.regs p.1 in
    let made : hart_with a.regs a.pcc a.status ≡ hart_with b.regs b.pcc b.status = cc in
    made

hart_itself : (a : HartState) → same_hart a a ≡ true
unfolding same_hart
hart_itself a =
    both_hold (same_status a.status a.status && same_value a.pcc a.pcc) (same_lists same_value a.regs a.regs)
    (both_hold (same_status a.status a.status) (same_value a.pcc a.pcc) (status_itself a.status) (value_itself a.pcc))
    (list_itself same_value value_itself a.regs)

abbrev state_with : List HartState → List CapValue → MachineState
state_with harts memory = record { harts = harts; memory = memory }

one_state : (s t : MachineState) → same_state s t ≡ true → s ≡ t
unfolding same_state
one_state s t h =
    let p = and_parts (same_lists same_hart s.harts t.harts) (same_lists same_value s.memory t.memory) h in
    let harts = one_list same_hart one_hart s.harts t.harts p.0 in
    let memory = one_list same_value one_value s.memory t.memory p.1 in
    let made : state_with s.harts s.memory ≡ state_with t.harts t.memory = cc in
    made

state_itself : (s : MachineState) → same_state s s ≡ true
unfolding same_state
state_itself s =
    both_hold (same_lists same_hart s.harts s.harts) (same_lists same_value s.memory s.memory)
    (list_itself same_hart hart_itself s.harts) (list_itself same_value value_itself s.memory)

pub states_same : IsSame same_state
states_same = record { reflects = one_state; itself = state_itself }

abbrev place_with : (hart cause : ℕ) → TrapPlace
place_with hart cause = record { hart = hart; cause = cause }

one_place : (a b : TrapPlace) → same_place a b ≡ true → a ≡ b
one_place a b h =
    let p = and_parts (a.hart == b.hart) (a.cause == b.cause) h in
    let hart = numbers a.hart b.hart p.0 in
    let cause = numbers a.cause b.cause p.1 in
    let made : place_with a.hart a.cause ≡ place_with b.hart b.cause = cc in
    made

pub places_same : IsSame same_place
places_same = record { reflects = one_place; itself = λ a. grind (arith, nat_tests) }
