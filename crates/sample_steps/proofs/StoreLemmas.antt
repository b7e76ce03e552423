-- A step changes at most the granule that its hart stores in.
use Rattle.std.proofs.Common.{◌≡◌, ℕ, ◌+◌, ◌*◌, ◌<◌, ◌≤◌, eqb, zero, suc, Bool, true, false, ◌&&◌, List, [], ◌∷◌, length, set, Option, Some, None, Result, Ok, Err, refl, sym, ap, ◌∙◌, subst, arith}
use Rattle.std.proofs.lemmas.Bool.{and_parts}
use Rattle.std.proofs.lemmas.Bool.Decides.{nat_tests}
use Rattle.std.proofs.lemmas.List.{set-get_or, set-set, get_or-set_same}
use Rattle.cap_model.specs.values.CapValue.{CapValue, raw, bits_of, tag_of, value_at, IsLawfulValue}
use Rattle.cap_model.specs.results.Addresses.{address_of}
use Rattle.cap_model.proofs.Results.Values.{value_back}
use Rattle.cheri_model.specs.declared.instr.Instr.{Instr}
use Rattle.cheri_model.specs.declared.memory.TheConstants.{RAM_BASE}
use Rattle.cheri_model.specs.declared.trace.Trap.{Trap}
use Rattle.cheri_model.specs.steps.Actions.{Action, Put, Load, Store, LoadCap, StoreCap, Swap, Branch, Jump, JumpThrough, Invoke, Halt, action}
use Rattle.cheri_model.specs.steps.Checks.{first_failing, fetch_table}
use Rattle.cheri_model.specs.steps.Hart.{HartState}
use Rattle.cheri_model.specs.steps.HartStep.{Stepped, execute, hart_step, unless_trapped, trapped, instruction_at}
use Rattle.cheri_model.specs.steps.Memory.{granule_at, granule_number, store_data, store_capability}
use Rattle.sample_draws.specs.Cycles.{same_test, same_value, same_values}
use Rattle.sample_draws.specs.Orders.{is_changed}
use Rattle.sample_steps.specs.Writes.{stored_at, store_address}

-- a memory after a step that stores at this address, or at none
pub Leaves : Option ℕ → List CapValue → List CapValue → Type 0
Leaves None m after = after ≡ m
Leaves (Some addr) m after = (v : CapValue) × (after ≡ set m (granule_number addr) v)

granule_stays : (m : List CapValue) (k : ℕ) → set m k (granule_at m k) ≡ m
unfolding granule_at
granule_stays m k = set-get_or m k (raw 0)

nothing_left : (o : Option ℕ) (m : List CapValue) → Leaves o m m
unfolding Leaves
nothing_left None m = refl
nothing_left (Some addr) m = (granule_at m (granule_number addr), sym (granule_stays m (granule_number addr)))

after_check : (c : Result (Unit {0}) Trap) (h : HartState) (m : List CapValue) (o : Option ℕ) (a : Stepped)
    → Leaves o m a.memory → Leaves o m (unless_trapped c h m a).memory
unfolding trapped
after_check (Ok u) h m o a leaves = leaves
after_check (Err trap) h m o a leaves = nothing_left o m

leaves_execute : (act : Action) (h : HartState) (m : List CapValue) → Leaves (stored_at act) m (execute act h m).memory
unfolding execute store_data store_capability Leaves
leaves_execute (Put cd v) h m = refl
leaves_execute (Load cd c1 addr width signed) h m = after_check _ h m None _ refl
leaves_execute (Store c1 addr width number) h m = after_check _ h m (Some addr) _ (_, refl)
leaves_execute (LoadCap cd c1 addr) h m = after_check _ h m None _ refl
leaves_execute (StoreCap c1 addr v) h m = after_check _ h m (Some addr) _ (v, refl)
leaves_execute (Swap cd c1 addr v) h m = after_check _ h m (Some addr) _ (v, refl)
leaves_execute (Branch false target) h m = refl
leaves_execute (Branch true target) h m = after_check _ h m None _ refl
leaves_execute (Jump cd target) h m = after_check _ h m None _ refl
leaves_execute (JumpThrough cd c1 is_entry target) h m = after_check _ h m None _ refl
leaves_execute (Invoke c1 c2 target) h m = after_check _ h m None _ refl
leaves_execute Halt h m = refl

pub leaves_step : (program : List Instr) (h : HartState) (m : List CapValue)
    → Leaves (store_address program h) m (hart_step program h m).memory
unfolding hart_step store_address
leaves_step program h m =
    let act = action (instruction_at program (address_of h.pcc)) h in
    after_check (first_failing (fetch_table h.pcc (length program))) h m (stored_at act)
    (execute act h m) (leaves_execute act h m)

-- what a step leaves that stores at no address
pub stays_at : (program : List Instr) (h : HartState) (m : List CapValue) (o : Option ℕ) → o ≡ store_address program h
    → o ≡ None → (hart_step program h m).memory ≡ m
unfolding Leaves
stays_at program h m o is none =
    let P : Option ℕ → Type 0 = λ o. Leaves o m (hart_step program h m).memory in
    subst P (sym is ∙ none) (leaves_step program h m)

-- and at some address: past memory nothing
pub one_at : (program : List Instr) (h : HartState) (m : List CapValue) (addr : ℕ) → Some addr ≡ store_address program h
    → (v : CapValue) × ((hart_step program h m).memory ≡ set m (granule_number addr) v)
unfolding Leaves
one_at program h m addr is =
    let P : Option ℕ → Type 0 = λ o. Leaves o m (hart_step program h m).memory in
    subst P (sym is) (leaves_step program h m)

set_past : (m : List CapValue) (k : ℕ) (v : CapValue) → length m ≤ k → set m k v ≡ m
set_past [] k v h = refl
set_past (x ∷ xs) zero v h = absurd (omega arith)
set_past (x ∷ xs) (suc k) v h = ap (λ r. x ∷ r) (set_past xs k v (omega arith))

pub stays_past : (program : List Instr) (h : HartState) (m : List CapValue) (addr : ℕ) → Some addr ≡ store_address program h
    → length m ≤ granule_number addr → (hart_step program h m).memory ≡ m
stays_past program h m addr is past =
    let one = one_at program h m addr is in
    one.1 ∙ set_past m (granule_number addr) one.0 past

-- Lists of values and what is_changed says of them
same_test_itself : (b : Bool) → same_test b b ≡ true
same_test_itself true = refl
same_test_itself false = refl

same_value_itself : (v : CapValue) → same_value v v ≡ true
unfolding same_value
same_value_itself v = grind (arith, same_test_itself (tag_of v))

pub same_values_itself : (vs : List CapValue) → same_values vs vs ≡ true
unfolding same_values
same_values_itself [] = refl
same_values_itself (v ∷ vs) = rw (same_value_itself v) (same_values_itself vs)

and_true : (b : Bool) → (b && true) ≡ b
and_true true = refl
and_true false = refl

same_values_set : (vs : List CapValue) (k : ℕ) (w : CapValue) → k < length vs
    → same_values vs (set vs k w) ≡ same_value (granule_at vs k) w
unfolding same_values granule_at
same_values_set [] k w h = absurd (omega arith)
same_values_set (v ∷ vs) zero w h = rw (same_values_itself vs) (and_true (same_value v w))
same_values_set (v ∷ vs) (suc k) w h = rw (same_value_itself v) (same_values_set vs k w (omega arith))

pub not_changed : (before after : List CapValue) → after ≡ before → is_changed before after ≡ false
unfolding is_changed
not_changed before after same = rw same (rw (same_values_itself before) refl)

-- values with the same tag and bits are one
same_test_is : (a b : Bool) → same_test a b ≡ true → a ≡ b
same_test_is true true is = refl
same_test_is true false is = sym is
same_test_is false true is = is
same_test_is false false is = refl

same_number_is : (a b : ℕ) → eqb a b ≡ true → a ≡ b
same_number_is a b is = grind (arith, nat_tests)

pub same_value_is : (v w : CapValue) → IsLawfulValue v → IsLawfulValue w → same_value v w ≡ true → v ≡ w
unfolding same_value
same_value_is v w lawful also is =
    let parts = and_parts (same_test (tag_of v) (tag_of w)) (eqb (bits_of v) (bits_of w)) is in
    let tags : tag_of v ≡ tag_of w = same_test_is (tag_of v) (tag_of w) parts.0 in
    let bits : bits_of v ≡ bits_of w = same_number_is (bits_of v) (bits_of w) parts.1 in
    sym (value_back v lawful) ∙ ap (λ t. value_at t (bits_of v)) tags ∙ ap (λ b. value_at (tag_of w) b) bits
    ∙ value_back w also

granule_put : (m : List CapValue) (k : ℕ) (v : CapValue) → k < length m → granule_at (set m k v) k ≡ v
unfolding granule_at
granule_put m k v h = get_or-set_same m k v (raw 0) h

-- a step that leaves this granule's value leaves memory
pub unchanged : (m after : List CapValue) (k : ℕ) (v old now : CapValue) → k < length m → after ≡ set m k v
    → old ≡ granule_at m k → now ≡ granule_at after k → IsLawfulValue old → IsLawfulValue now
    → same_value old now ≡ true → after ≡ m
unchanged m after k v old now h is was has lawful also same =
    let now_v : now ≡ v = has ∙ ap (λ s. granule_at s k) is ∙ granule_put m k v h in
    let v_was : v ≡ granule_at m k = sym now_v ∙ sym (same_value_is old now lawful also same) ∙ was in
    is ∙ ap (λ w. set m k w) v_was ∙ granule_stays m k

-- and one that doesn't has changed memory; the old value undoes it
pub changed : (m after : List CapValue) (k : ℕ) (v old now : CapValue) → k < length m → after ≡ set m k v
    → old ≡ granule_at m k → now ≡ granule_at after k → same_value old now ≡ false → is_changed m after ≡ true
unfolding is_changed
changed m after k v old now h is was has apart =
    let now_v : now ≡ v = has ∙ ap (λ s. granule_at s k) is ∙ granule_put m k v h in
    let e : same_values m after ≡ false =
    ap (λ s. same_values m s) is ∙ same_values_set m k v h
    ∙ ap (λ w. same_value w v) (sym was) ∙ ap (λ w. same_value old w) (sym now_v) ∙ apart in
    rw e refl

pub undone : (m after : List CapValue) (k : ℕ) (v old : CapValue) → after ≡ set m k v
    → old ≡ granule_at m k → set after k old ≡ m
undone m after k v old is was =
    ap (λ s. set s k old) is ∙ set-set m k v old ∙ ap (λ w. set m k w) was ∙ granule_stays m k

pub put_at : (m after : List CapValue) (addr k : ℕ) (v : CapValue) → after ≡ store_capability m addr v
    → addr ≡ RAM_BASE + 16 * k → after ≡ set m k v
unfolding store_capability
put_at m after addr k v is at =
    let e : granule_number addr ≡ k = omega arith in
    is ∙ ap (λ j. set m j v) e
