-- Walks and legal orders.
use Rattle.std.proofs.Common.{◌≡◌, ◌≢◌, ℕ, ◌+◌, ◌-◌, ◌<◌, ◌≤◌, List, [], ◌∷◌, length, map, set, arith, ap, sym, ◌∙◌, refl, inl, inr, ◌⊎◌, subst, cond, nat_lt, length-set}
use Rattle.std.specs.Prelude.{Option, Some, None, Bool, true, false, ◌&&◌, option_and_then, option_map, slice_get}
use Rattle.std.proofs.lemmas.List.{length-map}
use Rattle.std.proofs.lemmas.Bool.{cases_lt, cases_Bool}
use Rattle.std.proofs.lemmas.Bool.Decides.{nat_tests}
use Rattle.std.proofs.lemmas.Option.{none-some, same_Some, cond_some, option_and_then_some, slice_get_past}
use Rattle.cheri_model.specs.declared.operation.Op.{Op}
use Rattle.cheri_model.specs.declared.operation.Op.TheVariants as operation
use Rattle.cheri_model.specs.runs.Image.{ImageParts, opening_hart}
use Rattle.cheri_model.specs.runs.Machine.{MachineState, opening_state, may_take, state_after_one, state_after_step, swept_state, stepped, hart_at}
use Rattle.cheri_model.specs.runs.Replay.{is_legal, state_after, replayed_state}
use Rattle.cheri_model.specs.runs.Sweeps.{swept_hart}
use Rattle.graph_search.specs.Walks.{after, IsWalk, IsReachable}
use Rattle.schedules.specs.declared.ranges.SweepRange.{SweepRange}
use Rattle.schedules.specs.Schedules.{sweep_of, operation_of_label, taken, next, label_count, AreLabelsOf, IsAllowed, AreAllowed}

pub both_true : (a b : Bool) → (a && b) ≡ true → (a ≡ true) × (b ≡ true)
both_true true b e = (refl, e)
both_true false b e = absurd (cc)

true_both : (a b : Bool) → a ≡ true → b ≡ true → (a && b) ≡ true
true_both true b one two = two
true_both false b one two = absurd (cc)

taken_some : (image : ImageParts) (s u : MachineState) (o : Option Op) → taken image s o ≡ Some u →
    (op : Op) × (o ≡ Some op) × (may_take s op ≡ true) × (state_after_one image s op ≡ u)
unfolding taken
taken_some image s u None e = absurd (none-some u e)
taken_some image s u (Some op) e =
    let parts = cond_some (may_take s op) (state_after_one image s op) u e in
    (op, refl, parts.0, parts.1)

some_taken : (image : ImageParts) (s : MachineState) (op : Op) → may_take s op ≡ true →
    taken image s (Some op) ≡ Some (state_after_one image s op)
unfolding taken
some_taken image s op may = rw may

pub next_some : (image : ImageParts) (sweeps : List SweepRange) (s u : MachineState) (l : ℕ) →
    next image sweeps s l ≡ Some u → (op : Op) × (operation_of_label image sweeps l ≡ Some op)
    × (may_take s op ≡ true) × (state_after_one image s op ≡ u)
unfolding next
next_some image sweeps s u l e = taken_some image s u (operation_of_label image sweeps l) e

pub some_next : (image : ImageParts) (sweeps : List SweepRange) (s : MachineState) (l : ℕ) (op : Op) →
    operation_of_label image sweeps l ≡ Some op → may_take s op ≡ true →
    next image sweeps s l ≡ Some (state_after_one image s op)
unfolding next
some_next image sweeps s l op is may = ap (taken image s) is ∙ some_taken image s op may

pub walk_legal : (image : ImageParts) (sweeps : List SweepRange) (s t : MachineState) (ls : List ℕ) →
    IsWalk (next image sweeps) s ls t → (order : List Op) × AreLabelsOf image sweeps ls order
    × (is_legal image s order ≡ true) × (state_after image s order ≡ t)
unfolding is_legal state_after
walk_legal image sweeps s t [] walk = ([], tt, refl, same_Some s t walk)
walk_legal image sweeps s t (l ∷ ls) walk =
    option_and_then_some (λ (u : MachineState). after (next image sweeps) u ls) (next image sweeps s l) t walk
    (λ u goes rest.
    let step = next_some image sweeps s u l goes in
    let tail = walk_legal image sweeps u t ls rest in (
      step.0 ∷ tail.0,
      (step.1, tail.1),
      true_both (may_take s step.0) (is_legal image (state_after_one image s step.0) tail.0) step.2
          (subst (λ (v : MachineState). is_legal image v tail.0 ≡ true) (sym step.3) tail.2),
      subst (λ (v : MachineState). state_after image v tail.0 ≡ t) (sym step.3) tail.3,
    ))

pub legal_walk : (image : ImageParts) (sweeps : List SweepRange) (s : MachineState) (ls : List ℕ) (order : List Op) →
    AreLabelsOf image sweeps ls order → is_legal image s order ≡ true →
    IsWalk (next image sweeps) s ls (state_after image s order)
unfolding is_legal state_after
legal_walk image sweeps s [] [] labels legal = refl
legal_walk image sweeps s [] (op ∷ ops) labels legal = absurd labels
legal_walk image sweeps s (l ∷ ls) [] labels legal = absurd labels
legal_walk image sweeps s (l ∷ ls) (op ∷ ops) labels legal =
    let parts = both_true (may_take s op) (is_legal image (state_after_one image s op) ops) legal in
    ap (λ (o : Option MachineState). option_and_then (λ (u : MachineState). after (next image sweeps) u ls) o)
    (some_next image sweeps s l op labels.0 parts.0)
    ∙ legal_walk image sweeps (state_after_one image s op) ls ops labels.1 parts.1

-- an operation keeps the harts' number
pub same_harts : (image : ImageParts) (s : MachineState) (op : Op) →
    length (state_after_one image s op).harts ≡ length s.harts
unfolding state_after_one state_after_step swept_state
same_harts image s (operation.Step hart) = length-set s.harts hart (stepped image s hart).hart
same_harts image s (operation.Sweep lo hi) = length-map s.harts (swept_hart lo hi)

pub step_hart : (s : MachineState) (hart : ℕ) → may_take s (operation.Step hart) ≡ true → hart < length s.harts
unfolding may_take
step_hart s hart may = grind (arith, nat_tests)

pub label_of_step : (image : ImageParts) (sweeps : List SweepRange) (hart : ℕ) → hart < length image.harts →
    operation_of_label image sweeps hart ≡ Some (operation.Step hart)
unfolding operation_of_label
label_of_step image sweeps hart below = let e : nat_lt hart (length image.harts) ≡ true = grind (arith, nat_tests) in rw e

label_of_sweep : (image : ImageParts) (sweeps : List SweepRange) (k lo hi : ℕ) →
    slice_get sweeps k ≡ Some (record { lo = lo; hi = hi }) →
    operation_of_label image sweeps (length image.harts + k) ≡ Some (operation.Sweep lo hi)
unfolding operation_of_label
label_of_sweep image sweeps k lo hi is =
    let e : nat_lt (length image.harts + k) (length image.harts) ≡ false = grind (arith, nat_tests) in
    let d : length image.harts + k - length image.harts ≡ k = omega arith in
    rw (e, d, is)

label_of : (image : ImageParts) (sweeps : List SweepRange) (s : MachineState) (op : Op) →
    length s.harts ≡ length image.harts → IsAllowed sweeps op → may_take s op ≡ true →
    (l : ℕ) × (operation_of_label image sweeps l ≡ Some op)
label_of image sweeps s (operation.Step hart) same allowed may =
    let below = step_hart s hart may in
    (hart, label_of_step image sweeps hart (omega arith))
label_of image sweeps s (operation.Sweep lo hi) same allowed may =
    (length image.harts + allowed.0, label_of_sweep image sweeps allowed.0 lo hi allowed.1)

pub legal_labels : (image : ImageParts) (sweeps : List SweepRange) (s : MachineState) (order : List Op) →
    length s.harts ≡ length image.harts → AreAllowed sweeps order → is_legal image s order ≡ true →
    (ls : List ℕ) × AreLabelsOf image sweeps ls order
unfolding is_legal
legal_labels image sweeps s [] same allowed legal = ([], tt)
legal_labels image sweeps s (op ∷ ops) same allowed legal =
    let parts = both_true (may_take s op) (is_legal image (state_after_one image s op) ops) legal in
    let first = label_of image sweeps s op same allowed.0 parts.0 in
    let rest = legal_labels image sweeps (state_after_one image s op) ops (same_harts image s op ∙ same) allowed.1
    parts.1 in
    (first.0 ∷ rest.0, (first.1, rest.1))

-- the label of a step is its hart
sweeps_no_step : (o : Option SweepRange) (hart : ℕ) → option_map sweep_of o ≡ Some (operation.Step hart) → ⊥
sweeps_no_step None hart is = none-some (operation.Step hart) is
sweeps_no_step (Some range) hart is =
    let e : operation.Sweep range.lo range.hi ≡ operation.Step hart = same_Some (sweep_of range) (operation.Step hart) is in
    absurd (cc)

pub step_label : (image : ImageParts) (sweeps : List SweepRange) (l hart : ℕ) →
    operation_of_label image sweeps l ≡ Some (operation.Step hart) → (l ≡ hart) × (l < length image.harts)
unfolding operation_of_label
step_label image sweeps l hart is = elim (cases_Bool (nat_lt l (length image.harts))) [
  | inl low ↦
      let e : operation.Step l ≡ operation.Step hart = same_Some (operation.Step l) (operation.Step hart) (rw low at is) in
      let same : l ≡ hart = cc in
      (same, grind (arith, nat_tests))
  | inr high ↦
      absurd (sweeps_no_step (slice_get sweeps (l - length image.harts)) hart (rw high at is))
]

-- an operation with a label is allowed
pub allowed_of : (image : ImageParts) (sweeps : List SweepRange) (l : ℕ) (op : Op) →
    operation_of_label image sweeps l ≡ Some op → IsAllowed sweeps op
unfolding operation_of_label
allowed_of image sweeps l op is = elim (cases_Bool (nat_lt l (length image.harts))) [
  | inl low ↦
      let e : operation.Step l ≡ op = same_Some (operation.Step l) op (rw low at is) in
      subst (λ (o : Op). IsAllowed sweeps o) e tt
  | inr high ↦
      let f : option_map sweep_of (slice_get sweeps (l - length image.harts)) ≡ Some op = rw high at is in
      let split : (o : Option SweepRange) → slice_get sweeps (l - length image.harts) ≡ o →
      option_map sweep_of o ≡ Some op → IsAllowed sweeps op = λ o. elim o as (λ (o : Option SweepRange).
      slice_get sweeps (l - length image.harts) ≡ o → option_map sweep_of o ≡ Some op → IsAllowed sweeps op) [
        | None ↦ λ here none. absurd (none-some op none)
        | Some range ↦ λ here some.
            subst (λ (o : Op). IsAllowed sweeps o) (same_Some (sweep_of range) op some)
            (l - length image.harts, here)
      ] in
      split (slice_get sweeps (l - length image.harts)) refl f
]

allowed_labels : (image : ImageParts) (sweeps : List SweepRange) (ls : List ℕ) (order : List Op) →
    AreLabelsOf image sweeps ls order → AreAllowed sweeps order
allowed_labels image sweeps [] [] labels = tt
allowed_labels image sweeps [] (op ∷ ops) labels = absurd labels
allowed_labels image sweeps (l ∷ ls) [] labels = absurd labels
allowed_labels image sweeps (l ∷ ls) (op ∷ ops) labels =
    (allowed_of image sweeps l op labels.0, allowed_labels image sweeps ls ops labels.1)

opening_harts : (image : ImageParts) → length (opening_state image).harts ≡ length image.harts
unfolding opening_state
opening_harts image = length-map image.harts opening_hart

pub reachable_replayed : (image : ImageParts) (sweeps : List SweepRange) (t : MachineState) →
    IsReachable (next image sweeps) (opening_state image) t → (order : List Op) × AreAllowed sweeps order
    × (is_legal image (opening_state image) order ≡ true) × (replayed_state image order ≡ t)
unfolding replayed_state
reachable_replayed image sweeps t reachable =
    let order = walk_legal image sweeps (opening_state image) t reachable.0 reachable.1 in
    (order.0, allowed_labels image sweeps reachable.0 order.0 order.1, order.2, order.3)

pub replayed_reachable : (image : ImageParts) (sweeps : List SweepRange) (order : List Op) →
    AreAllowed sweeps order → is_legal image (opening_state image) order ≡ true →
    IsReachable (next image sweeps) (opening_state image) (replayed_state image order)
unfolding replayed_state
replayed_reachable image sweeps order allowed legal =
    let labels = legal_labels image sweeps (opening_state image) order (opening_harts image) allowed legal in
    (labels.0, legal_walk image sweeps (opening_state image) labels.0 order labels.1 legal)

pub next_beyond : (image : ImageParts) (sweeps : List SweepRange) (s : MachineState) (l : ℕ) →
    label_count image sweeps ≤ l → next image sweeps s l ≡ None
unfolding next operation_of_label taken
next_beyond image sweeps s l past =
    let e : nat_lt l (length image.harts) ≡ false = grind (arith, nat_tests) in
    let d : slice_get sweeps (l - length image.harts) ≡ None =
    slice_get_past sweeps (l - length image.harts) (omega arith) in
    rw (e, d)
