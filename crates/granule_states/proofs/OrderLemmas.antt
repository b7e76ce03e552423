-- Turns with each of their steps.
use Rattle.std.proofs.Common.{◌≡◌, ℕ, zero, suc, ◌+◌, ◌<◌, ◌≤◌, List, [], ◌∷◌, ◌++◌, length, drop, reverse, arith, ap, sym, ◌∙◌, refl, subst, inl, inr, nat_lt}
use Rattle.std.specs.Prelude.{Bool, true, false, Option, Some, None, replicate, slice_get, slice_index_or, unwrap_or}
use Rattle.std.proofs.lemmas.Bool.{cases_Bool, cases_lt, lt-ltb}
use Rattle.std.proofs.lemmas.List.{append_assoc, append-nil, drop_more, map-append, reverse-reverse}
use Rattle.std.proofs.lemmas.Option.{none-some, option_and_then_some, same_Some}
use Rattle.cheri_model.specs.declared.operation.Op.{Op}
use Rattle.cheri_model.specs.declared.operation.Op.TheVariants as operation
use Rattle.cheri_model.specs.runs.Image.{ImageParts}
use Rattle.cheri_model.specs.runs.Machine.{MachineState, opening_state, state_after_step}
use Rattle.cheri_model.specs.runs.Replay.{replayed_state}
use Rattle.explore_sights.specs.declared.sights.Sight.{Sight}
use Rattle.explore_sights.specs.Sights.{hides}
use Rattle.explore_turns.specs.declared.quiet.TheConstants.{MAX_QUIET_STEPS}
use Rattle.graph_search.specs.Graphs.{LeadsTo}
use Rattle.graph_search.specs.Trees.{Found, IsTrace, edge_at, state_at}
use Rattle.graph_search.specs.Walks.{IsWalk, IsWitness, after}
use Rattle.own_granules.specs.Granules.{is_quiet}
use Rattle.own_granules.specs.Orders.{after_labels, rest_labels, turn_labels, way_labels}
use Rattle.own_granules.specs.Rests.{rest_after, rest_first, rest_one}
use Rattle.own_granules.specs.Turns.{order_of_turns, start, turn}
use Rattle.own_granules.proofs.HeldLemmas.{order_leads}
use Rattle.schedules.proofs.WalkLemmas.{walk_legal}
use Rattle.schedules.specs.Schedules.{AreAllowed, AreLabelsOf, next, operation_of_label}
use Rattle.state_store.proofs.NumberedLemmas.{map_some, some_of}
use Rattle.granule_states.specs.Graphs.{GranuleParts, Learns, is_shared, quiet_in, start_in, state_in, step_in, turn_in}
use Rattle.granule_states.specs.Orders.{IsOrderTo, order_in, rests_in, stepped_in, steps_of, turns_in, way_in, ways_in}
use Rattle.granule_states.specs.Owned.{IsOwned}
use Rattle.granule_states.proofs.OwnedLemmas.{AreAlike, alike_learned, alike_to}
use Rattle.granule_states.proofs.PlacedLemmas.{none_past}
use Rattle.granule_states.proofs.TurnLemmas.{quiet_kept, state_learned, steps_kept, turn_of_hart, turns_kept}

-- ---- steps of lists of harts

pub steps_append : (xs ys : List ℕ) → steps_of (xs ++ ys) ≡ steps_of xs ++ steps_of ys
steps_append xs ys = map-append operation.Step xs ys

pub steps_replicate : (n l : ℕ) → replicate n (operation.Step l) ≡ steps_of (replicate n l)
steps_replicate zero l = refl
steps_replicate (suc n) l = ap (λ (os : List Op). operation.Step l ∷ os) (steps_replicate n l)

-- steps were appended to an order, and then more
pub more_steps : (before order more : List Op) (xs ys : List ℕ) → order ≡ before ++ steps_of xs → more ≡ order ++ steps_of ys →
    more ≡ before ++ steps_of (xs ++ ys)
more_steps before order more xs ys one two =
    two
    ∙ (ap (λ (os : List Op). os ++ steps_of ys) one
    ∙ (append_assoc before (steps_of xs) (steps_of ys) ∙ ap (λ (os : List Op). before ++ os) (sym (steps_append xs ys))))

-- ---- in a graph that learned more

pub way_kept : (g h : GranuleParts) → Learns g h → (l : ℕ) (s : MachineState) → way_in h l s ≡ way_in g l s
way_kept g h learns l s =
    ap (λ (f : MachineState → ℕ → MachineState). way_labels f (quiet_in h) MAX_QUIET_STEPS l s) (steps_kept g h learns)
    ∙ ap (λ (f : MachineState → ℕ → Bool). way_labels (step_in g) f MAX_QUIET_STEPS l s) (quiet_kept g h learns)

pub rest_kept : (g h : GranuleParts) → Learns g h → (l : ℕ) (s : MachineState) →
    rest_one (step_in h) (quiet_in h) MAX_QUIET_STEPS l s ≡ rest_one (step_in g) (quiet_in g) MAX_QUIET_STEPS l s
rest_kept g h learns l s =
    ap (λ (f : MachineState → ℕ → MachineState). rest_one f (quiet_in h) MAX_QUIET_STEPS l s) (steps_kept g h learns)
    ∙ ap (λ (f : MachineState → ℕ → Bool). rest_one (step_in g) f MAX_QUIET_STEPS l s) (quiet_kept g h learns)

pub stepped_kept : (g h : GranuleParts) → Learns g h → (s : MachineState) (l : ℕ) → stepped_in h s l ≡ stepped_in g s l
stepped_kept g h learns s l = ap (λ (i : ImageParts). unwrap_or (next i [] s l) s) learns.graph.image

pub turn_rest_kept : (g h : GranuleParts) → Learns g h → (l : ℕ) (s : MachineState) →
    rest_one (step_in h) (quiet_in h) MAX_QUIET_STEPS l (stepped_in h s l)
    ≡ rest_one (step_in g) (quiet_in g) MAX_QUIET_STEPS l (stepped_in g s l)
turn_rest_kept g h learns l s =
    rest_kept g h learns l (stepped_in h s l)
    ∙ ap (rest_one (step_in g) (quiet_in g) MAX_QUIET_STEPS l) (stepped_kept g h learns s l)

pub turn_told : (g h : GranuleParts) → Learns g h → (order more : List Op) (l : ℕ) (s : MachineState) →
    more ≡ order ++ steps_of (l ∷ way_in h l (stepped_in h s l)) → more ≡ order ++ steps_of (l ∷ way_in g l (stepped_in g s l))
turn_told g h learns order more l s is =
    is
    ∙ ap (λ (ls : List ℕ). order ++ steps_of (l ∷ ls))
    (way_kept g h learns l (stepped_in h s l) ∙ ap (way_in g l) (stepped_kept g h learns s l))

-- ---- the quiet steps with which an order begins

pub ways_none : (g : GranuleParts) (before : List Op) (s : MachineState) → before ≡ before ++ steps_of (ways_in g 0 s)
unfolding rest_labels
ways_none g before s = sym (append-nil before)

pub ways_told : (g h : GranuleParts) → Learns g h → (before order more : List Op) (hart : ℕ) (s : MachineState) →
    order ≡ before ++ steps_of (ways_in g hart s) →
    more ≡ order ++ steps_of (way_in h hart (rest_first (step_in g) (quiet_in g) MAX_QUIET_STEPS hart s)) →
    more ≡ before ++ steps_of (ways_in g (hart + 1) s)
unfolding rest_labels
ways_told g h learns before order more hart s was goes =
    let here = rest_first (step_in g) (quiet_in g) MAX_QUIET_STEPS hart s in
    let on : suc hart ≡ hart + 1 = omega arith in
    more_steps before order more (ways_in g hart s) (way_in g hart here) was
    (goes ∙ ap (λ (ls : List ℕ). order ++ steps_of ls) (way_kept g h learns hart here))
    ∙ ap (λ (n : ℕ). before ++ steps_of (ways_in g n s)) on

-- ---- a turn

-- a row after a step, and where there was none
pub step_went : (g : GranuleParts) (meaning : List ℕ → Option MachineState) (to : List ℕ) (leads : Bool) (s : MachineState) (l : ℕ) →
    leads ≡ true → LeadsTo meaning leads to (next g.graph.image [] s l) → meaning to ≡ Some (stepped_in g s l)
step_went g meaning to leads s l holds leading =
    let end = next g.graph.image [] s l in
    let there : LeadsTo meaning true to end = subst (λ (b : Bool). LeadsTo meaning b to end) holds leading in
    let t = some_of end there.0 in
    there.1 ∙ (t.1 ∙ ap (λ (x : MachineState). Some x) (sym (ap (λ (o : Option MachineState). unwrap_or o s) t.1)))

pub step_stays : (g h : GranuleParts) → Learns g h → (meaning : List ℕ → Option MachineState) (row to : List ℕ) (leads : Bool)
    (s : MachineState) (l : ℕ) → state_in g row ≡ Some s → leads ≡ false →
    LeadsTo meaning leads to (next g.graph.image [] s l) → state_in h row ≡ Some (stepped_in g s l)
step_stays g h learns meaning row to leads s l is fails leading =
    let end = next g.graph.image [] s l in
    let none : end ≡ None = subst (λ (b : Bool). LeadsTo meaning b to end) fails leading in
    state_learned g h learns row s is
    ∙ ap (λ (x : MachineState). Some x) (sym (ap (λ (o : Option MachineState). unwrap_or o s) none))

-- its step was appended, and then its quiet steps, in a graph that learned more
pub turn_appended : (g h : GranuleParts) → Learns g h → (before order more : List Op) (l : ℕ) (t : MachineState) →
    order ≡ before ++ (operation.Step l ∷ []) → more ≡ order ++ steps_of (way_in h l t) →
    more ≡ before ++ steps_of (l ∷ way_in g l t)
turn_appended g h learns before order more l t one rest =
    more_steps before order more (l ∷ []) (way_in g l t) one
    (rest ∙ ap (λ (ls : List ℕ). order ++ steps_of ls) (way_kept g h learns l t))

-- what a turn's step leads to, where it leads anywhere
pub turn_is : (g : GranuleParts) (s t : MachineState) (l : ℕ) → l < length g.graph.image.harts → turn_in g s l ≡ Some t →
    rest_one (step_in g) (quiet_in g) MAX_QUIET_STEPS l (stepped_in g s l) ≡ t
turn_is g s t l low goes =
    let n = length g.graph.image.harts in
    let there = map_some (rest_after (step_in g) (quiet_in g) MAX_QUIET_STEPS n l) (next g.graph.image [] s l) t goes in
    let rest = rest_one (step_in g) (quiet_in g) MAX_QUIET_STEPS l in
    ap (λ (o : Option MachineState). rest (unwrap_or o s)) there.1
    ∙ same_Some (rest there.0) t (sym (turn_of_hart g s there.0 l low there.1) ∙ goes)

turns_on : (g : GranuleParts) (s : MachineState) (l : ℕ) (ls : List ℕ) → l < length g.graph.image.harts →
    turns_in g s (l ∷ ls)
    ≡ (l ∷ way_in g l (stepped_in g s l))
    ++ turns_in g (rest_one (step_in g) (quiet_in g) MAX_QUIET_STEPS l (stepped_in g s l)) ls
unfolding turn_labels after_labels rest_after
turns_on g s l ls low =
    let below : nat_lt l (length g.graph.image.harts) ≡ true = lt-ltb l (length g.graph.image.harts) low in
    rw below refl

-- after so many turns the order has their steps, and the other turns begin here
pub record IsWalked (g : GranuleParts) (s : MachineState) (harts : List ℕ) (i : ℕ) (before order : List Op)
    (here : MachineState) : Type 0 where
  pub steps : order ++ steps_of (turns_in g here (drop i harts)) ≡ before ++ steps_of (turns_in g s harts)
  pub leads : (t : MachineState) → IsWalk (turn_in g) s harts t → IsWalk (turn_in g) here (drop i harts) t

pub walked_none : (g : GranuleParts) (s : MachineState) (harts : List ℕ) (before : List Op) → IsWalked g s harts 0 before before s
walked_none g s harts before = record { steps = refl; leads = λ t walk. walk }

pub walked_more : (g : GranuleParts) (s : MachineState) (harts : List ℕ) (i : ℕ) (before order more : List Op) (here : MachineState)
    (l : ℕ) → IsWalked g s harts i before order here → i < length harts → l ≡ slice_index_or harts i 0 →
    l < length g.graph.image.harts → more ≡ order ++ steps_of (l ∷ way_in g l (stepped_in g here l)) →
    IsWalked g s harts (i + 1) before more (rest_one (step_in g) (quiet_in g) MAX_QUIET_STEPS l (stepped_in g here l))
walked_more g s harts i before order more here l was within is low appended =
    let left = drop (i + 1) harts in
    let there = rest_one (step_in g) (quiet_in g) MAX_QUIET_STEPS l (stepped_in g here l) in
    let split : drop i harts ≡ l ∷ left = drop_more harts i 0 within ∙ ap (λ (m : ℕ). m ∷ left) (sym is) in
    let one = l ∷ way_in g l (stepped_in g here l) in
    record {
      steps = more_steps order more (more ++ steps_of (turns_in g there left)) one (turns_in g there left) appended refl
          ∙ (ap (λ (ls : List ℕ). order ++ steps_of ls)
          (sym (ap (turns_in g here) split ∙ turns_on g here l left low)) ∙ was.steps);
      leads = λ t walk.
          let on : IsWalk (turn_in g) here (l ∷ left) t =
          subst (λ (ls : List ℕ). IsWalk (turn_in g) here ls t) split (was.leads t walk) in
          option_and_then_some (λ (x : MachineState). after (turn_in g) x left) (turn_in g here l) t on
          (λ x goes rest. subst (λ (y : MachineState). IsWalk (turn_in g) y left t) (sym (turn_is g here x l low goes)) rest);
    }

drop_past : {A : Type 0} (xs : List A) (i : ℕ) → length xs ≤ i → drop i xs ≡ []
drop_past [] zero past = refl
drop_past [] (suc i) past = refl
drop_past (x ∷ xs) zero past = absurd (omega arith)
drop_past (x ∷ xs) (suc i) past = drop_past xs i (omega arith)

pub walked_all : (g : GranuleParts) (s : MachineState) (harts : List ℕ) (i : ℕ) (before order : List Op) (here : MachineState) →
    IsWalked g s harts i before order here → length harts ≤ i →
    (order ≡ before ++ steps_of (turns_in g s harts)) × ((t : MachineState) → IsWalk (turn_in g) s harts t → here ≡ t)
unfolding turn_labels
walked_all g s harts i before order here was past =
    let none = drop_past harts i past in (
      sym (append-nil order) ∙ (ap (λ (ls : List ℕ). order ++ steps_of (turns_in g here ls)) (sym none) ∙ was.steps),
      λ t walk. same_Some here t (subst (λ (ls : List ℕ). IsWalk (turn_in g) here ls t) none (was.leads t walk)),
    )

-- ---- whole orders, in a graph that learned more

turns_in_kept : (g h : GranuleParts) → Learns g h → (s : MachineState) (ls : List ℕ) → turns_in h s ls ≡ turns_in g s ls
turns_in_kept g h learns s ls =
    alike_to (λ (i : ImageParts) (x : Sight) (bs : List Bool). turn_labels (next i []) (state_after_step i)
    (is_quiet i [] (is_shared bs) (hides x)) MAX_QUIET_STEPS (length i.harts) s ls) g h (alike_learned g h learns)

pub walks_kept : (g h : GranuleParts) → Learns g h → (s t : MachineState) (ls : List ℕ) → IsWalk (turn_in g) s ls t →
    IsWalk (turn_in h) s ls t
walks_kept g h learns s t ls walk =
    subst (λ (f : MachineState → ℕ → Option MachineState). IsWalk f s ls t) (sym (turns_kept g h learns)) walk

pub turns_learned : (g h : GranuleParts) → Learns g h → (order : List Op) (s : MachineState) (ls : List ℕ) →
    order ≡ [] ++ steps_of (turns_in h s ls) → order ≡ steps_of (turns_in g s ls)
turns_learned g h learns order s ls is = is ∙ ap (λ (ms : List ℕ). steps_of ms) (turns_in_kept g h learns s ls)

pub begun_steps : (g h : GranuleParts) → Learns g h → (order more : List Op) (s : MachineState) (ls : List ℕ) →
    order ≡ [] ++ steps_of (ways_in g (length g.graph.image.harts) s) →
    more ≡ order ++ steps_of (turns_in h (rests_in g s) ls) →
    more ≡ steps_of (ways_in g (length g.graph.image.harts) s ++ turns_in g (rests_in g s) ls)
begun_steps g h learns order more s ls one two =
    more_steps [] order more (ways_in g (length g.graph.image.harts) s) (turns_in g (rests_in g s) ls) one
    (two ∙ ap (λ (ms : List ℕ). order ++ steps_of ms) (turns_in_kept g h learns (rests_in g s) ls))

-- ---- labels that are harts

pub walk_low : (g : GranuleParts) (s t : MachineState) (ls : List ℕ) → IsWalk (turn_in g) s ls t →
    (i l : ℕ) → slice_get ls i ≡ Some l → l < length g.graph.image.harts
walk_low g s t [] walk i l at = absurd (none-some l at)
walk_low g s t (m ∷ ls) walk zero l at =
    option_and_then_some (λ (x : MachineState). after (turn_in g) x ls) (turn_in g s m) t walk
    (λ x goes rest. elim (cases_lt m (length g.graph.image.harts)) [
      | inl low ↦ subst (λ (n : ℕ). n < length g.graph.image.harts) (same_Some m l at) low
      | inr past ↦ absurd (none-some x (sym (none_past g s m past) ∙ goes))
    ])
walk_low g s t (m ∷ ls) walk (suc j) l at =
    option_and_then_some (λ (x : MachineState). after (turn_in g) x ls) (turn_in g s m) t walk
    (λ x goes rest. walk_low g x t ls rest j l at)

pub label_is : (image : ImageParts) (l : ℕ) (op : Op) → operation_of_label image [] l ≡ Some op → op ≡ operation.Step l
unfolding operation_of_label
label_is image l op is = elim (cases_Bool (nat_lt l (length image.harts))) [
  | inl low ↦ sym (same_Some (operation.Step l) op (rw low at is))
  | inr high ↦ absurd (none-some op (rw high at is))
]

pub labels_are : (image : ImageParts) (ls : List ℕ) (order : List Op) → AreLabelsOf image [] ls order → order ≡ steps_of ls
labels_are image [] [] are = refl
labels_are image [] (op ∷ order) are = absurd are
labels_are image (l ∷ ls) [] are = absurd are
labels_are image (l ∷ ls) (op ∷ order) are =
    ap (λ (o : Op). o ∷ order) (label_is image l op are.0)
    ∙ ap (λ (os : List Op). operation.Step l ∷ os) (labels_are image ls order are.1)

pub allowed_steps : (ls : List ℕ) → AreAllowed [] (steps_of ls)
allowed_steps [] = tt
allowed_steps (l ∷ ls) = (tt, allowed_steps ls)

-- ---- the order to a state

module _ (g : GranuleParts) (found : Found) (limit : ℕ) (owned : Bool) (is : IsOwned g found limit owned) (number : ℕ)
    (s : MachineState) (there : state_at (state_in g) found.nodes number ≡ Some s) (labels : List ℕ)
    (trace : IsTrace (edge_at found.edges) number (reverse labels)) where
  pub trace_least : IsWitness (turn_in g) (start_in g) s labels
  trace_least =
      subst (λ (ls : List ℕ). IsWitness (turn_in g) (start_in g) s ls) (reverse-reverse labels)
      (is.search.witnessed number s (reverse labels) there trace)

  pub trace_low : (i l : ℕ) → slice_get labels i ≡ Some l → l < length g.graph.image.harts
  trace_low i l at = walk_low g (start_in g) s labels trace_least.0 i l at

  pub order_made : (order : List Op) → order ≡ steps_of (order_in g labels) → IsOrderTo g s order
  unfolding replayed_state
  order_made order made =
      let image = g.graph.image in
      let walk = order_leads image [] (is_shared g.shared) (hides g.sight) MAX_QUIET_STEPS labels s trace_least.0 in
      let legal = walk_legal image [] (opening_state image) s (order_in g labels) walk in
      let same : legal.0 ≡ order = labels_are image (order_in g labels) legal.0 legal.1 ∙ sym made in
      subst (λ (o : List Op). IsOrderTo g s o) same (record {
        labels = labels;
        least = trace_least;
        steps = same ∙ made;
        allowed = subst (λ (o : List Op). AreAllowed [] o) (sym (same ∙ made)) (allowed_steps (order_in g labels));
        legal = legal.2;
        leads = legal.3;
      })

-- graphs that are alike have the same orders
pub order_alike : (g h : GranuleParts) → AreAlike g h → (labels : List ℕ) → order_in h labels ≡ order_in g labels
order_alike g h alike labels =
    alike_to (λ (i : ImageParts) (x : Sight) (bs : List Bool). order_of_turns i [] (is_shared bs) (hides x) MAX_QUIET_STEPS labels)
    g h alike

pub begun_order : (g h : GranuleParts) → AreAlike g h → (labels : List ℕ) (order : List Op) →
    order ≡ steps_of (order_in h labels) → order ≡ steps_of (order_in g labels)
begun_order g h alike labels order is = is ∙ ap (λ (ls : List ℕ). steps_of ls) (order_alike g h alike labels)

pub later_alike : (g h : GranuleParts) → AreAlike g h → (labels : List ℕ) (order : List Op) (s : MachineState) →
    order ≡ steps_of (turns_in h s labels) → order ≡ steps_of (turns_in g s labels)
later_alike g h alike labels order s is =
    is
    ∙ ap (λ (ls : List ℕ). steps_of ls)
    (alike_to (λ (i : ImageParts) (x : Sight) (bs : List Bool). turn_labels (next i []) (state_after_step i)
    (is_quiet i [] (is_shared bs) (hides x)) MAX_QUIET_STEPS (length i.harts) s labels) g h alike)

pub walks_alike : (g h : GranuleParts) → AreAlike g h → (labels : List ℕ) (s : MachineState) →
    IsWalk (turn_in g) (start_in g) labels s → IsWalk (turn_in h) (start_in h) labels s
walks_alike g h alike labels s walk =
    subst (λ (o : Option MachineState). o ≡ Some s)
    (sym (alike_to (λ (i : ImageParts) (x : Sight) (bs : List Bool).
    after (turn i [] (is_shared bs) (hides x) MAX_QUIET_STEPS) (start i [] (is_shared bs) (hides x) MAX_QUIET_STEPS) labels)
    g h alike)) walk
