-- A loop of states that have forgotten is a cycle of the machine's steps, which it can take again and
-- again.
use Rattle.std.proofs.Common.{◌≡◌, ℕ, zero, suc, ◌+◌, ◌≤◌, List, [], ◌∷◌, ◌++◌, length, drop, arith, refl, ap, sym, ◌∙◌, subst, inl, inr}
use Rattle.std.specs.Prelude.{true, Option}
use Rattle.std.proofs.Math.Seq.{drop-append_seam}
use Rattle.std.proofs.lemmas.Bool.{and_from}
use Rattle.std.proofs.lemmas.List.{append-nil, append_assoc, length-append}
use Rattle.cheri_model.specs.declared.operation.Op.{Op}
use Rattle.cheri_model.specs.runs.Image.{ImageParts}
use Rattle.cheri_model.specs.runs.Machine.{MachineState, opening_state, state_after_one}
use Rattle.cheri_model.specs.runs.Replay.{is_legal, replayed_state, state_after}
use Rattle.cheri_model.proofs.Runs.Replays.{is_legal-append, state_after-append}
use Rattle.explore_sights.specs.declared.sights.Sight.{Sight}
use Rattle.explore_sights.specs.Sights.{hides}
use Rattle.explore_turns.specs.Orders.{AreOfHarts, order_of_turns, quiet_order, turns_from}
use Rattle.explore_turns.specs.Turns.{rest_by, turn_by}
use Rattle.explore_turns.proofs.OrderLemmas.{Leads, order_append, turns_from_lead, turns_lead}
use Rattle.explore_turns.proofs.TurnLemmas.{opening_count}
use Rattle.forgotten_runs.specs.ForgottenRuns.{forgotten_state}
use Rattle.forgotten_turns.specs.ForgottenTurns.{HidesForgotten, forgotten_turn}
use Rattle.forgotten_turns.proofs.OrderLemmas.{turn_forgets, walk_forgets, walk_of_turns}
use Rattle.forgotten_states.specs.Surveys.{AreTurnsTo}
use Rattle.graph_loops.specs.Loops as graphs
use Rattle.graph_merging.proofs.MergingLemmas.{fair_kept, merged_some}
use Rattle.graph_search.specs.Walks.{IsWalk, after}
use Rattle.hart_order.specs.GroupedTurns.{machine_labels}
use Rattle.hart_order.proofs.GroupedLemmas.{machine_walk}
use Rattle.live_registers.specs.LiveSets.{IsRight, LiveSets}
use Rattle.schedules.specs.Schedules.{AreAllowed, AreLabelsOf}
use Rattle.schedules.proofs.WalkLemmas.{same_harts}
use Rattle.states.proofs.KeptLemmas.{harts_of_labels}
use Rattle.state_loops.specs.Endless.{IsFair, Steps}
use Rattle.state_loops.proofs.LabelLemmas.{takes_steps}
use Rattle.state_loops.proofs.TurnLemmas.{fair_of_turns}
use Rattle.forgotten_loops.specs.ForgottenLoops.{GoesOn, IsFairForever, repeated}
use Rattle.forgotten_loops.proofs.AlikeLemmas.{same_turns}

-- ---- the harts of a state that an order leaves

size_after : (image : ImageParts) (order : List Op) (s : MachineState) →
    length (state_after image s order).harts ≡ length s.harts
unfolding state_after
size_after image [] s = refl
size_after image (op ∷ order) s = size_after image order (state_after_one image s op) ∙ same_harts image s op

pub replayed_size : (image : ImageParts) (order : List Op) → length (replayed_state image order).harts ≡ length image.harts
unfolding replayed_state
replayed_size image order = size_after image order (opening_state image) ∙ opening_count image

-- ---- steps of turns

steps_more : (first later : List Op) (hart : ℕ) → Steps later hart → Steps (first ++ later) hart
steps_more [] later hart steps = steps
steps_more (op ∷ first) later hart steps = inr (steps_more first later hart steps)

steps_of_turns : (image : ImageParts) (sight : Sight) (s : MachineState) (ops : List Op) (hart : ℕ) → Steps ops hart →
    Steps (turns_from image [] sight s ops) hart
unfolding turns_from
steps_of_turns image sight s [] hart steps = absurd steps
steps_of_turns image sight s (op ∷ ops) hart steps = elim steps [
  | inl here ↦ inl here
  | inr later ↦
      let on = state_after_one image s op in
      inr (steps_more (quiet_order image [] sight 0 on.harts)
      (turns_from image [] sight (rest_by image [] sight on) ops) hart
      (steps_of_turns image sight (rest_by image [] sight on) ops hart later))
]

-- ---- the order of a loop is what its turns add to those before it

labels_append : (image : ImageParts) (ls ms : List ℕ) (first later : List Op) → AreLabelsOf image [] ls first →
    AreLabelsOf image [] ms later → AreLabelsOf image [] (ls ++ ms) (first ++ later)
labels_append image [] ms [] later are also = also
labels_append image [] ms (op ∷ first) later are also = absurd are
labels_append image (l ∷ ls) ms [] later are also = absurd are
labels_append image (l ∷ ls) ms (op ∷ first) later are also =
    (are.0, labels_append image ls ms first later are.1 also)

-- the turns that lead to a state, and later ones that begin there
pub record GoOn (image : ImageParts) (sight : Sight) (first later : List Op) : Type 0 where
  pub first_of : AreOfHarts image first
  pub all_of : AreOfHarts image (first ++ later)
  pub longer : length (order_of_turns image [] sight first) ≤ length (order_of_turns image [] sight (first ++ later))
  pub cycle : drop (length (order_of_turns image [] sight first)) (order_of_turns image [] sight (first ++ later))
      ≡ turns_from image [] sight (replayed_state image (order_of_turns image [] sight first)) later

module _ (image : ImageParts) (sight : Sight) (live : LiveSets) (right : IsRight image.program live)
    (hidden : HidesForgotten live (hides sight)) where
  pub turns_go_on : (groups : List ℕ) (s : MachineState) (first later : List Op) (labels : List ℕ) →
      AreTurnsTo image sight live groups s first → AreLabelsOf image [] labels later → GoOn image sight first later
  unfolding replayed_state
  turns_go_on groups s first later labels turns are =
      let own = machine_labels image sight live groups turns.labels in
      let turned = machine_walk image sight live groups turns.labels s turns.least.0 in
      let walk = walk_of_turns image sight live right hidden own turned.0 turned.1 in
      let before = order_of_turns image [] sight first in
      let leads = turns_lead image [] sight own first walk.0 turns.operations walk.1 in
      let all = order_append image [] sight own first later walk.0 turns.operations walk.1 in
      let added = turns_from image [] sight walk.0 later in
      let size : length (order_of_turns image [] sight (first ++ later)) ≡ length before + length added =
      ap (λ (os : List Op). length os) all ∙ length-append before added in record {
        first_of = λ i hart at. harts_of_labels image [] own first turns.operations i hart at;
        all_of = λ i hart at. harts_of_labels image [] (own ++ labels) (first ++ later)
            (labels_append image own labels first later turns.operations are) i hart at;
        longer = omega (arith, size);
        cycle = ap (λ (os : List Op). drop (length before) os) all ∙ (drop-append_seam before added
            ∙ ap (λ (x : MachineState). turns_from image [] sight x later) (sym leads.leaves));
      }

  -- ---- the cycle again and again

  abbrev lost : MachineState → MachineState
  lost s = forgotten_state live s

  abbrev goes : MachineState → ℕ → Option MachineState
  goes = forgotten_turn image sight live

  -- turns lead from a state that forgets to be one where forgotten turns lead from that one
  turns_on : (s r t : MachineState) (labels : List ℕ) → lost s ≡ r → IsWalk goes r labels t →
      (u : MachineState) × IsWalk (turn_by image [] sight) s labels u × (lost u ≡ t)
  turns_on s r t labels comes walk =
      merged_some lost (after (turn_by image [] sight) s labels) t
      (sym (walk_forgets image sight live right hidden s labels)
      ∙ subst (λ (x : MachineState). IsWalk goes x labels t) (sym comes) walk)

  fair_turns : (s r : MachineState) (labels : List ℕ) → lost s ≡ r → graphs.IsFair goes (length image.harts) r labels →
      graphs.IsFair (turn_by image [] sight) (length image.harts) s labels
  fair_turns s r labels comes fair =
      fair_kept (turn_by image [] sight) (length image.harts) lost s labels labels
      (λ m t low edge. fair m t low
      (ap (λ (x : MachineState). goes x m) (sym comes) ∙ (turn_forgets image sight live right hidden s m ∙ edge)))
      (λ m takes. takes)

  module _ (r : MachineState) (labels : List ℕ) (ops order cycle : List Op) (are : AreLabelsOf image [] labels ops)
      (loop : graphs.IsLoop goes (length image.harts) r labels) (allowed : AreAllowed [] order)
      (legal : is_legal image (opening_state image) order ≡ true) (comes : lost (replayed_state image order) ≡ r)
      (told : cycle ≡ turns_from image [] sight (replayed_state image order) ops) where
    abbrev whole : ℕ → List Op
    whole n = order ++ repeated n cycle

    abbrev left : ℕ → MachineState
    left n = replayed_state image (whole n)

    -- the cycle leads from each state that forgets to be that one to such a state
    leads_again : (s : MachineState) → lost s ≡ r → (u : MachineState) × Leads image [] sight s cycle u × (lost u ≡ r)
    leads_again s here =
        let on = turns_on s r r labels here loop.0 in
        let first = replayed_state image order in
        let same : turns_from image [] sight s ops ≡ cycle =
        same_turns image sight live right hidden labels ops s first on.0 (here ∙ sym comes) are on.1 ∙ sym told in (
          on.0,
          subst (λ (os : List Op). Leads image [] sight s os on.0) same (turns_from_lead image [] sight labels ops s on.0 are on.1),
          on.2,
        )

    -- each time round
    pub record Round (n : ℕ) : Type 0 where
      pub taken : is_legal image (opening_state image) (whole n) ≡ true
      pub back : lost (left n) ≡ r

    once_more : (n : ℕ) → whole (suc n) ≡ whole n ++ cycle
    once_more n = sym (append_assoc order (repeated n cycle) cycle)

    pub rounds : (n : ℕ) → Round n
    unfolding replayed_state
    rounds zero = record {
      taken = ap (λ (os : List Op). is_legal image (opening_state image) os) (append-nil order) ∙ legal;
      back = ap (λ (os : List Op). lost (replayed_state image os)) (append-nil order) ∙ comes;
    }
    rounds (suc n) =
        let before = rounds n in
        let start = opening_state image in
        let on = leads_again (left n) before.back in
        record {
          taken = ap (λ (os : List Op). is_legal image start os) (once_more n)
              ∙ (is_legal-append image start (whole n) cycle
              ∙ and_from (is_legal image start (whole n)) (is_legal image (state_after image start (whole n)) cycle)
              before.taken on.1.legal);
          back = ap (λ (os : List Op). lost (state_after image start os)) (once_more n)
              ∙ (ap lost (state_after-append image start (whole n) cycle ∙ on.1.leaves) ∙ on.2);
        }

    pub goes_on : GoesOn image order cycle
    goes_on =
        let actor = loop.1 in
        let first = replayed_state image order in record {
          order_allowed = allowed;
          cycle_allowed = (leads_again first comes).1.allowed;
          again = λ n. (rounds n).taken;
          steps = (
            actor.0,
            subst (λ (os : List Op). Steps os actor.0) (sym told)
                (steps_of_turns image sight first ops actor.0 (takes_steps image [] labels ops actor.0 are actor.1 actor.2)),
          );
        }

    pub fair_forever : graphs.IsFair goes (length image.harts) r labels → IsFairForever image order cycle
    fair_forever fair n =
        let here = (rounds n).back in
        let on = turns_on (left n) r r labels here loop.0 in
        let first = replayed_state image order in
        let same : turns_from image [] sight (left n) ops ≡ cycle =
        same_turns image sight live right hidden labels ops (left n) first on.0 (here ∙ sym comes) are on.1 ∙ sym told in
        subst (λ (os : List Op). IsFair (left n) os) same
        (fair_of_turns image [] sight (left n) (replayed_size image (whole n)) labels ops are
        (fair_turns (left n) r labels here fair))
