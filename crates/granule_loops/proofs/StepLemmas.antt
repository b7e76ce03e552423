-- The steps of turns, as labels and as operations.
use Rattle.std.proofs.Common.{◌≡◌, ℕ, ◌<◌, List, [], ◌∷◌, ◌++◌, length, ap, sym, ◌∙◌, refl, inl, inr, subst}
use Rattle.std.specs.Prelude.{Bool, true, Option, Some, None, option_map, unwrap_or}
use Rattle.cheri_model.specs.declared.operation.Op.{Op}
use Rattle.cheri_model.specs.declared.operation.Op.TheVariants as operation
use Rattle.cheri_model.specs.runs.Image.{ImageParts}
use Rattle.cheri_model.specs.runs.Machine.{MachineState, may_take, opening_state, state_after_one}
use Rattle.cheri_model.specs.runs.Replay.{replayed_state, state_after}
use Rattle.explore_sights.specs.Sights.{hides}
use Rattle.explore_turns.proofs.TurnLemmas.{opening_count}
use Rattle.explore_turns.specs.declared.quiet.TheConstants.{MAX_QUIET_STEPS}
use Rattle.granule_states.proofs.OrderLemmas.{allowed_steps, labels_are}
use Rattle.granule_states.specs.Graphs.{GranuleParts, is_shared, quiet_in, step_in, turn_in}
use Rattle.granule_states.specs.Orders.{steps_of, turns_in}
use Rattle.graph_loops.specs.Loops.{Takes}
use Rattle.graph_loops.specs.Loops as graphs
use Rattle.graph_search.specs.Walks.{IsWalk}
use Rattle.own_granules.proofs.OrderLemmas.{turn_walk}
use Rattle.own_granules.proofs.OwnLemmas.{quiet_edge}
use Rattle.own_granules.specs.Orders.{after_labels, turn_labels}
use Rattle.own_granules.specs.Rests.{rest_after}
use Rattle.schedules.proofs.WalkLemmas.{label_of_step, same_harts, some_next, step_hart, walk_legal}
use Rattle.schedules.specs.Schedules.{AreAllowed, next}
use Rattle.state_loops.specs.Endless.{IsFair, IsLoop, Steps}

-- ---- who steps

takes_right : (ls ms : List ℕ) (m : ℕ) → Takes ms m → Takes (ls ++ ms) m
takes_right [] ms m takes = takes
takes_right (l ∷ ls) ms m takes = inr (takes_right ls ms m takes)

-- a hart that has a turn steps in it
takes_turns : {S : Type 0} (goes : S → ℕ → Option S) (step : S → ℕ → S) (quiet : S → ℕ → Bool) (most actors : ℕ)
    (s : S) (ls : List ℕ) (m : ℕ) → Takes ls m → Takes (turn_labels goes step quiet most actors s ls) m
unfolding turn_labels
takes_turns goes step quiet most actors s [] m takes = absurd takes
takes_turns goes step quiet most actors s (l ∷ ls) m takes = elim takes [
  | inl here ↦ inl here
  | inr later ↦
      let t = unwrap_or (goes s l) s in
      inr (takes_right (after_labels step quiet most actors l t)
      (turn_labels goes step quiet most actors (rest_after step quiet most actors l t) ls) m
      (takes_turns goes step quiet most actors (rest_after step quiet most actors l t) ls m later))
]

takes_steps : (ls : List ℕ) (m : ℕ) → Takes ls m → Steps (steps_of ls) m
takes_steps [] m takes = absurd takes
takes_steps (l ∷ ls) m takes = elim takes [
  | inl here ↦ inl (ap operation.Step here)
  | inr later ↦ inr (takes_steps ls m later)
]

pub turns_step : (g : GranuleParts) (s : MachineState) (ls : List ℕ) (m : ℕ) → Takes ls m → Steps (steps_of (turns_in g s ls)) m
turns_step g s ls m takes =
    takes_steps (turns_in g s ls) m
    (takes_turns (next g.graph.image []) (step_in g) (quiet_in g) MAX_QUIET_STEPS (length g.graph.image.harts) s ls m takes)

-- ---- loops of turns are loops of their steps

pub loop_of_turns : (g : GranuleParts) (s : MachineState) (ls : List ℕ) →
    graphs.IsLoop (turn_in g) (length g.graph.image.harts) s ls → IsLoop g.graph.image [] s (steps_of (turns_in g s ls))
loop_of_turns g s ls loop =
    let image = g.graph.image in
    let own = quiet_edge image [] (is_shared g.shared) (λ granule. None) (hides g.sight) MAX_QUIET_STEPS in
    let walk = turn_walk (step_in g) (quiet_in g) MAX_QUIET_STEPS (next image []) (length image.harts) own s s ls loop.0 in
    let legal = walk_legal image [] s s (turns_in g s ls) walk in
    let same : legal.0 ≡ steps_of (turns_in g s ls) = labels_are image (turns_in g s ls) legal.0 legal.1 in
    subst (λ (order : List Op). IsLoop image [] s order) same (record {
      allowed = subst (λ (order : List Op). AreAllowed [] order) (sym same) (allowed_steps (turns_in g s ls));
      legal = legal.2;
      back = legal.3;
      steps = (loop.1.0, subst (λ (order : List Op). Steps order loop.1.0) (sym same) (turns_step g s ls loop.1.0 loop.1.2));
    })

pub fair_of_turns : (g : GranuleParts) (s : MachineState) (ls : List ℕ) → length s.harts ≡ length g.graph.image.harts →
    graphs.IsFair (turn_in g) (length g.graph.image.harts) s ls → IsFair s (steps_of (turns_in g s ls))
fair_of_turns g s ls size fair hart may =
    let image = g.graph.image in
    let low : hart < length image.harts = subst (λ (n : ℕ). hart < n) size (step_hart s hart may) in
    let to = state_after_one image s (operation.Step hart) in
    let rest = rest_after (step_in g) (quiet_in g) MAX_QUIET_STEPS (length image.harts) hart in
    let goes : next image [] s hart ≡ Some to =
    some_next image [] s hart (operation.Step hart) (label_of_step image [] hart low) may in
    turns_step g s ls hart (fair hart (rest to) low (ap (option_map rest) goes))

-- ---- how many harts a state has

size_after : (image : ImageParts) (s : MachineState) (order : List Op) → length (state_after image s order).harts ≡ length s.harts
unfolding state_after
size_after image s [] = refl
size_after image s (op ∷ order) = size_after image (state_after_one image s op) order ∙ same_harts image s op

pub replayed_size : (image : ImageParts) (order : List Op) → length (replayed_state image order).harts ≡ length image.harts
unfolding replayed_state
replayed_size image order = size_after image (opening_state image) order ∙ opening_count image
