-- Loops of turns, and the loops of steps that they are.
use Rattle.std.proofs.Common.{◌≡◌, ℕ, zero, suc, ◌<◌, List, [], ◌∷◌, ◌++◌, length, take, arith, ap, sym, ◌∙◌, refl, inl, inr, subst}
use Rattle.std.specs.Prelude.{Option, Some, option_and_then, true}
use Rattle.std.proofs.lemmas.List.{length-map}
use Rattle.std.proofs.lemmas.Option.{option_and_then_some}
use Rattle.cheri_model.specs.declared.operation.Op.{Op}
use Rattle.cheri_model.specs.declared.operation.Op.TheVariants as operation
use Rattle.cheri_model.specs.runs.Image.{ImageParts}
use Rattle.cheri_model.specs.runs.Machine.{MachineState, may_take, state_after_one}
use Rattle.cheri_model.specs.runs.Replay.{state_after}
use Rattle.explore_sights.specs.declared.sights.Sight.{Sight}
use Rattle.explore_sights.specs.Sights.{hides}
use Rattle.explore_turns.specs.declared.quiet.TheConstants.{MAX_QUIET_STEPS}
use Rattle.explore_turns.specs.Orders.{quiet_order, turns_from}
use Rattle.explore_turns.specs.Turns.{has_harts_of, rest_of, rest_by, resting, turn_by}
use Rattle.explore_turns.proofs.OrderLemmas.{turns_from_lead}
use Rattle.explore_turns.proofs.TurnLemmas.{go, merging, is_fit}
use Rattle.graph_loops.specs.Loops.{StaysFound}
use Rattle.graph_loops.specs.Loops as graphs
use Rattle.graph_merging.proofs.MergingLemmas.{loops_found, fair_found, some_merged, merged_some}
use Rattle.graph_search.specs.Trees.{IsFound}
use Rattle.graph_search.specs.Walks.{after, IsWalk}
use Rattle.schedules.specs.declared.ranges.SweepRange.{SweepRange}
use Rattle.schedules.specs.Schedules.{next, AreLabelsOf}
use Rattle.schedules.proofs.WalkLemmas.{next_some, some_next, step_hart, label_of_step}
use Rattle.std.proofs.lemmas.Option.{same_Some}
use Rattle.state_loops.proofs.LabelLemmas.{takes_steps, steps_takes, labels_take, labels_of_loop, labels_of_fair}
use Rattle.state_loops.specs.Endless.{Steps, IsLoop, IsFair}

steps_more : (first later : List Op) (hart : ℕ) → Steps later hart → Steps (first ++ later) hart
steps_more [] later hart steps = steps
steps_more (op ∷ first) later hart steps = inr (steps_more first later hart steps)

-- the beginning of a walk is a walk
walk_take : {S : Type 0} (next : S → ℕ → Option S) (s t : S) (ls : List ℕ) (n : ℕ) → IsWalk next s ls t →
    (u : S) × IsWalk next s (take n ls) u
walk_take next s t ls zero walk = (s, refl)
walk_take next s t [] (suc n) walk = (s, refl)
walk_take {S} next s t (l ∷ ls) (suc n) walk =
    option_and_then_some (λ (x : S). after next x ls) (next s l) t walk (λ x goes rest.
    let tail = walk_take next x t ls n rest in (
      tail.0,
      ap (λ (o : Option S). option_and_then (λ (y : S). after next y (take n ls)) o) goes ∙ tail.1,
    ))

module _ (image : ImageParts) (sweeps : List SweepRange) (sight : Sight) where
  -- a step of the operations is one of their turns
  steps_of_turns : (s : MachineState) (ops : List Op) (hart : ℕ) → Steps ops hart →
      Steps (turns_from image sweeps sight s ops) hart
  unfolding turns_from
  steps_of_turns s [] hart steps = absurd steps
  steps_of_turns s (op ∷ ops) hart steps = elim steps [
    | inl here ↦ inl here
    | inr later ↦
        let on = state_after_one image s op in
        inr (steps_more (quiet_order image sweeps sight 0 on.harts)
        (turns_from image sweeps sight (rest_by image sweeps sight on) ops) hart
        (steps_of_turns (rest_by image sweeps sight on) ops hart later))
  ]

  pub turned_step : (s : MachineState) (hart : ℕ) → hart < length image.harts →
      may_take s (operation.Step hart) ≡ true →
      turn_by image sweeps sight s hart ≡ Some (rest_by image sweeps sight (state_after_one image s (operation.Step hart)))
  turned_step s hart low may =
      some_merged (next image sweeps) (rest_by image sweeps sight) s (state_after_one image s (operation.Step hart)) hart
      (some_next image sweeps s hart (operation.Step hart) (label_of_step image sweeps hart low) may)

  -- a loop of turns is one of their steps
  pub loop_of_turns : (s : MachineState) (ls : List ℕ) (ops : List Op) → AreLabelsOf image sweeps ls ops →
      graphs.IsLoop (turn_by image sweeps sight) (length image.harts) s ls →
      IsLoop image sweeps s (turns_from image sweeps sight s ops)
  loop_of_turns s ls ops are loop =
      let lead = turns_from_lead image sweeps sight ls ops s s are loop.0 in
      let actor = loop.1 in
      record {
        allowed = lead.allowed;
        legal = lead.legal;
        back = lead.leaves;
        steps = (actor.0, steps_of_turns s ops actor.0 (takes_steps image sweeps ls ops actor.0 are actor.1 actor.2));
      }

  pub fair_of_turns : (s : MachineState) → length s.harts ≡ length image.harts → (ls : List ℕ) (ops : List Op) →
      AreLabelsOf image sweeps ls ops → graphs.IsFair (turn_by image sweeps sight) (length image.harts) s ls →
      IsFair s (turns_from image sweeps sight s ops)
  fair_of_turns s size ls ops are fair hart may =
      let own = step_hart s hart may in
      let low : hart < length image.harts = omega (arith, own, size) in
      steps_of_turns s ops hart (takes_steps image sweeps ls ops hart are low
      (fair hart (rest_by image sweeps sight (state_after_one image s (operation.Step hart))) low
      (turned_step s hart low may)))

  -- the states after the turns of a loop
  pub way_of_turns : (at : ℕ → Option MachineState) (s t : MachineState) (ls : List ℕ) (ops : List Op) →
      AreLabelsOf image sweeps ls ops → IsWalk (turn_by image sweeps sight) s ls t →
      StaysFound (turn_by image sweeps sight) at s ls → (n : ℕ) →
      IsFound at (state_after image s (turns_from image sweeps sight s (take n ops)))
  way_of_turns at s t ls ops are walk stays n =
      let part = walk_take (turn_by image sweeps sight) s t ls n walk in
      let lead = turns_from_lead image sweeps sight (take n ls) (take n ops) s part.0 (labels_take image sweeps n ls ops are) part.1 in
      subst (λ (u : MachineState). IsFound at u) (sym lead.leaves) (stays n part.0 part.1)

  abbrev pub going : MachineState → ℕ → ℕ
  going = go image sweeps (hides sight) MAX_QUIET_STEPS

  -- a loop of steps is one of turns, of the state in which all harts rest
  pub loop_rests : (s : MachineState) → length s.harts ≡ length image.harts → (cycle : List Op) →
      IsLoop image sweeps s cycle →
      (ms : List ℕ) × graphs.IsLoop (turn_by image sweeps sight) (length image.harts) (rest_by image sweeps sight s) ms
      × (IsFair s cycle →
      graphs.IsFair (turn_by image sweeps sight) (length image.harts) (rest_by image sweeps sight s) ms)
  loop_rests s size cycle loop =
      let h = merging image sweeps (hides sight) MAX_QUIET_STEPS in
      let fit = is_fit image sweeps (hides sight) MAX_QUIET_STEPS s size in
      let ls = labels_of_loop image sweeps s size cycle loop in
      let found = loops_found (next image sweeps) (length image.harts) (has_harts_of image) (rest_by image sweeps sight)
      going h s ls.0 fit ls.2 in (
        found.0,
        found.1,
        λ fair. fair_found (next image sweeps) (length image.harts) (has_harts_of image) (rest_by image sweeps sight)
            going h s ls.0 found.0 fit (labels_of_fair image sweeps s size ls.0 cycle ls.1 fair) found.2,
      )

  -- the labels of fair turns
  pub labels_of_fair_turns : (s : MachineState) (ls : List ℕ) (ops : List Op) → AreLabelsOf image sweeps ls ops →
      IsFair s ops → graphs.IsFair (turn_by image sweeps sight) (length image.harts) s ls
  labels_of_fair_turns s ls ops are fair m t low goes =
      let turned = merged_some (rest_by image sweeps sight) (next image sweeps s m) t goes in
      let step = next_some image sweeps s turned.0 m turned.1 in
      let same : step.0 ≡ operation.Step m =
      same_Some step.0 (operation.Step m) (sym step.1 ∙ label_of_step image sweeps m low) in
      (steps_takes image sweeps ls ops m are
      (fair m (subst (λ (o : Op). may_take s o ≡ true) same step.2))).0

  -- resting changes no count of harts
  pub rest_size : (s : MachineState) → length (rest_by image sweeps sight s).harts ≡ length s.harts
  unfolding rest_of
  rest_size s = length-map s.harts (resting image sweeps sight)
