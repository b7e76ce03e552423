-- Turns, walks and orders of machines whose harts forget the registers that don't matter.
use Rattle.std.proofs.Common.{◌≡◌, ℕ, List, [], refl, sym, ap, ◌∙◌}
use Rattle.std.specs.Prelude.{Bool, true, Option, Some, None, option_map}
use Rattle.std.proofs.lemmas.Option.{none-some, same_Some}
use Rattle.cheri_model.specs.declared.instr.Instr.{Instr}
use Rattle.cheri_model.specs.declared.operation.Op.{Op}
use Rattle.cheri_model.specs.runs.Image.{ImageParts}
use Rattle.cheri_model.specs.runs.Machine.{MachineState, opening_state}
use Rattle.cheri_model.specs.runs.Replay.{is_legal, replayed_state}
use Rattle.explore_sights.specs.declared.sights.Sight.{Sight}
use Rattle.explore_sights.specs.Sights.{hides}
use Rattle.explore_turns.specs.declared.quiet.TheConstants.{MAX_QUIET_STEPS}
use Rattle.explore_turns.specs.Orders.{order_of_turns}
use Rattle.explore_turns.specs.Turns.{KeepsPassing, rest_by, start_by, turn_by}
use Rattle.explore_turns.proofs.OrderLemmas.{turns_lead}
use Rattle.explore_turns.proofs.PassingLemmas.{rest_passes}
use Rattle.explore_turns.proofs.TurnLemmas.{rest_reached}
use Rattle.forgotten_runs.specs.ForgottenRuns.{forgotten_state, forgotten_after}
use Rattle.forgotten_runs.proofs.OperationLemmas.{may_kept, after_forgets}
use Rattle.graph_search.specs.Walks.{IsReachable, IsWalk, after}
use Rattle.live_registers.specs.RegisterSets.{forgotten}
use Rattle.live_registers.specs.LiveSets.{IsRight, LiveSets, forgotten_hart}
use Rattle.live_registers.proofs.ForgettingLemmas.{forgets_hart, forgotten_twice}
use Rattle.schedules.specs.Schedules.{AreAllowed, AreLabelsOf}
use Rattle.schedules.proofs.WalkLemmas.{replayed_reachable}
use Rattle.forgotten_turns.specs.ForgottenTurns.{HidesForgotten, PassesForgotten, forgotten_start, forgotten_turn}
use Rattle.forgotten_turns.proofs.ForgettingLemmas.{Forgets}
use Rattle.forgotten_turns.proofs.TurnLemmas.{turn_loses, walk_loses}

-- harts that forget the registers that don't matter forget so
pub live_forgets : (program : List Instr) (live : LiveSets) → IsRight program live → Forgets program (forgotten_hart live)
unfolding forgotten_hart forgotten
live_forgets program live right = record {
  twice = forgotten_twice live;
  pcc = λ h. refl;
  status = λ h. refl;
  steps = λ h m runs. forgets_hart program live h m right runs;
}

mapped : {A B : Type 0} (f : A → B) (o : Option A) (y : B) → option_map f o ≡ Some y → (x : A) × (o ≡ Some x) × (f x ≡ y)
mapped {A} {B} f None y is = absurd (none-some y is)
mapped {A} {B} f (Some x) y is = (x, refl, same_Some (f x) y is)

module _ (image : ImageParts) (sight : Sight) (live : LiveSets) (right : IsRight image.program live)
    (hidden : HidesForgotten live (hides sight)) where
  abbrev goes : MachineState → ℕ → Option MachineState
  goes = forgotten_turn image sight live

  pub turn_forgets : (s : MachineState) (label : ℕ) → goes (forgotten_state live s) label ≡ goes s label
  unfolding forgotten_state forgotten_after
  turn_forgets s label =
      turn_loses image (forgotten_hart live) (live_forgets image.program live right) (hides sight) hidden MAX_QUIET_STEPS
      (may_kept live) (λ t op may. after_forgets live image right t op may) s label

  pub walk_forgets : (s : MachineState) (labels : List ℕ) →
      after goes (forgotten_state live s) labels ≡ option_map (forgotten_state live) (after (turn_by image [] sight) s labels)
  unfolding forgotten_state forgotten_after
  walk_forgets s labels =
      walk_loses image (forgotten_hart live) (live_forgets image.program live right) (hides sight) hidden MAX_QUIET_STEPS
      (may_kept live) (λ t op may. after_forgets live image right t op may) s labels

  pub reached_forgets : (s : MachineState) → IsReachable (turn_by image [] sight) (start_by image [] sight) s →
      IsReachable goes (forgotten_start image sight live) (forgotten_state live s)
  reached_forgets s reached =
      (reached.0, walk_forgets (start_by image [] sight) reached.0 ∙ ap (option_map (forgotten_state live)) reached.1)

  -- a walk leads to what the state forgets to be to which the turns lead
  pub walk_of_turns : (labels : List ℕ) (r : MachineState) → IsWalk goes (forgotten_start image sight live) labels r →
      (s : MachineState) × IsWalk (turn_by image [] sight) (start_by image [] sight) labels s × (forgotten_state live s ≡ r)
  walk_of_turns labels r walk =
      mapped (forgotten_state live) (after (turn_by image [] sight) (start_by image [] sight) labels) r
      (sym (walk_forgets (start_by image [] sight) labels) ∙ walk)

  pub reaches_forgotten : (r : MachineState) → IsReachable goes (forgotten_start image sight live) r →
      (s : MachineState) × IsReachable (turn_by image [] sight) (start_by image [] sight) s × (forgotten_state live s ≡ r)
  reaches_forgotten r reached =
      let walk = walk_of_turns reached.0 r reached.1 in
      (walk.0, (reached.0, walk.1), walk.2)

  -- what is so of the order of such turns
  pub record LeadsForgotten (order : List Op) (r : MachineState) : Type 0 where
    pub allowed : AreAllowed [] order
    pub legal : is_legal image (opening_state image) order ≡ true
    pub leads : forgotten_state live (replayed_state image order) ≡ r

  pub order_leads : (labels : List ℕ) (ops : List Op) (r : MachineState) → AreLabelsOf image [] labels ops →
      IsWalk goes (forgotten_start image sight live) labels r → LeadsForgotten (order_of_turns image [] sight ops) r
  unfolding replayed_state
  order_leads labels ops r are walk =
      let turns = walk_of_turns labels r walk in
      let leads = turns_lead image [] sight labels ops turns.0 are turns.1 in
      record {
        allowed = leads.allowed;
        legal = leads.legal;
        leads = ap (forgotten_state live) leads.leaves ∙ turns.2;
      }

  -- what any order leads to
  pub order_reached : (order : List Op) → AreAllowed [] order → is_legal image (opening_state image) order ≡ true →
      IsReachable goes (forgotten_start image sight live)
      (forgotten_state live (rest_by image [] sight (replayed_state image order)))
  order_reached order allowed legal =
      reached_forgets (rest_by image [] sight (replayed_state image order))
      (rest_reached image [] (hides sight) MAX_QUIET_STEPS (replayed_state image order)
      (replayed_reachable image [] order allowed legal))

pub rest_passes_forgotten : (image : ImageParts) (sight : Sight) (live : LiveSets) (passing : MachineState → Bool) →
    KeepsPassing (hides sight) passing → PassesForgotten live passing → (s : MachineState) → passing s ≡ true →
    passing (forgotten_state live (rest_by image [] sight s)) ≡ true
rest_passes_forgotten image sight live passing keeps same s holds =
    same (rest_by image [] sight s) ∙ rest_passes image [] sight passing keeps s holds
