-- What the states of a survey say of all orders, where nothing that is forgotten decides, nor which
-- hart of a group stands where.
use Rattle.std.proofs.Common.{◌≡◌, ℕ, zero, suc, ◌<◌, List, [], ◌∷◌, map, get_or, refl, sym, ap, ◌∙◌, subst, inl, inr}
use Rattle.std.specs.Prelude.{Bool, true, not, ◌&&◌, Some, None, Option, Vec}
use Rattle.std.specs.Global.{Global}
use Rattle.std.specs.List.{list_all}
use Rattle.std.proofs.lemmas.Bool.{and_from, and_parts, both_ways, cases_Bool}
use Rattle.asked_registers.specs.Asked.{condition_asks, HasAsked}
use Rattle.asked_registers.proofs.HoldingLemmas.{holds_same}
use Rattle.cheri_model.specs.declared.instr.Instr.{Instr}
use Rattle.cheri_model.specs.declared.operation.Op.{Op}
use Rattle.cheri_model.specs.runs.Machine.{MachineState, hart_at, no_hart}
use Rattle.cheri_model.specs.runs.Replay.{replayed_state}
use Rattle.cheri_model.specs.steps.Hart.{HartState}
use Rattle.conditions.specs.Holding.{holds}
use Rattle.conditions.specs.declared.parts.Node.{Node}
use Rattle.explore_properties.specs.declared.claims.When.{When}
use Rattle.explore_properties.specs.declared.claims.When.TheVariants.{Never, Always, Sometimes, Finally}
use Rattle.explore_verdicts.specs.Deciding.{decides, IsSeen}
use Rattle.explore_verdicts.specs.Verdicts.{absent_verdict, found_verdict}
use Rattle.explore_verdicts.specs.declared.verdict.Verdict.{Verdict}
use Rattle.forgotten_runs.specs.ForgottenRuns.{forgotten_state}
use Rattle.forgotten_states.specs.Nodes.{IsFirstPassing}
use Rattle.forgotten_states.specs.Sought.{IsOrderTo}
use Rattle.forgotten_states.specs.Surveys.{IsSurvey, SurveyParts, at, count}
use Rattle.forgotten_states.proofs.SurveyLemmas.{all_there, none_passes, order_passes}
use Rattle.forgotten_turns.specs.ForgottenTurns.{PassesForgotten}
use Rattle.hart_order.specs.GroupedTurns.{keeps_number}
use Rattle.hart_symmetry.specs.Named.{NamedStay, condition_names}
use Rattle.hart_symmetry.specs.Renaming.{IsRenaming, PassesRenamed}
use Rattle.hart_symmetry.proofs.HoldingLemmas.{holds_same as renamed_holds}
use Rattle.hart_symmetry.proofs.RenamingLemmas.{renaming_other}
use Rattle.live_registers.specs.LiveSets.{forgotten_hart, IsRight, LiveSets}
use Rattle.live_registers.specs.RegisterSets.{forgotten}
use Rattle.outcomes.specs.Outcomes.{is_final, is_stopped}
use Rattle.outcomes.proofs.RestLemmas.{final_rests}
use Rattle.states.specs.Kept.{NonePasses}
use Rattle.forgotten_checks.specs.StateVerdicts.{IsForgottenStateVerdict, IsMetVerdict}

stopped_same : (live : LiveSets) (hs : List HartState) →
    list_all is_stopped (map (forgotten_hart live) hs) ≡ list_all is_stopped hs
unfolding forgotten_hart forgotten
stopped_same live [] = refl
stopped_same live (h ∷ hs) = ap (λ (b : Bool). is_stopped h && b) (stopped_same live hs)

final_same : (live : LiveSets) (s : MachineState) → is_final (forgotten_state live s) ≡ is_final s
unfolding is_final forgotten_state
final_same live s = stopped_same live s.harts

-- a state decides just where it does when its harts have forgotten
pub decides_same : (program : List Instr) (live : LiveSets) (when : When) (condition : List Node) → IsRight program live →
    HasAsked live.asked (condition_asks condition) → PassesForgotten live (decides when condition)
unfolding decides
decides_same program live Never condition right asked s = holds_same program live right s condition asked
decides_same program live Always condition right asked s = ap not (holds_same program live right s condition asked)
decides_same program live Sometimes condition right asked s = holds_same program live right s condition asked
decides_same program live Finally condition right asked s =
    ap (λ (b : Bool). b && not (holds (forgotten_state live s) condition)) (final_same live s)
    ∙ ap (λ (b : Bool). is_final s && not b) (holds_same program live right s condition asked)

-- ---- harts in another order

-- of each number, there being none that runs past the end
all_stopped : (hs : List HartState) (i : ℕ) → list_all is_stopped hs ≡ true → is_stopped (get_or hs i no_hart) ≡ true
all_stopped [] i all = refl
all_stopped (h ∷ hs) zero all = (and_parts (is_stopped h) (list_all is_stopped hs) all).0
all_stopped (h ∷ hs) (suc i) all = all_stopped hs i (and_parts (is_stopped h) (list_all is_stopped hs) all).1

each_stopped : (hs : List HartState) → ((i : ℕ) → is_stopped (get_or hs i no_hart) ≡ true) → list_all is_stopped hs ≡ true
each_stopped [] each = refl
each_stopped (h ∷ hs) each = and_from (is_stopped h) (list_all is_stopped hs) (each 0) (each_stopped hs (λ i. each (suc i)))

module _ (stays : ℕ → Bool) where
  final_too : (one other : MachineState) → IsRenaming stays one other → is_final one ≡ true → is_final other ≡ true
  unfolding is_final hart_at
  final_too one other renaming final =
      each_stopped other.harts (λ i. ap is_stopped (renaming.1.harts i) ∙ all_stopped one.harts (renaming.0 i) final)

  pub final_renamed : PassesRenamed stays is_final
  final_renamed one other renaming = elim (cases_Bool (is_final one)) [
    | inl final ↦ final_too one other renaming final ∙ sym final
    | inr runs ↦ elim (cases_Bool (is_final other)) [
      | inl final ↦ final ∙ sym (final_too other one (renaming_other stays one other renaming) final)
      | inr too ↦ too ∙ sym runs
    ]
  ]

  -- a state decides just where it does with its harts in another order, where those that are named stay
  pub decides_renamed : (when : When) (condition : List Node) → NamedStay stays (condition_names condition) →
      PassesRenamed stays (decides when condition)
  unfolding decides
  decides_renamed Never condition named one other r = renamed_holds stays r.0 one other r.1 condition named
  decides_renamed Always condition named one other r = ap not (renamed_holds stays r.0 one other r.1 condition named)
  decides_renamed Sometimes condition named one other r = renamed_holds stays r.0 one other r.1 condition named
  decides_renamed Finally condition named one other r =
      ap (λ (b : Bool). b && not (holds other condition)) (final_renamed one other r)
      ∙ ap (λ (b : Bool). is_final one && not b) (renamed_holds stays r.0 one other r.1 condition named)

module _ (survey : SurveyParts) (is : IsSurvey survey) where
  abbrev stays : ℕ → Bool
  stays = keeps_number survey.groups

  -- a state in which no hart runs is there, in some order of harts of a group, where all are
  none_finally : (condition : List Node) → HasAsked survey.live.asked (condition_asks condition) →
      NamedStay stays (condition_names condition) → survey.complete ≡ true →
      IsFirstPassing (at survey) (count survey) (decides Finally condition) None → NonePasses survey.image [] (decides Finally condition)
  unfolding decides
  none_finally condition asked named done none order allowed legal =
      let state = replayed_state survey.image order in
      let same = decides_same survey.image.program survey.live Finally condition is.right asked in
      elim (cases_Bool (decides Finally condition state)) [
        | inl passes ↦
            let final = (and_parts (is_final state) (not (holds state condition)) passes).0 in
            let lost = forgotten_state survey.live state in
            let there = all_there survey is done order allowed legal in
            let found = there.0 in
            let like : IsRenaming stays lost found = subst (λ (s : MachineState). IsRenaming stays (forgotten_state survey.live s) found)
            (final_rests survey.image [] survey.sight state final) there.1 in
            absurd (both_ways (decides Finally condition found) (none there.2.0 found there.2.1)
            (decides_renamed stays Finally condition named lost found like ∙ (same state ∙ passes)))
        | inr fails ↦ fails
      ]

  none_decides : (when : When) (condition : List Node) → IsSeen survey.sight when condition →
      HasAsked survey.live.asked (condition_asks condition) → NamedStay stays (condition_names condition) → survey.complete ≡ true →
      IsFirstPassing (at survey) (count survey) (decides when condition) None → NonePasses survey.image [] (decides when condition)
  none_decides Never condition seen asked named done none =
      none_passes survey is done (decides Never condition) seen
      (decides_same survey.image.program survey.live Never condition is.right asked) (decides_renamed stays Never condition named) none
  none_decides Always condition seen asked named done none =
      none_passes survey is done (decides Always condition) seen
      (decides_same survey.image.program survey.live Always condition is.right asked) (decides_renamed stays Always condition named) none
  none_decides Sometimes condition seen asked named done none =
      none_passes survey is done (decides Sometimes condition) seen
      (decides_same survey.image.program survey.live Sometimes condition is.right asked) (decides_renamed stays Sometimes condition named)
      none
  none_decides Finally condition seen asked named done none = none_finally condition asked named done none

  module _ (when : When) (condition : List Node) (asked : HasAsked survey.live.asked (condition_asks condition))
      (named : NamedStay stays (condition_names condition))
      (found : Option ℕ) (first : IsFirstPassing (at survey) (count survey) (decides when condition) found) where
    pub decided_within : (number : ℕ) → found ≡ Some number → number < count survey
    decided_within number is_some =
        (subst (λ (o : Option ℕ). IsFirstPassing (at survey) (count survey) (decides when condition) o) is_some first).0

    -- the verdict of the first state that decides
    pub met_is : (number : ℕ) (order : Vec Op Global) (verdict : Verdict) → found ≡ Some number →
        ((s : MachineState) → at survey number ≡ Some s → IsOrderTo survey.image survey.sight survey.live survey.groups s order.items) →
        verdict ≡ found_verdict when order → IsForgottenStateVerdict survey when condition verdict
    met_is number order verdict is_some leads verdict_is =
        let here = subst (λ (o : Option ℕ). IsFirstPassing (at survey) (count survey) (decides when condition) o) is_some first in
        let meant = is.nodes.meant number here.0 in
        let to = leads meant.0 meant.1 in
        let met : IsMetVerdict survey when condition number verdict = record {
          state = meant.0;
          there = meant.1;
          order = order;
          leads = to;
          met = order_passes survey.image survey.sight survey.live survey.groups meant.0 (decides when condition) order.items to
              (decides_same survey.image.program survey.live when condition is.right asked) (decides_renamed stays when condition named)
              (here.1 meant.0 meant.1);
          verdict_is = verdict_is;
        } in
        record {
          number = Some number;
          first = here;
          says = met;
          none = λ none. absurd (cc);
        }

    -- the verdict where none does
    pub absent_is : (complete : Bool) (verdict : Verdict) → IsSeen survey.sight when condition → found ≡ None →
        complete ≡ survey.complete → verdict ≡ absent_verdict when complete → IsForgottenStateVerdict survey when condition verdict
    absent_is complete verdict seen is_none complete_is verdict_is =
        let none = subst (λ (o : Option ℕ). IsFirstPassing (at survey) (count survey) (decides when condition) o) is_none first in
        record {
          number = None;
          first = none;
          says = verdict_is ∙ ap (absent_verdict when) complete_is;
          none = λ no whole. none_decides when condition seen asked named whole none;
        }
