-- Orders that lead to outcomes, and the states that they leave.
use Rattle.std.proofs.Common.{◌≡◌, ℕ, zero, suc, ◌+◌, ◌<◌, List, [], ◌∷◌, ◌++◌, length, take, refl, sym, ap, ◌∙◌, subst}
use Rattle.std.specs.Prelude.{Some, true, slice_get, slice_index_or, Vec}
use Rattle.std.specs.Global.{Global}
use Rattle.std.proofs.lemmas.List.{take_more}
use Rattle.std.proofs.lemmas.Option.{none-some, same_Some, slice_get-get_or, slice_get_within}
use Rattle.cheri_model.specs.declared.operation.Op.{Op}
use Rattle.cheri_model.specs.runs.Image.{ImageParts}
use Rattle.cheri_model.specs.runs.Machine.{MachineState}
use Rattle.cheri_model.specs.runs.Replay.{replayed_state}
use Rattle.forgotten_outcomes.proofs.ForgetLemmas.{final_renamed, final_same}
use Rattle.forgotten_outcomes.proofs.ToldLemmas.{final_left}
use Rattle.forgotten_runs.specs.ForgottenRuns.{forgotten_state}
use Rattle.forgotten_states.specs.Sought.{IsOrderTo}
use Rattle.forgotten_states.specs.Surveys.{IsSurvey, SurveyParts, at, count}
use Rattle.forgotten_turns.proofs.OrderLemmas.{order_leads}
use Rattle.hart_order.specs.GroupedTurns.{keeps_number, machine_labels}
use Rattle.hart_regrouping.specs.Regrouping.{IsRegrouping}
use Rattle.hart_regrouping.proofs.AlikeLemmas.{regrouped_alike}
use Rattle.hart_regrouping.proofs.RegroupLemmas.{regrouped_reached, regrouped_walk}
use Rattle.live_registers.specs.RegisterSets.{has}
use Rattle.outcomes.proofs.RestLemmas.{final_rests}
use Rattle.outcomes.specs.Outcomes.{AreOutcomesBelow, is_final}
use Rattle.alike_outcomes.specs.AlikeOutcomes.{AreAllAlike, AreFinal, AreLeftBy, AreTaken, IsLeftBy, IsTaken}

-- ---- orders, one more at a time

pub left_is : (survey : SurveyParts) (number : ℕ) (order : List Op) → IsSurvey survey → number < count survey →
    ((s : MachineState) → at survey number ≡ Some s → is_final s ≡ true) →
    ((s : MachineState) → at survey number ≡ Some s →
    IsOrderTo survey.image survey.sight survey.live survey.groups s order) →
    IsLeftBy survey number order
left_is survey number order is below final leads =
    let meant = is.nodes.meant number below in
    let to = leads meant.0 meant.1 in
    record {
      node = meant.0;
      there = meant.1;
      leads = to;
      final = final_left survey meant.0 order to (final meant.0 meant.1);
    }

left_more : (survey : SurveyParts) (ns : List ℕ) (os : List (Vec Op Global)) (n : ℕ) (o : Vec Op Global) → AreLeftBy survey ns os →
    IsLeftBy survey n o.items → AreLeftBy survey (ns ++ n ∷ []) (os ++ o ∷ [])
left_more survey [] [] n o are is = (is, tt)
left_more survey [] (y ∷ os) n o are is = absurd are
left_more survey (x ∷ ns) [] n o are is = absurd are
left_more survey (x ∷ ns) (y ∷ os) n o are is = (are.0, left_more survey ns os n o are.1 is)

pub left_step : (survey : SurveyParts) (list : List ℕ) (i d : ℕ) (os new : List (Vec Op Global)) (o : Vec Op Global) →
    i < length list → new ≡ os ++ o ∷ [] → AreLeftBy survey (take i list) os →
    IsLeftBy survey (slice_index_or list i d) o.items → AreLeftBy survey (take (i + 1) list) new
left_step survey list i d os new o within pushed are is =
    subst (λ (xs : List ℕ). AreLeftBy survey xs new) (sym (take_more list i d within))
    (subst (λ (us : List (Vec Op Global)). AreLeftBy survey (take i list ++ slice_index_or list i d ∷ []) us) (sym pushed)
    (left_more survey (take i list) os (slice_index_or list i d) o are is))

-- the number of a place is that of a node in which no hart runs
pub final_at : (survey : SurveyParts) (list : List ℕ) (i d : ℕ) → AreFinal survey list → i < length list →
    (slice_index_or list i d < count survey)
    × ((s : MachineState) → at survey (slice_index_or list i d) ≡ Some s → is_final s ≡ true)
final_at survey list i d are within = are i (slice_index_or list i d) (slice_get-get_or list i d within)

pub outcomes_final : (survey : SurveyParts) (numbers : List ℕ) → AreOutcomesBelow (at survey) (count survey) numbers →
    AreFinal survey numbers
outcomes_final survey numbers are k n there = are.each k n there

-- the machine takes each of them
pub left_taken : (survey : SurveyParts) (ns : List ℕ) (os : List (Vec Op Global)) → AreLeftBy survey ns os → AreTaken survey.image os
left_taken survey [] [] are k order there = absurd (none-some order there)
left_taken survey [] (o ∷ os) are k order there = absurd are
left_taken survey (n ∷ ns) [] are k order there = absurd are
left_taken survey (n ∷ ns) (o ∷ os) are zero order there =
    subst (λ (v : Vec Op Global). IsTaken survey.image v.items) (same_Some o order there) (record {
      allowed = are.0.leads.allowed;
      legal = are.0.leads.legal;
    })
left_taken survey (n ∷ ns) (o ∷ os) are (suc k) order there = left_taken survey ns os are.1 k order there

pub taken_at : (image : ImageParts) (orders : List (Vec Op Global)) (i : ℕ) (d : Vec Op Global) → AreTaken image orders →
    i < length orders → IsTaken image (slice_index_or orders i d).items
taken_at image orders i d are within = are i (slice_index_or orders i d) (slice_get-get_or orders i d within)

left_at : (survey : SurveyParts) (ns : List ℕ) (os : List (Vec Op Global)) (k n : ℕ) → AreLeftBy survey ns os →
    slice_get ns k ≡ Some n → (o : Vec Op Global) × (slice_get os k ≡ Some o) × IsLeftBy survey n o.items
left_at survey [] os k n are there = absurd (none-some n there)
left_at survey (x ∷ ns) [] k n are there = absurd are
left_at survey (x ∷ ns) (y ∷ os) zero n are there =
    (y, refl, subst (λ (one : ℕ). IsLeftBy survey one y.items) (same_Some x n there) are.0)
left_at survey (x ∷ ns) (y ∷ os) (suc k) n are there = left_at survey ns os k n are.1 there

-- ---- each final state is listed

module _ (survey : SurveyParts) (is : IsSurvey survey) where
  abbrev lost : MachineState → MachineState
  lost s = forgotten_state survey.live s

  abbrev left : List Op → MachineState
  left order = replayed_state survey.image order

  -- the state that the order to a node leaves, and the node
  order_regroups : (node : MachineState) (order : List Op) →
      IsOrderTo survey.image survey.sight survey.live survey.groups node order → IsRegrouping survey.groups (lost (left order)) node
  order_regroups node order to =
      let walk = regrouped_walk survey.groups survey.image survey.sight survey.live to.labels node to.least.0 in
      let leads = order_leads survey.image survey.sight survey.live is.right (λ before after. is.hidden before after)
      (machine_labels survey.image survey.sight survey.live survey.groups to.labels) to.ops walk.0 to.operations walk.1 in
      let same : lost (left order) ≡ walk.0 = ap (λ (ops : List Op). lost (left ops)) to.turns ∙ leads.leads in
      subst (λ (s : MachineState). IsRegrouping survey.groups s node) (sym same) walk.2

  pub all_alike : (numbers : List ℕ) (orders : List (Vec Op Global)) → AreOutcomesBelow (at survey) (count survey) numbers →
      AreLeftBy survey numbers orders → ((reg : ℕ) → reg < 32 → has survey.live.asked reg ≡ true) → survey.complete ≡ true →
      AreAllAlike survey.image survey.groups orders
  all_alike numbers orders outcomes are all done order allowed legal final =
      let s = left order in
      let reached = regrouped_reached survey.groups survey.image survey.sight survey.live is.right
      (λ before after. is.hidden before after) order allowed legal in
      let r = reached.0 in
      let like : IsRegrouping survey.groups (lost s) r =
      subst (λ (t : MachineState). IsRegrouping survey.groups (lost t) r) (final_rests survey.image [] survey.sight s final) reached.2 in
      let found = is.nodes.complete done r reached.1 in
      let below = slice_get_within survey.states found.0 r found.1 in
      let stopped : is_final r ≡ true = final_renamed (keeps_number survey.groups) (lost s) r (like.0, like.1.0) ∙ (final_same survey.live s ∙ final) in
      let one = outcomes.all found.0 r below found.1 stopped in
      let told = left_at survey numbers orders one.0 found.0 are one.1 in
      let order_is = told.2 in
      let met : Some order_is.node ≡ Some r = sym order_is.there ∙ found.1 in
      let same : order_is.node ≡ r = same_Some order_is.node r met in
      let too : IsRegrouping survey.groups (lost (left told.0.items)) r =
      subst (λ (t : MachineState). IsRegrouping survey.groups (lost (left told.0.items)) t) same
      (order_regroups order_is.node told.0.items order_is.leads) in (
        one.0,
        told.0,
        told.1,
        regrouped_alike survey.image.program survey.live is.right (λ reg low. all reg low) survey.groups s (left told.0.items) r like too,
      )
