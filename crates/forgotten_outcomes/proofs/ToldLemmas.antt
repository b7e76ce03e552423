-- Rows with their orders, one more at a time.
use Rattle.std.proofs.Common.{◌≡◌, ℕ, zero, suc, ◌+◌, ◌<◌, List, [], ◌∷◌, ◌++◌, length, take, refl, sym, ap, ◌∙◌, subst}
use Rattle.std.specs.Prelude.{Some, true, slice_get, slice_index_or, string_bytes}
use Rattle.std.proofs.lemmas.List.{take_more}
use Rattle.std.proofs.lemmas.Option.{none-some, same_Some, slice_get-get_or}
use Rattle.asked_registers.specs.Asked.{HasAsked, items_ask}
use Rattle.cheri_model.specs.declared.operation.Op.{Op}
use Rattle.cheri_model.specs.runs.Machine.{MachineState}
use Rattle.cheri_model.specs.runs.Replay.{replayed_state}
use Rattle.conditions.specs.declared.parts.Shown.{Shown}
use Rattle.forgotten_runs.specs.ForgottenRuns.{forgotten_state}
use Rattle.forgotten_states.specs.Sought.{IsOrderTo}
use Rattle.forgotten_states.specs.Surveys.{IsSurvey, SurveyParts, at, count}
use Rattle.hart_order.specs.GroupedTurns.{keeps_number}
use Rattle.hart_symmetry.specs.Named.{NamedStay}
use Rattle.named_items.specs.NamedItems.{items_name}
use Rattle.order_texts.specs.OrderTexts.{order_text}
use Rattle.outcomes.specs.Items.{values_of}
use Rattle.outcomes.specs.Outcomes.{is_final}
use Rattle.outcomes.specs.Rows.{values_at}
use Rattle.outcomes.specs.declared.rows.Row.{Row}
use Rattle.outcome_texts.specs.declared.told.ShownRow.{ShownRow}
use Rattle.shown_states.specs.Meant.{state_meant}
use Rattle.forgotten_outcomes.specs.ShownStates.{AreFinalRows, AreRowsTold, IsRowTold}
use Rattle.forgotten_outcomes.proofs.ForgetLemmas.{final_renamed, final_same, values_renamed, values_same}

-- what items hold in the node of a number is what they hold in the state that its order leaves, where
-- each hart that they name keeps its number
pub values_left : (survey : SurveyParts) (items : List Shown) (number : ℕ) (node : MachineState) (order : List Op) → IsSurvey survey →
    HasAsked survey.live.asked (items_ask items) → NamedStay (keeps_number survey.groups) (items_name items) →
    at survey number ≡ Some node → IsOrderTo survey.image survey.sight survey.live survey.groups node order →
    values_at (at survey) items number ≡ values_of items (replayed_state survey.image order)
unfolding values_at
values_left survey items number node order is asked named there to =
    let left = replayed_state survey.image order in
    ap (λ (s : MachineState). values_of items s) (ap state_meant there)
    ∙ (values_renamed (keeps_number survey.groups) items named (forgotten_state survey.live left) node to.leads
    ∙ values_same survey.image.program survey.live is.right left items asked)

-- no hart runs in the state that the order leaves, as none does in its node
pub final_left : (survey : SurveyParts) (node : MachineState) (order : List Op) →
    IsOrderTo survey.image survey.sight survey.live survey.groups node order → is_final node ≡ true →
    is_final (replayed_state survey.image order) ≡ true
final_left survey node order to final =
    let left = replayed_state survey.image order in
    sym (final_same survey.live left)
    ∙ (sym (final_renamed (keeps_number survey.groups) (forgotten_state survey.live left) node to.leads) ∙ final)

-- a row is told by the values and the order of its first node
pub row_is : (survey : SurveyParts) (items : List Shown) (row : Row) (told : ShownRow) (order : List Op) → IsSurvey survey →
    HasAsked survey.live.asked (items_ask items) → NamedStay (keeps_number survey.groups) (items_name items) →
    row.first < count survey → ((s : MachineState) → at survey row.first ≡ Some s → is_final s ≡ true) →
    ((s : MachineState) → at survey row.first ≡ Some s →
    IsOrderTo survey.image survey.sight survey.live survey.groups s order) →
    told.values.items ≡ values_at (at survey) items row.first → string_bytes told.order ≡ order_text order →
    IsRowTold survey items row told
row_is survey items row told order is asked named below final leads values_are text_is =
    let meant = is.nodes.meant row.first below in
    let to = leads meant.0 meant.1 in
    record {
      node = meant.0;
      there = meant.1;
      order = order;
      leads = to;
      final = final_left survey meant.0 order to (final meant.0 meant.1);
      values = values_are ∙ values_left survey items row.first meant.0 order is asked (λ hart names. named hart names) meant.1 to;
      text_is = text_is;
    }

-- the text of an order alone
pub text_alone : (none text : List ℕ) (ops order : List Op) → none ≡ [] → ops ≡ order → text ≡ none ++ order_text ops →
    text ≡ order_text order
text_alone none text ops order is same written = rw (written, is, same) refl

-- one more was told
row_more : (survey : SurveyParts) (items : List Shown) (rs : List Row) (ts : List ShownRow) (r : Row) (t : ShownRow) →
    AreRowsTold survey items rs ts → IsRowTold survey items r t → AreRowsTold survey items (rs ++ r ∷ []) (ts ++ t ∷ [])
row_more survey items [] [] r t are is = (is, tt)
row_more survey items [] (y ∷ ts) r t are is = absurd are
row_more survey items (x ∷ rs) [] r t are is = absurd are
row_more survey items (x ∷ rs) (y ∷ ts) r t are is = (are.0, row_more survey items rs ts r t are.1 is)

pub row_step : (survey : SurveyParts) (items : List Shown) (list : List Row) (i : ℕ) (d : Row) (ts new : List ShownRow) (t : ShownRow) →
    i < length list → new ≡ ts ++ t ∷ [] → AreRowsTold survey items (take i list) ts →
    IsRowTold survey items (slice_index_or list i d) t → AreRowsTold survey items (take (i + 1) list) new
row_step survey items list i d ts new t within pushed are is =
    subst (λ (xs : List Row). AreRowsTold survey items xs new) (sym (take_more list i d within))
    (subst (λ (us : List ShownRow). AreRowsTold survey items (take i list ++ slice_index_or list i d ∷ []) us) (sym pushed)
    (row_more survey items (take i list) ts (slice_index_or list i d) t are is))

-- the row of a place is that of a node in which no hart runs
pub final_row : (survey : SurveyParts) (rows : List Row) (i : ℕ) (d : Row) → AreFinalRows survey rows → i < length rows →
    ((slice_index_or rows i d).first < count survey)
    × ((s : MachineState) → at survey (slice_index_or rows i d).first ≡ Some s → is_final s ≡ true)
final_row survey rows i d are within = are i (slice_index_or rows i d) (slice_get-get_or rows i d within)

-- what was told of the row of a place
pub told_at : (survey : SurveyParts) (items : List Shown) (rs : List Row) (ts : List ShownRow) (k : ℕ) (r : Row) →
    AreRowsTold survey items rs ts → slice_get rs k ≡ Some r →
    (t : ShownRow) × (slice_get ts k ≡ Some t) × IsRowTold survey items r t
told_at survey items [] ts k r are there = absurd (none-some r there)
told_at survey items (x ∷ rs) [] k r are there = absurd are
told_at survey items (x ∷ rs) (y ∷ ts) zero r are there =
    (y, refl, subst (λ (one : Row). IsRowTold survey items one y) (same_Some x r there) are.0)
told_at survey items (x ∷ rs) (y ∷ ts) (suc k) r are there = told_at survey items rs ts k r are.1 there
