-- What the search for outcomes of which items are shown answers where harts forget the registers
-- that don't matter, and all harts are told apart.
use Rattle.std.specs.Prelude.{◌≡◌, ℕ, ◌<◌, Bool, true, List, [], ◌∷◌, Some, slice_get}
use Rattle.std.specs.Prelude.{string_bytes}
use Rattle.asked_registers.specs.Asked.{items_ask}
use Rattle.cheri_model.specs.declared.operation.Op.{Op}
use Rattle.cheri_model.specs.runs.Image.{ImageParts}
use Rattle.cheri_model.specs.runs.Machine.{MachineState, opening_state}
use Rattle.cheri_model.specs.runs.Replay.{is_legal, replayed_state}
use Rattle.conditions.specs.Items.{ItemList}
use Rattle.conditions.specs.declared.parts.Shown.{Shown}
use Rattle.explore_sights.specs.declared.sights.Sight.TheVariants.{NoStep}
use Rattle.forgotten_loops.specs.ForgottenLoops.{IsForgottenEndless}
use Rattle.forgotten_states.specs.Sought.{IsOrderTo}
use Rattle.forgotten_states.specs.Surveys.{IsSurvey, IsSurveyOf, SurveyParts, at, count}
use Rattle.live_registers.specs.LiveSets.{LiveSets}
use Rattle.order_texts.specs.OrderTexts.{order_text}
use Rattle.outcomes.specs.Items.{values_of}
use Rattle.outcomes.specs.Outcomes.{AreOutcomesBelow, is_final}
use Rattle.outcomes.specs.Rows.{AreRows, values_at}
use Rattle.outcomes.specs.declared.rows.Row.{Row}
use Rattle.outcome_texts.specs.Answers.{IsShownAnswer}
use Rattle.outcome_texts.specs.ReducedTexts.{reduced_shown}
use Rattle.outcome_texts.specs.declared.told.ShownRow.{ShownRow}
use Rattle.reductions.specs.Reductions.{MayReduce}
use Rattle.reductions.specs.declared.reduction.Keeps.{Keeps}
use Rattle.schedules.specs.Schedules.{AreAllowed}
use Rattle.shown_states.specs.Endings.{ending_of}
use Rattle.shown_states.specs.declared.form.Ending.{Ending}
use Rattle.shown_states.specs.declared.form.Format.{Format}
use Rattle.state_loops.specs.declared.endless.Endless.{Endless}
use Rattle.states.specs.Searches.{SearchParts}

-- ---- rows

-- A row with the order to the first node that has it: the machine takes this order, no hart runs in
-- the state that it leaves, in which nothing is forgotten, and there items hold the row's values.
pub record IsRowTold (survey : SurveyParts) (items : List Shown) (row : Row) (told : ShownRow)
    : Type 0 where
  pub node : MachineState
  pub there : at survey row.first ≡ Some node
  pub order : List Op
  pub leads : IsOrderTo survey.image survey.sight survey.live survey.groups node order
  pub final : is_final (replayed_state survey.image order) ≡ true
  pub values : told.values.items ≡ values_of items (replayed_state survey.image order)
  pub text_is : string_bytes told.order ≡ order_text order

abbrev pub AreRowsTold : SurveyParts → List Shown → List Row → List ShownRow → Type 0
AreRowsTold survey items [] [] = Unit {0}
AreRowsTold survey items [] (t ∷ ts) = ⊥
AreRowsTold survey items (r ∷ rs) [] = ⊥
AreRowsTold survey items (r ∷ rs) (t ∷ ts) =
    IsRowTold survey items r t × AreRowsTold survey items rs ts

-- each row is that of a node in which no hart runs
abbrev pub AreFinalRows : SurveyParts → List Row → Type 0
AreFinalRows survey rows = (k : ℕ) (row : Row) → slice_get rows k ≡ Some row →
    (row.first < count survey)
    × ((s : MachineState) → at survey row.first ≡ Some s → is_final s ≡ true)

-- of the state that any legal order of steps leaves, if no hart runs in it, items hold the values
-- of one of the rows
abbrev pub AreAllShown : ImageParts → List Shown → List ShownRow → Type 0
AreAllShown image items rows = (order : List Op) → AreAllowed [] order →
    is_legal image (opening_state image) order ≡ true →
    is_final (replayed_state image order) ≡ true →
    (k : ℕ) × (row : ShownRow) × (slice_get rows k ≡ Some row)
    × (row.values.items ≡ values_of items (replayed_state image order))

-- ---- answers

-- What a search found, where these registers matter, and harts of one of these groups may change
-- places: nodes, whether runs go on for ever, and the nodes in which no hart runs.
pub record IsSurveyed (search : SearchParts) (live : LiveSets) (groups : List ℕ)
    (survey : SurveyParts) (endless : Endless) (numbers : List ℕ) : Type 0 where
  pub survey_is : IsSurveyOf search NoStep live groups survey
  pub nodes : IsSurvey survey
  pub forever : IsForgottenEndless survey endless
  pub outcomes : AreOutcomesBelow (at survey) (count survey) numbers

-- The answer of a search where these registers matter, and these are the groups: each distinct row
-- of what items hold in nodes in which no hart runs, in the order of the first nodes that have
-- them; whether runs can go on for ever; and that registers were forgotten. Where the nodes are
-- all, each final state has a row.
pub record IsReducedShownAnswer (search : SearchParts) (items : ItemList) (live : LiveSets)
    (groups : List ℕ) (format : Format) (text : List ℕ) (ending : Ending) : Type 0 where
  pub survey : SurveyParts
  pub endless : Endless
  pub numbers : List ℕ
  pub surveyed : IsSurveyed search live groups survey endless numbers
  pub rows : List Row
  pub distinct : AreRows (values_at (at survey) items.shown) numbers rows
  pub shown_rows : List ShownRow
  pub told : AreRowsTold survey items.shown rows shown_rows
  pub all : survey.complete ≡ true → AreAllShown survey.image items.shown shown_rows
  pub text_is : text ≡ reduced_shown format items.names survey.complete survey.image
      (count survey) endless shown_rows
  pub ending_is : ending ≡ ending_of survey.complete

-- what is kept of the states: all harts, and all registers or those that matter
abbrev pub shown_keeps : Bool → Keeps
shown_keeps keeps_registers = record { registers = keeps_registers; harts = true }

-- The answer of a search that is told to keep all registers, or not: by all, or by those that
-- matter. It tells all harts apart, so that no hart is of a group.
abbrev pub IsShownStatesAnswer : Bool → SearchParts → ItemList → Format → List ℕ → Ending → Type 0
IsShownStatesAnswer keeps_registers search items format text ending =
    MayReduce (shown_keeps keeps_registers) search (items_ask items.shown) (λ hart. true)
    (IsShownAnswer search items format text ending)
    (λ live groups. IsReducedShownAnswer search items live groups format text ending)
