-- What the search for outcomes answers up to which hart of a group stands where.
use Rattle.std.specs.Prelude.{◌≡◌, ℕ, ◌<◌, Bool, true, false, List, [], ◌∷◌, Some, slice_get, Vec}
use Rattle.std.specs.Global.{Global}
use Rattle.asked_registers.specs.Asked.{items_ask}
use Rattle.cheri_model.specs.declared.operation.Op.{Op}
use Rattle.cheri_model.specs.runs.Image.{ImageParts}
use Rattle.cheri_model.specs.runs.Machine.{MachineState, opening_state}
use Rattle.cheri_model.specs.runs.Replay.{is_legal, replayed_state}
use Rattle.conditions.specs.Items.{ItemList}
use Rattle.explore_sights.specs.declared.sights.Sight.TheVariants.{NoStep}
use Rattle.forgotten_outcomes.specs.ShownStates.{AreAllShown, AreRowsTold, IsShownStatesAnswer}
use Rattle.forgotten_states.specs.Sought.{IsOrderTo}
use Rattle.forgotten_states.specs.Surveys.{IsSurvey, IsSurveyOf, SurveyParts, at, count}
use Rattle.hart_groups.specs.HartGroups.{any_grouped}
use Rattle.hart_regrouping.specs.Regrouping.{AreAlike}
use Rattle.live_registers.specs.LiveSets.{LiveSets}
use Rattle.named_items.specs.NamedItems.{items_name}
use Rattle.outcomes.specs.Outcomes.{AreOutcomesBelow, is_final}
use Rattle.outcomes.specs.Rows.{AreRows, values_at}
use Rattle.outcomes.specs.declared.rows.Row.{Row}
use Rattle.outcome_texts.specs.Answers.{IsListedAnswer}
use Rattle.outcome_texts.specs.declared.told.ShownRow.{ShownRow}
use Rattle.reductions.specs.Reductions.{ByLeavingOut, MayReduce, left_out_of}
use Rattle.reductions.specs.declared.reduction.Keeps.{Keeps}
use Rattle.schedules.specs.Schedules.{AreAllowed}
use Rattle.shown_states.specs.Endings.{ending_of}
use Rattle.shown_states.specs.declared.form.Ending.{Ending}
use Rattle.shown_states.specs.declared.form.Format.{Format}
use Rattle.states.specs.Searches.{SearchParts}
use Rattle.alike_outcomes.specs.AlikeTexts.{alike_listed, alike_shown}

-- What a search found, where these registers matter, and harts of one of these groups may change
-- places: nodes, and those in which no hart runs.
pub record IsAlikeSurvey (search : SearchParts) (live : LiveSets) (groups : List ℕ)
    (survey : SurveyParts) (numbers : List ℕ) : Type 0 where
  pub survey_is : IsSurveyOf search NoStep live groups survey
  pub nodes : IsSurvey survey
  pub outcomes : AreOutcomesBelow (at survey) (count survey) numbers

-- ---- outcomes as states

-- The order to a node: the machine takes it, and no hart runs in the state that it leaves, in which
-- nothing is forgotten and each hart has its number.
pub record IsLeftBy (survey : SurveyParts) (number : ℕ) (order : List Op) : Type 0 where
  pub node : MachineState
  pub there : at survey number ≡ Some node
  pub leads : IsOrderTo survey.image survey.sight survey.live survey.groups node order
  pub final : is_final (replayed_state survey.image order) ≡ true

abbrev pub AreLeftBy : SurveyParts → List ℕ → List (Vec Op Global) → Type 0
AreLeftBy survey [] [] = Unit {0}
AreLeftBy survey [] (o ∷ os) = ⊥
AreLeftBy survey (n ∷ ns) [] = ⊥
AreLeftBy survey (n ∷ ns) (o ∷ os) = IsLeftBy survey n o.items × AreLeftBy survey ns os

-- the numbers are those of nodes in which no hart runs
abbrev pub AreFinal : SurveyParts → List ℕ → Type 0
AreFinal survey numbers = (k n : ℕ) → slice_get numbers k ≡ Some n →
    (n < count survey) × ((s : MachineState) → at survey n ≡ Some s → is_final s ≡ true)

-- the machine takes each of these orders
pub record IsTaken (image : ImageParts) (order : List Op) : Type 0 where
  pub allowed : AreAllowed [] order
  pub legal : is_legal image (opening_state image) order ≡ true

abbrev pub AreTaken : ImageParts → List (Vec Op Global) → Type 0
AreTaken image orders = (k : ℕ) (order : Vec Op Global) → slice_get orders k ≡ Some order →
    IsTaken image order.items

-- The state that any legal order of steps leaves, if no hart runs in it, is one of those that are
-- listed, but for which hart of a group stands where: all else is the same.
abbrev pub AreAllAlike : ImageParts → List ℕ → List (Vec Op Global) → Type 0
AreAllAlike image groups orders = (order : List Op) → AreAllowed [] order →
    is_legal image (opening_state image) order ≡ true →
    is_final (replayed_state image order) ≡ true →
    (k : ℕ) × (listed : Vec Op Global) × (slice_get orders k ≡ Some listed)
    × AreAlike groups (replayed_state image order) (replayed_state image listed.items)

-- The answer where harts of these groups may change places, and all registers matter: of the nodes in
-- which no hart runs each with the order that leads to it, in their order, and the state that the
-- order leaves. Where the nodes are all, each final state is one of these but for the names of harts.
pub record IsAlikeListedAnswer (search : SearchParts) (live : LiveSets) (groups : List ℕ)
    (format : Format) (text : List ℕ) (ending : Ending) : Type 0 where
  pub survey : SurveyParts
  pub numbers : List ℕ
  pub surveyed : IsAlikeSurvey search live groups survey numbers
  pub orders : List (Vec Op Global)
  pub told : AreLeftBy survey numbers orders
  pub all : survey.complete ≡ true → AreAllAlike survey.image groups orders
  pub text_is : text ≡ alike_listed format (left_out_of live groups) survey.complete survey.image
      (count survey) orders
  pub ending_is : ending ≡ ending_of survey.complete

-- what is kept where whole states are listed: all registers, and harts as one is told
abbrev pub whole_keeps : Bool → Keeps
whole_keeps keeps_harts = record { registers = true; harts = keeps_harts }

-- The answer of a search that is told to keep harts, or not: without groups it is the whole list.
abbrev pub IsAlikeListed : Bool → SearchParts → Format → List ℕ → Ending → Type 0
IsAlikeListed keeps_harts search format text ending =
    MayReduce (whole_keeps keeps_harts) search (λ reg. false) (λ hart. false)
    (IsListedAnswer search format text ending)
    (λ live groups. ByLeavingOut (any_grouped groups) (IsListedAnswer search format text ending)
    (IsAlikeListedAnswer search live groups format text ending))

-- ---- outcomes as rows of values

-- The answer where items are shown: each distinct row of what they hold in nodes in which no hart
-- runs, in the order of the first nodes that have them. Where the nodes are all, each final state
-- has a row.
pub record IsAlikeShownAnswer (search : SearchParts) (items : ItemList) (live : LiveSets)
    (groups : List ℕ) (format : Format) (text : List ℕ) (ending : Ending) : Type 0 where
  pub survey : SurveyParts
  pub numbers : List ℕ
  pub surveyed : IsAlikeSurvey search live groups survey numbers
  pub rows : List Row
  pub distinct : AreRows (values_at (at survey) items.shown) numbers rows
  pub shown_rows : List ShownRow
  pub told : AreRowsTold survey items.shown rows shown_rows
  pub all : survey.complete ≡ true → AreAllShown survey.image items.shown shown_rows
  pub text_is : text ≡ alike_shown format (left_out_of live groups) survey.complete survey.image
      (count survey) items.names shown_rows
  pub ending_is : ending ≡ ending_of survey.complete

-- The answer of a search that is told what to keep. The items ask for their registers, and name
-- their harts. Without groups it is that of all harts told apart.
abbrev pub IsAlikeShown : Keeps → SearchParts → ItemList → Format → List ℕ → Ending → Type 0
IsAlikeShown keeps search items format text ending =
    MayReduce keeps search (items_ask items.shown) (items_name items.shown)
    (IsShownStatesAnswer keeps.registers search items format text ending)
    (λ live groups. ByLeavingOut (any_grouped groups)
    (IsShownStatesAnswer keeps.registers search items format text ending)
    (IsAlikeShownAnswer search items live groups format text ending))
