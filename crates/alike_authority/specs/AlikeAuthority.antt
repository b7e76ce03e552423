-- What the search for the greatest rights answers where equal harts are not told apart.
use Rattle.std.specs.Prelude.{◌≡◌, ℕ, Bool, true, false, List, [], ◌∷◌, length, slice_get}
use Rattle.std.specs.Prelude.{Some, Vec}
use Rattle.std.specs.Global.{Global}
use Rattle.authorities.specs.Authorities.{AreGreatest, hart_values, memory_values}
use Rattle.authorities.specs.declared.rights.Authority.{Authority}
use Rattle.authority_texts.specs.Answers.{AreBounds, IsAuthorityAnswer}
use Rattle.authority_texts.specs.declared.told.Told.{Told}
use Rattle.cap_model.specs.values.CapValue.{CapValue}
use Rattle.cheri_model.specs.declared.operation.Op.{Op}
use Rattle.cheri_model.specs.runs.Machine.{MachineState, opening_state}
use Rattle.cheri_model.specs.runs.Replay.{is_legal, replayed_state}
use Rattle.explore_rights.specs.Held.{Holds}
use Rattle.explore_sights.specs.declared.sights.Sight.TheVariants as sights
use Rattle.forgotten_states.specs.Sought.{IsOrderTo}
use Rattle.forgotten_states.specs.Surveys.{IsSurvey, IsSurveyOf, SurveyParts, at, count}
use Rattle.hart_exchanges.specs.Exchanges.{exchanged_order, stands_for}
use Rattle.hart_groups.specs.HartGroups.{any_grouped}
use Rattle.live_registers.specs.LiveSets.{LiveSets}
use Rattle.reductions.specs.Reductions.{ByLeavingOut, MayReduce, left_out_of}
use Rattle.schedules.specs.Schedules.{AreAllowed}
use Rattle.shown_states.specs.Endings.{ending_of}
use Rattle.shown_states.specs.declared.form.Ending.{Ending}
use Rattle.shown_states.specs.declared.form.Format.{Format}
use Rattle.states.specs.Searches.{SearchParts}
use Rattle.alike_authority.specs.AlikeAuthorityTexts.{HeadParts, alike_said, parts_of}
use Rattle.alike_authority.specs.Grouped.{keeps_of}
use Rattle.alike_authority.specs.GroupRights.{group_values}

-- ---- one entry

-- Rights with an order: the machine takes it, and in the state that it leaves just these are held.
-- It is made of the order to the first node in which they are.
pub record IsTold (survey : SurveyParts) (values : MachineState → List CapValue)
    (IsMadeOf : List Op → List Op → Type 0) (authority : Authority) (told : Told) : Type 0 where
  pub rights : told.rights ≡ authority.rights
  pub node : MachineState
  pub there : at survey authority.first ≡ Some node
  pub witness : List Op
  pub leads : IsOrderTo survey.image survey.sight survey.live survey.groups node witness
  pub made : IsMadeOf witness told.order.items
  pub allowed : AreAllowed [] told.order.items
  pub legal : is_legal survey.image (opening_state survey.image) told.order.items ≡ true
  pub held : Holds (values (replayed_state survey.image told.order.items)) told.rights

-- of a hart: that order with the hart and one that stands for it in each other's places
abbrev pub IsHartTold : SurveyParts → ℕ → Authority → Told → Type 0
IsHartTold survey hart = IsTold survey (hart_values hart) (λ witness order. (other : ℕ)
    × (stands_for survey.groups hart other ≡ true)
    × (order ≡ exchanged_order other hart witness))

-- of memory: the order itself
abbrev pub IsMemoryTold : SurveyParts → Authority → Told → Type 0
IsMemoryTold survey = IsTold survey memory_values (λ witness order. order ≡ witness)

-- ---- one list

abbrev pub AreTold : (Authority → Told → Type 0) → List Authority → List Told → Type 0
AreTold IsOne [] [] = Unit {0}
AreTold IsOne [] (t ∷ ts) = ⊥
AreTold IsOne (a ∷ xs) [] = ⊥
AreTold IsOne (a ∷ xs) (t ∷ ts) = IsOne a t × AreTold IsOne xs ts

-- The greatest of what these hold over the nodes that were kept, each told; where the nodes are
-- all, no order gives a holder more.
pub record IsRightsList (survey : SurveyParts) (all own : MachineState → List CapValue)
    (IsOne : Authority → Told → Type 0) (told : List Told) : Type 0 where
  pub list : List Authority
  pub greatest : AreGreatest (at survey) all list
  pub told_are : AreTold IsOne list told
  pub bounds : survey.complete ≡ true → AreBounds survey.image [] own list

-- of a hart: what all harts hold that stand for it
abbrev pub IsHartList : SurveyParts → ℕ → List Told → Type 0
IsHartList survey hart =
    IsRightsList survey (group_values survey.groups hart (length survey.image.harts))
    (hart_values hart) (IsHartTold survey hart)

abbrev pub IsMemoryList : SurveyParts → List Told → Type 0
IsMemoryList survey = IsRightsList survey memory_values memory_values (IsMemoryTold survey)

-- ---- the answer

-- what an answer says of a survey besides rights
abbrev pub head_of : LiveSets → List ℕ → SurveyParts → HeadParts
head_of live groups survey =
    parts_of (left_out_of live groups) survey.complete survey.image (count survey)

-- The answer where harts of these groups may change places, and all registers matter: a list for
-- each hart of the image, and one for memory.
pub record IsAlikeAnswer (search : SearchParts) (live : LiveSets) (groups : List ℕ)
    (format : Format) (text : List ℕ) (ending : Ending) : Type 0 where
  pub survey : SurveyParts
  pub survey_is : IsSurveyOf search sights.Rights live groups survey
  pub nodes : IsSurvey survey
  pub harts : List (Vec Told Global)
  pub memory : List Told
  pub one_each : length harts ≡ length survey.image.harts
  pub of_hart : (hart : ℕ) (told : Vec Told Global) → slice_get harts hart ≡ Some told →
      IsHartList survey hart told.items
  pub of_memory : IsMemoryList survey memory
  pub text_is : text ≡ alike_said format (head_of live groups survey) harts memory
  pub ending_is : ending ≡ ending_of survey.complete

-- The answer of a search that is told to keep harts, or not: without groups it is that of all harts
-- told apart.
abbrev pub IsAlikeAuthority : Bool → SearchParts → Format → List ℕ → Ending → Type 0
IsAlikeAuthority keeps_harts search format text ending =
    MayReduce (keeps_of keeps_harts) search (λ reg. false) (λ hart. false)
    (IsAuthorityAnswer search format text ending)
    (λ live groups. ByLeavingOut (any_grouped groups) (IsAuthorityAnswer search format text ending)
    (IsAlikeAnswer search live groups format text ending))
