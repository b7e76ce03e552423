-- A whole search that can be asked several questions, where harts forget the registers that don't
-- matter to any of them, and harts that none tells apart stand in order.
use Rattle.std.specs.Prelude.{◌≡◌, ℕ, ◌≤◌, List, [], ◌∷◌, length, slice_get, Option, Some, None}
use Rattle.std.specs.Prelude.{Bool}
use Rattle.cheri_model.specs.declared.operation.Op.{Op}
use Rattle.cheri_model.specs.runs.Image.{ImageParts}
use Rattle.cheri_model.specs.runs.Machine.{MachineState}
use Rattle.explore_sights.specs.declared.sights.Sight.{Sight}
use Rattle.explore_sights.specs.Sights.{hides}
use Rattle.forgotten_states.specs.Graphs.{ForgottenParts, state_in}
use Rattle.forgotten_states.specs.Nodes.{AreNodes}
use Rattle.forgotten_turns.specs.ForgottenTurns.{HidesForgotten}
use Rattle.graph_search.specs.declared.edges.Edge.{Edge}
use Rattle.graph_search.specs.Searches.{IsExplored}
use Rattle.graph_search.specs.Trees.{Found, edge_at}
use Rattle.graph_search.specs.Walks.{IsWitness}
use Rattle.hart_order.specs.GroupedTurns.{grouped_start, grouped_turn, machine_labels}
use Rattle.live_registers.specs.LiveSets.{IsRight, LiveSets}
use Rattle.schedules.specs.Schedules.{AreLabelsOf}
use Rattle.states.specs.Searches.{SearchParts}

-- the image, what is seen of a step, the registers that matter, and the group of each hart; the
-- limit of the search, the states that it kept, the edges by which they were found, and whether
-- these are all
pub record SurveyParts : Type 0 where
  pub image : ImageParts
  pub sight : Sight
  pub live : LiveSets
  pub groups : List ℕ
  pub limit : ℕ
  pub states : List MachineState
  pub edges : List Edge
  pub complete : Bool

-- how many states there are; the state with a number, and the edge by which it was found
abbrev pub count : SurveyParts → ℕ
count survey = length survey.states

abbrev pub at : SurveyParts → ℕ → Option MachineState
at survey = slice_get survey.states

abbrev pub edge : SurveyParts → ℕ → Edge
edge survey = edge_at survey.edges

-- the registers that matter are right for the program, what is seen is nothing that is forgotten,
-- and the states are the first ones that such turns lead to, or all
pub record IsSurvey (survey : SurveyParts) : Type 0 where
  pub right : IsRight survey.image.program survey.live
  pub hidden : HidesForgotten survey.live (hides survey.sight)
  pub few : length survey.image.harts ≤ 8
  pub nodes :
      IsExplored (grouped_turn survey.image survey.sight survey.live survey.groups)
      (grouped_start survey.image survey.sight survey.live survey.groups) survey.limit
      (at survey) (edge survey) (count survey) survey.complete

-- a survey of what is searched, for questions that see this, to which these registers matter, and
-- for which harts of these groups may change places
pub record IsSurveyOf (search : SearchParts) (sees : Sight) (live : LiveSets) (groups : List ℕ)
    (survey : SurveyParts) : Type 0 where
  pub image_is : survey.image ≡ search.image
  pub sight_is : survey.sight ≡ sees
  pub live_is : survey.live ≡ live
  pub groups_are : survey.groups ≡ groups
  pub limit_is : survey.limit ≡ search.limit

-- the states that rows of numbers mean
abbrev pub before : Option MachineState → List MachineState → List MachineState
before None states = states
before (Some state) states = state ∷ states

abbrev pub states_of : (List ℕ → Option MachineState) → List (List ℕ) → List MachineState
states_of meaning [] = []
states_of meaning (row ∷ rows) = before (meaning row) (states_of meaning rows)

-- the survey of nodes that were kept
abbrev pub survey_of : ImageParts → Sight → LiveSets → List ℕ → ForgottenParts → Found → ℕ
    → SurveyParts
survey_of image sight live groups graph found limit =
    record {
      image = image;
      sight = sight;
      live = live;
      groups = groups;
      limit = limit;
      states = states_of (state_in graph) found.nodes;
      edges = found.edges;
      complete = found.complete;
    }

-- what is kept of a survey: the nodes of turns to which these registers matter
pub record IsKeptSurvey (image : ImageParts) (sight : Sight) (live : LiveSets) (groups : List ℕ)
    (graph : ForgottenParts) (found : Found) (limit : ℕ) : Type 0 where
  pub right : IsRight image.program live
  pub hidden : HidesForgotten live (hides sight)
  pub are : AreNodes image sight live groups graph found limit

-- the operations with which the turns of a state's witness begin, by the numbers that the harts
-- have in the machine
pub record AreTurnsTo (image : ImageParts) (sight : Sight) (live : LiveSets) (groups : List ℕ)
    (state : MachineState) (ops : List Op) : Type 0 where
  pub labels : List ℕ
  pub least :
      IsWitness (grouped_turn image sight live groups) (grouped_start image sight live groups)
      state labels
  pub operations : AreLabelsOf image [] (machine_labels image sight live groups labels) ops
