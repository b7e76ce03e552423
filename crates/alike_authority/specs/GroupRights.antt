-- What harts hold that stand for one another, and what is asked of a survey that tells of it.
use Rattle.std.specs.Prelude.{◌≡◌, ℕ, zero, suc, true, if◌then◌else◌, List, [], ◌++◌}
use Rattle.authorities.specs.Authorities.{hart_values}
use Rattle.cap_model.specs.values.CapValue.{CapValue}
use Rattle.cheri_model.specs.runs.Machine.{MachineState}
use Rattle.forgotten_states.specs.Surveys.{SurveyParts}
use Rattle.hart_exchanges.specs.Exchanges.{AreGroupsEqual, stands_for}
use Rattle.live_registers.specs.RegisterSets.{has}

-- what is held by the harts that stand for a hart, of so many harts
unfoldable pub group_values : List ℕ → ℕ → ℕ → MachineState → List CapValue
group_values groups hart zero state = []
group_values groups hart (suc number) state =
    if stands_for groups hart number
    then group_values groups hart number state ++ hart_values number state
    else group_values groups hart number state

-- a survey with these groups, of harts with equal images, in which no register is forgotten
pub record IsWhole (survey : SurveyParts) (groups : List ℕ) : Type 0 where
  pub groups_are : survey.groups ≡ groups
  pub equal : AreGroupsEqual survey.image.harts groups
  pub asked : (reg : ℕ) → has survey.live.asked reg ≡ true
