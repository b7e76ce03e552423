-- What is answered, in JSON.
use Rattle.std.specs.Prelude.{◌≡◌, ℕ, ◌⊎◌, false, List, Result, Ok, Err}
use Rattle.cheri_model.specs.declared.operation.Op.{Op}
use Rattle.conditions.specs.Items.{ItemList}
use Rattle.conditions.specs.declared.parts.Node.{Node}
use Rattle.explore_properties.specs.Properties.{PropertyParts}
use Rattle.forgotten_checks.specs.StateChecks.{IsCheckStatesAnswer}
use Rattle.forgotten_outcomes.specs.ShownStates.{IsShownStatesAnswer}
use Rattle.found_texts.specs.Reduced.{IsStateAnswer}
use Rattle.outcome_texts.specs.Answers.{IsListedAnswer}
use Rattle.reductions.specs.declared.reduction.Keeps.{Keeps}
use Rattle.shown_states.specs.declared.form.Ending.{Ending}
use Rattle.shown_states.specs.declared.form.Format.TheVariants.{Json}
use Rattle.sinks.specs.Sinks.{Memory}
use Rattle.states.specs.Searches.{SearchParts}
use Rattle.page_searches.specs.Asked.{check_asked, find_asked, rows_asked, search_asked}
use Rattle.page_searches.specs.declared.fault.SearchFault.{SearchFault}
use Rattle.page_searches.specs.declared.fault.SearchFault.TheVariants.{NoMemory}

-- ---- a text that answers what is asked: what doesn't matter to it may be left out

-- neither all registers are kept, nor which of equal harts stands where
abbrev pub keeps_nothing : Keeps
keeps_nothing = record { registers = false; harts = false }

-- each outcome, with an order that leads to it
abbrev pub AreOutcomes : SearchParts → List ℕ → Type 0
AreOutcomes search text = (ending : Ending) × IsListedAnswer search Json text ending

-- each row of what the items hold in outcomes
abbrev pub AreRows : SearchParts × ItemList → List ℕ → Type 0
AreRows asked text = (ending : Ending) × IsShownStatesAnswer false asked.0 asked.1 Json text ending

-- a state in which the condition holds, or that there is none
abbrev pub IsFound : SearchParts × List Node → List ℕ → Type 0
IsFound asked text =
    (orders : List (List Op)) × (ending : Ending)
    × IsStateAnswer keeps_nothing asked.0 asked.1 Json orders text ending

-- the verdict on each property
abbrev pub AreVerdicts : SearchParts × List PropertyParts → List ℕ → Type 0
AreVerdicts asked text =
    (orders : List (List Op)) × (ending : Ending)
    × IsCheckStatesAnswer keeps_nothing asked.0 asked.1 Json orders text ending

-- ---- the answer: a text, or the fault of what should ask

abbrev pub Answer : Type 0
Answer = Result (List ℕ) SearchFault

abbrev pub IsAnswer : {X : Type 0} → (X → List ℕ → Type 0) → Result X SearchFault → Answer → Type 0
IsAnswer answers (Ok asked) (Ok text) = answers asked text
IsAnswer answers (Ok asked) (Err fault) = ⊥
IsAnswer answers (Err refused) (Ok text) = ⊥
IsAnswer answers (Err refused) (Err fault) = fault ≡ refused

-- `outcomes`, and with items to be shown
abbrev pub IsOutcomesAnswer : List ℕ → ℕ → Answer → Type 0
IsOutcomesAnswer listing limit answer = IsAnswer AreOutcomes (search_asked listing limit) answer

abbrev pub IsRowsAnswer : List ℕ → List ℕ → ℕ → Answer → Type 0
IsRowsAnswer listing items limit answer =
    IsAnswer AreRows (rows_asked listing items limit) answer

-- `find`
abbrev pub IsFoundAnswer : List ℕ → List ℕ → ℕ → Answer → Type 0
IsFoundAnswer listing condition limit answer =
    IsAnswer IsFound (find_asked listing condition limit) answer

-- `check`
abbrev pub IsCheckedAnswer : List ℕ → ℕ → Answer → Type 0
IsCheckedAnswer listing limit answer = IsAnswer AreVerdicts (check_asked listing limit) answer

-- ---- what is given back: the answer in memory; or memory ran out, which it may at any time

abbrev pub answer_of : Result Memory SearchFault → Answer
answer_of (Ok said) = Ok said.bytes
answer_of (Err fault) = Err fault

abbrev pub Gives : Result Memory SearchFault → (Answer → Type 0) → Type 0
Gives (Ok said) is = is (Ok said.bytes)
Gives (Err fault) is = (fault ≡ NoMemory) ⊎ is (Err fault)
