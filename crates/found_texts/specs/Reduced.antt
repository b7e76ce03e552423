-- What the search for a state answers where harts forget the registers that don't matter, and those
-- that are the same stand in one order.
use Rattle.std.specs.Prelude.{◌≡◌, ℕ, Bool, List, [], ◌∷◌, Option, Some, None}
use Rattle.asked_registers.specs.Asked.{condition_asks}
use Rattle.cheri_model.specs.declared.operation.Op.{Op}
use Rattle.cheri_model.specs.runs.Machine.{MachineState}
use Rattle.conditions.specs.declared.parts.Node.{Node}
use Rattle.conditions.specs.Holding.{holds}
use Rattle.explore_sights.specs.declared.sights.Sight.TheVariants as sights
use Rattle.forgotten_states.specs.Sought.{IsSoughtBy}
use Rattle.hart_symmetry.specs.Named.{condition_names}
use Rattle.live_registers.specs.LiveSets.{LiveSets}
use Rattle.reductions.specs.Reductions.{MayReduce, left_out_of}
use Rattle.reductions.specs.declared.reduction.Keeps.{Keeps}
use Rattle.reductions.specs.declared.reduction.LeftOut.{LeftOut}
use Rattle.shown_states.specs.declared.form.Ending.{Ending}
use Rattle.shown_states.specs.declared.form.Ending.TheVariants.{Done}
use Rattle.shown_states.specs.declared.form.Format.{Format}
use Rattle.states.specs.Searches.{SearchParts}
use Rattle.found_texts.specs.FoundTexts.{absent_ending}
use Rattle.found_texts.specs.Find.{IsFindAnswer, IsShortened}
use Rattle.found_texts.specs.ReducedTexts.{reduced_absent, reduced_found}

-- a text says an order that leads to a state in which the condition holds, the only one, and the
-- state that the machine's own replay of it leaves
pub record IsMet (search : SearchParts) (condition : List Node) (left_out : LeftOut)
    (format : Format) (orders : List (List Op)) (text : List ℕ) : Type 0 where
  pub state : MachineState
  pub order : List Op
  pub shortened : IsShortened search.image condition search.sweeps order state
  pub told : orders ≡ order ∷ []
  pub text_is : text ≡ reduced_found left_out format search.image order state

-- A text with its orders, and how it ends, say whether a search met such a state: it kept so many
-- nodes, each of which stands for the states that forget to be it in some order of their harts, and
-- these may be all.
abbrev pub SaysMet : SearchParts → List Node → LeftOut → Format → Option (List Op) → ℕ → Bool
    → List (List Op) → List ℕ → Ending → Type 0
SaysMet search condition left_out format None count complete orders text ending =
    (orders ≡ []) × (text ≡ reduced_absent left_out format complete search.image count)
    × (ending ≡ absent_ending complete)
SaysMet search condition left_out format (Some met) count complete orders text ending =
    IsMet search condition left_out format orders text × (ending ≡ Done)

-- the answer of a search where these registers matter, and harts of these groups change places
pub record IsReducedAnswer (search : SearchParts) (condition : List Node) (live : LiveSets)
    (groups : List ℕ) (format : Format) (orders : List (List Op)) (text : List ℕ) (ending : Ending)
    : Type 0 where
  pub met : Option (List Op)
  pub count : ℕ
  pub complete : Bool
  pub sought : IsSoughtBy search (sights.Condition condition) live groups
      (λ s. holds s condition) met count complete
  pub says : SaysMet search condition (left_out_of live groups) format met count complete orders
      text ending

-- The answer of a search that is told what to keep: by all, or by what is left. The condition asks
-- for its registers, and names its harts.
abbrev pub IsStateAnswer : Keeps → SearchParts → List Node → Format → List (List Op) → List ℕ
    → Ending → Type 0
IsStateAnswer keeps search condition format orders text ending =
    MayReduce keeps search (condition_asks condition) (condition_names condition)
    (IsFindAnswer search condition format orders text ending)
    (λ live groups. IsReducedAnswer search condition live groups format orders text ending)
