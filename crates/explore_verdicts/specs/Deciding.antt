-- States that decide what a property claims of a condition, and what a search must not pass over.
use Rattle.std.specs.Prelude.{Bool, true, false, not, ◌&&◌, List, [], ◌∷◌, ◌++◌}
use Rattle.cheri_model.specs.runs.Machine.{MachineState}
use Rattle.conditions.specs.Holding.{holds}
use Rattle.conditions.specs.declared.parts.Node.{Node}
use Rattle.explore_properties.specs.Properties.{PropertyParts}
use Rattle.explore_properties.specs.declared.claims.Claim.{Claim}
use Rattle.explore_properties.specs.declared.claims.Claim.TheVariants.{Holds, Ends, EndsFairly}
use Rattle.explore_properties.specs.declared.claims.When.{When}
use Rattle.explore_properties.specs.declared.claims.When.TheVariants.{Never, Always, Sometimes}
use Rattle.explore_properties.specs.declared.claims.When.TheVariants.{Finally}
use Rattle.explore_sights.specs.declared.watches.Watch.{Watch}
use Rattle.explore_sights.specs.Sights.{hides}
use Rattle.explore_sights.specs.declared.sights.Sight.{Sight}
use Rattle.explore_turns.specs.Turns.{KeepsPassing}
use Rattle.outcomes.specs.Outcomes.{is_final}

-- A state decides: the condition holds in it, where it never may or where it has to in some; or it
-- doesn't, where it always has to, or where it has to in each state in which no hart runs.
unfoldable pub decides : When → List Node → MachineState → Bool
decides Never condition state = holds state condition
decides Always condition state = not (holds state condition)
decides Sometimes condition state = holds state condition
decides Finally condition state = is_final state && not (holds state condition)

-- A search with this sight passes over no state that decides: one that does still does after a step
-- that isn't seen. A state in which no hart runs is passed over by no search.
abbrev pub IsSeen : Sight → When → List Node → Type 0
IsSeen sight Never condition = KeepsPassing (hides sight) (decides Never condition)
IsSeen sight Always condition = KeepsPassing (hides sight) (decides Always condition)
IsSeen sight Sometimes condition = KeepsPassing (hides sight) (decides Sometimes condition)
IsSeen sight Finally condition = Unit {0}

abbrev pub IsClaimSeen : Sight → Claim → Type 0
IsClaimSeen sight (Holds when condition) = IsSeen sight when condition
IsClaimSeen sight Ends = Unit {0}
IsClaimSeen sight EndsFairly = Unit {0}

abbrev pub AreSeen : Sight → List PropertyParts → Type 0
AreSeen sight [] = Unit {0}
AreSeen sight (p ∷ ps) = IsClaimSeen sight p.claim × AreSeen sight ps

-- the states that decide also while harts run, as a search has to see them
abbrev pub watch_of : Claim → List Watch
watch_of (Holds Never condition) = record { condition = condition; holds = true } ∷ []
watch_of (Holds Always condition) = record { condition = condition; holds = false } ∷ []
watch_of (Holds Sometimes condition) = record { condition = condition; holds = true } ∷ []
watch_of (Holds Finally condition) = []
watch_of Ends = []
watch_of EndsFairly = []

unfoldable pub watches_of : List PropertyParts → List Watch
watches_of [] = []
watches_of (property ∷ properties) = watch_of property.claim ++ watches_of properties
