-- What is left out of a search, where harts change places.
use Rattle.std.specs.Prelude.{◌≡◌, ◌⊎◌, Bool, true, false, List, Option, Some, None}
use Rattle.hart_groups.specs.HartGroups.{any_grouped}
use Rattle.reductions.specs.Reductions.{IsReduction}
use Rattle.reductions.specs.declared.reduction.Keeps.{Keeps}
use Rattle.reductions.specs.declared.reduction.Reduction.{Reduction}
use Rattle.states.specs.Searches.{SearchParts}

-- some hart is of a group; where there is none, nothing is left out, or registers alone
abbrev pub IsGroupedReduction : Keeps → SearchParts → List Bool → List Bool → Option Reduction
    → Type 0
IsGroupedReduction keeps search asked named (Some found) =
    IsReduction keeps search asked named (Some found) × (any_grouped found.groups ≡ true)
IsGroupedReduction keeps search asked named None =
    IsReduction keeps search asked named None
    ⊎ ((found : Reduction) × IsReduction keeps search asked named (Some found)
    × (any_grouped found.groups ≡ false))
