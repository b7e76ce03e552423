-- What is left out of a search in which equal harts change places, and no register is.
use Rattle.std.specs.Prelude.{◌≡◌, ◌⊎◌, Bool, true, false, List, Option, Some, None}
use Rattle.hart_groups.specs.HartGroups.{any_grouped}
use Rattle.reductions.specs.Reductions.{IsReduction}
use Rattle.reductions.specs.declared.reduction.Keeps.{Keeps}
use Rattle.reductions.specs.declared.reduction.Reduction.{Reduction}
use Rattle.states.specs.Searches.{SearchParts}

-- what is kept: all registers, and harts as one is told
abbrev pub keeps_of : Bool → Keeps
keeps_of keeps_harts = record { registers = true; harts = keeps_harts }

-- some hart is of a group; where there is none, nothing is left out that is spoken of
abbrev pub IsGrouping : Bool → SearchParts → List Bool → List Bool → Option Reduction → Type 0
IsGrouping keeps_harts search asked named (Some found) =
    IsReduction (keeps_of keeps_harts) search asked named (Some found)
    × (any_grouped found.groups ≡ true)
IsGrouping keeps_harts search asked named None =
    IsReduction (keeps_of keeps_harts) search asked named None
    ⊎ ((found : Reduction) × IsReduction (keeps_of keeps_harts) search asked named (Some found)
    × (any_grouped found.groups ≡ false))
