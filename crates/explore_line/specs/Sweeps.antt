-- The sweeps that arguments write.
use Rattle.std.specs.Prelude.{nat_le, List, [], ◌∷◌, length, Option, Some, None, option_map}
use Rattle.std.specs.Prelude.{if◌then◌else◌}
use Rattle.clap.specs.Words.{Text}
use Rattle.command_line.specs.Found.{◌>>=◌}
use Rattle.explore_sweeps.specs.Sweeps.{sweep_of}
use Rattle.explore_sweeps.specs.declared.TheConstants.{MAX_SWEEPS}
use Rattle.explore_sweeps.specs.declared.Sweep.{Sweep}

-- the sweeps that arguments write, in their order
unfoldable pub sweeps_of : List Text → Option (List Sweep)
sweeps_of [] = Some []
sweeps_of (arg ∷ args) =
    sweep_of arg >>= (λ sweep. option_map (λ sweeps. sweep ∷ sweeps) (sweeps_of args))

-- which are at most eight
abbrev pub few_sweeps_of : List Text → Option (List Sweep)
few_sweeps_of args = if nat_le (length args) MAX_SWEEPS then sweeps_of args else None

-- the sweeps that a repeated option gives, if it is there
abbrev pub sweeps_in : Option (List Text) → Option (List Sweep)
sweeps_in None = Some []
sweeps_in (Some args) = few_sweeps_of args
