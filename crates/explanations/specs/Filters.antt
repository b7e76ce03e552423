-- Which events a filter shows.
use Rattle.std.specs.Prelude.{Bool, true, ◌||◌}
use Rattle.explanations.specs.declared.selection.Filter.{Filter}
use Rattle.explanations.specs.declared.selection.Filter.TheVariants.{All, Traps, Clears}
use Rattle.explanations.specs.declared.selection.Filter.TheVariants.{TrapsOrClears}

-- by whether an event trapped, and whether it cleared a tag
abbrev pub passes : Filter → Bool → Bool → Bool
passes All trapped cleared = true
passes Traps trapped cleared = trapped
passes Clears trapped cleared = cleared
passes TrapsOrClears trapped cleared = trapped || cleared
