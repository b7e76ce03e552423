-- Conditions that a question asks of all states: in which states each holds, or doesn't.
use Rattle.std.specs.Prelude.{Bool, if◌then◌else◌, not}
use Rattle.cheri_model.specs.runs.Machine.{MachineState}
use Rattle.cheri_model.specs.steps.Hart.{HartState}
use Rattle.conditions.specs.Hiding as condition
use Rattle.conditions.specs.Holding.{holds}
use Rattle.explore_sights.specs.declared.watches.Watch.{Watch}

-- a state that is asked for
abbrev pub is_met : Watch → MachineState → Bool
is_met watch state =
    if watch.holds then holds state watch.condition else not (holds state watch.condition)

-- A state that is asked for stays one by a step that is hidden. A step by which a condition may
-- begin to hold is one that may end it, taken back.
abbrev pub hides : Watch → HartState → HartState → Bool
hides watch before after =
    if watch.holds then condition.hides watch.condition before after
    else condition.hides watch.condition after before
