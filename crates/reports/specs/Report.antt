-- The report: the text that shows an image, the events of a trace, and the state that they lead to.
use Rattle.std.specs.Prelude.{ℕ, ◌+◌, Bool, true, false, if◌then◌else◌, List, [], ◌++◌, length}
use Rattle.std.specs.Prelude.{codes, decimal, zero, suc}
use Rattle.std.specs.List.{list_any}
use Rattle.cheri_model.specs.declared.operation.Event.{Event}
use Rattle.cheri_model.specs.declared.operation.Event.TheVariants as event
use Rattle.cheri_model.specs.steps.Hart.{HartState, register}
use Rattle.cheri_model.specs.runs.Image.{ImageParts}
use Rattle.cheri_model.specs.runs.Machine.{MachineState}
use Rattle.report_lines.specs.Lines.{count_line, event_line, granule_line, image_line}
use Rattle.report_lines.specs.Lines.{pcc_line, register_line, status_line}
use Rattle.report_lines.specs.Texts.{◌+++◌, line, numbered}

abbrev pub is_sweep : Event → Bool
is_sweep (event.Step entry) = false
is_sweep (event.Sweep cleared lo hi) = true

-- the version of a report: 2 where the trace has a sweep
unfoldable pub version_of : List Event → ℕ
version_of events = if list_any is_sweep events then 2 else 1

unfoldable pub title_line : ℕ → List ℕ
title_line version = line (codes "cheri-sim report " +++ decimal version)

-- a hart's registers from this number on, this many
unfoldable pub register_lines : HartState → ℕ → ℕ → List ℕ
register_lines hart number zero = []
register_lines hart number (suc count) =
    register_line number (register hart number) ++ register_lines hart (number + 1) count

-- a hart: its status, PCC, and the registers c1 to c31
unfoldable pub hart_lines : ℕ → HartState → List ℕ
hart_lines number hart =
    status_line number hart.status +++ pcc_line hart.pcc +++ register_lines hart 1 31

-- the lines before the first event
unfoldable pub head_lines : ImageParts → List Event → List ℕ
head_lines image events =
    title_line (version_of events) +++ image_line image +++ count_line (length events)

-- the lines of the events, the harts and the granules
unfoldable pub shown_lines : List Event → MachineState → List ℕ
shown_lines events state =
    numbered event_line 0 events +++ numbered hart_lines 0 state.harts
    +++ numbered granule_line 0 state.memory

unfoldable pub report : ImageParts → List Event → MachineState → List ℕ
report image events state =
    title_line (version_of events) +++ image_line image +++ count_line (length events)
    +++ numbered event_line 0 events +++ numbered hart_lines 0 state.harts
    +++ numbered granule_line 0 state.memory +++ line (codes "end")
