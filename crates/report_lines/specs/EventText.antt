-- How outcomes, statuses and events are written.
use Rattle.std.specs.Prelude.{ℕ, List, codes, decimal}
use Rattle.cheri_model.specs.declared.operation.Event.{Event}
use Rattle.cheri_model.specs.declared.operation.Event.TheVariants as event
use Rattle.cheri_model.specs.declared.trace.Trap.{Trap}
use Rattle.cheri_model.specs.declared.trace.Outcome.{Outcome}
use Rattle.cheri_model.specs.declared.trace.Outcome.TheVariants as outcome
use Rattle.cheri_model.specs.declared.trace.Status.{Status}
use Rattle.cheri_model.specs.declared.trace.Status.TheVariants as status
use Rattle.report_lines.specs.Texts.{◌+++◌}
use Rattle.report_lines.specs.ValueText.{hex_text}

-- a trap's cause, and its register, of which 32 is PCC
abbrev pub cause_text : Trap → List ℕ
cause_text trap = codes " cause=" +++ decimal trap.cause +++ codes " reg=" +++ decimal trap.reg

-- how a step ended
abbrev pub outcome_text : Outcome → List ℕ
outcome_text outcome.Done = codes "done"
outcome_text outcome.Halt = codes "halt"
outcome_text (outcome.Trap trap) = codes "trap" +++ cause_text trap

-- a step that was done, after its number
abbrev pub done_text : ℕ → ℕ → ℕ → List ℕ
done_text number hart pc =
    decimal number +++ codes " hart=" +++ decimal hart
    +++ codes " pc=" +++ hex_text 16 pc +++ codes " done"

-- whether a hart runs
abbrev pub status_text : Status → List ℕ
status_text status.Running = codes "running"
status_text status.Halted = codes "halted"
status_text (status.Trapped trap) = codes "trapped" +++ cause_text trap

-- an event of a trace, after its number from 0 on. A step: the hart, PCC's address before it, and
-- how it ended. A sweep: its range, and how many tags it cleared.
unfoldable pub event_text : ℕ → Event → List ℕ
event_text number (event.Step entry) =
    decimal number +++ codes " hart=" +++ decimal entry.hart
    +++ codes " pc=" +++ hex_text 16 entry.pc +++ codes " "
    +++ outcome_text entry.outcome
event_text number (event.Sweep cleared lo hi) =
    decimal number +++ codes " sweep lo=" +++ hex_text 16 lo +++ codes " hi=" +++ hex_text 17 hi
    +++ codes " cleared=" +++ decimal cleared
