-- Events and images in JSON.
use Rattle.std.specs.Prelude.{ℕ, List, length, codes}
use Rattle.serde_json.specs.Data.{Data, string, object, Members, no_members, member, put}
use Rattle.cheri_model.specs.declared.operation.Event.{Event}
use Rattle.cheri_model.specs.declared.operation.Event.TheVariants as event
use Rattle.cheri_model.specs.declared.trace.Trap.{Trap}
use Rattle.cheri_model.specs.declared.trace.Outcome.{Outcome}
use Rattle.cheri_model.specs.declared.trace.Outcome.TheVariants as outcome
use Rattle.cheri_model.specs.runs.Image.{ImageParts}
use Rattle.report_lines.specs.ValueData.{count}
use Rattle.report_lines.specs.ValueText.{hex_text}

-- a step without a trap, by the word for how it ended: the hart, and PCC's address before it
abbrev pub ended_members : Data → Data → List ℕ → Members
ended_members hart pc word =
    member (codes "hart") hart
    (member (codes "outcome") (string word)
    (member (codes "pc") pc no_members))

-- a step that trapped: the same, and the trap's cause and register
abbrev pub trapped_members : Data → Data → Trap → Members
trapped_members hart pc trap =
    member (codes "cause") (count trap.cause)
    (member (codes "hart") hart
    (member (codes "outcome") (string (codes "trap"))
    (member (codes "pc") pc
    (member (codes "reg") (count trap.reg) no_members))))

-- the members with how a step ended, and of one that trapped the trap
abbrev pub put_outcome : Outcome → Members → Members
put_outcome outcome.Done members = put (codes "outcome") (string (codes "done")) members
put_outcome outcome.Halt members = put (codes "outcome") (string (codes "halt")) members
put_outcome (outcome.Trap trap) members =
    put (codes "outcome") (string (codes "trap"))
    (put (codes "reg") (count trap.reg) (put (codes "cause") (count trap.cause) members))

abbrev pub step_members : Data → Data → Outcome → Members
step_members hart pc outcome.Done = ended_members hart pc (codes "done")
step_members hart pc outcome.Halt = ended_members hart pc (codes "halt")
step_members hart pc (outcome.Trap trap) = trapped_members hart pc trap

-- a sweep, by the texts of its range's ends: how many tags it cleared
abbrev pub sweep_members : List ℕ → List ℕ → ℕ → Members
sweep_members lo hi cleared =
    member (codes "cleared") (count cleared)
    (member (codes "hi") (string hi)
    (member (codes "lo") (string lo)
    (member (codes "outcome") (string (codes "sweep")) no_members)))

-- an event of a trace
unfoldable pub event_members : Event → Members
event_members (event.Step entry) =
    step_members (count entry.hart) (string (hex_text 16 entry.pc)) entry.outcome
event_members (event.Sweep cleared lo hi) =
    sweep_members (hex_text 16 lo) (hex_text 17 hi) cleared

abbrev pub event_data : Event → Data
event_data event = object (event_members event)

-- how many instructions, harts and bytes of RAM
unfoldable pub image_data : ImageParts → Data
image_data image = object
    (member (codes "code") (count (length image.program))
    (member (codes "harts") (count (length image.harts))
    (member (codes "ram") (count image.ram) no_members)))
