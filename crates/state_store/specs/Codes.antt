-- A hart's status as a number: 0 while it runs, 1 where it halted, else one for each trap.
use Rattle.std.specs.Prelude.{ℕ, ◌+◌, ◌-◌, ◌*◌, ◌/◌, ◌%◌, ◌==◌, nat_lt, Option, Some, None}
use Rattle.std.specs.Prelude.{if◌then◌else◌}
use Rattle.cheri_model.specs.declared.trace.Status.{Status}
use Rattle.cheri_model.specs.declared.trace.Status.TheVariants.{Running, Halted, Trapped}

abbrev pub code_of : Status → ℕ
code_of Running = 0
code_of Halted = 1
code_of (Trapped trap) = 2 + 256 * trap.cause + trap.reg

-- the status of a number, if it has one
unfoldable pub status_of : ℕ → Option Status
status_of code =
    if code == 0 then Some Running
    else (if code == 1 then Some Halted
    else (if nat_lt code 65538
    then Some (Trapped (record { cause = (code - 2) / 256; reg = (code - 2) % 256 }))
    else None))
