-- The members so far, with the other registers, are those of all.
use Rattle.std.proofs.Common.{◌≡◌, ◌-◌}
use Rattle.serde_json.specs.Data.{no_members}
use Rattle.serde_json.specs.View.{members_view}
use Rattle.reports.specs.Json.{put_registers}
use Rattle.reports.proofs.json.registers_json.Given as goal

abbrev pub invariant-loop-number : goal.invariant-loop-number
invariant-loop-number l =
    put_registers l.hart l.number (32 - l.number) (members_view l.members.entries) ≡ put_registers l.hart 1 31 no_members
