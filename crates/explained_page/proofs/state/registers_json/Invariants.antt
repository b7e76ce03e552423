-- The members so far, with the other registers, are those of all.
use Rattle.std.proofs.Common.{◌≡◌, ◌-◌}
use Rattle.serde_json.specs.Data.{no_members}
use Rattle.serde_json.specs.View.{members_view}
use Rattle.following.specs.Following.{origins_now}
use Rattle.explained_page.specs.State.{put_registers}
use Rattle.explained_page.proofs.state.registers_json.Given as goal

abbrev pub invariant-loop-register : goal.invariant-loop-register
invariant-loop-register l =
    put_registers (origins_now l.follower) l.initial.number l.hart l.register (32 - l.register) (members_view l.members.entries)
    ≡ put_registers (origins_now l.follower) l.initial.number l.hart 1 31 no_members
