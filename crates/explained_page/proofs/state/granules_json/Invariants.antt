-- The members so far, with the other granules, are those of all.
use Rattle.std.proofs.Common.{◌≡◌, drop}
use Rattle.serde_json.specs.Data.{no_members}
use Rattle.serde_json.specs.View.{members_view}
use Rattle.following.specs.Following.{origins_now}
use Rattle.explained_page.specs.State.{put_granules}
use Rattle.explained_page.proofs.state.granules_json.Given as goal

abbrev pub invariant-loop-number : goal.invariant-loop-number
invariant-loop-number l =
    put_granules (origins_now l.follower) l.number (drop l.number l.ram) (members_view l.members.entries)
    ≡ put_granules (origins_now l.follower) 0 l.ram no_members
