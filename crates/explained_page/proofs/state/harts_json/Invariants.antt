-- The values so far, with the other harts, are those of all.
use Rattle.std.proofs.Common.{◌≡◌, ◌++◌, map, drop}
use Rattle.serde_json.specs.View.{view}
use Rattle.following.specs.Following.{origins_now}
use Rattle.explained_page.specs.State.{harts_from}
use Rattle.explained_page.proofs.state.harts_json.Given as goal

abbrev pub invariant-loop-place : goal.invariant-loop-place
invariant-loop-place l =
    map view l.values.items ++ harts_from (origins_now l.follower) l.place (drop l.place l.hart-items)
    ≡ harts_from (origins_now l.follower) 0 l.hart-items
