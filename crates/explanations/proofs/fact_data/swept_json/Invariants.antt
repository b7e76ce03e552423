-- The members so far, with the other places, are those of all.
use Rattle.std.proofs.Common.{◌≡◌, drop}
use Rattle.serde_json.specs.Data.{no_members}
use Rattle.serde_json.specs.View.{members_view}
use Rattle.explanations.specs.FactData.{put_swept}
use Rattle.explanations.proofs.fact_data.swept_json.Given as goal

abbrev pub invariant-loop-place : goal.invariant-loop-place
invariant-loop-place l =
    put_swept (drop l.place-index l.places) (members_view l.members.entries) ≡ put_swept l.places no_members
