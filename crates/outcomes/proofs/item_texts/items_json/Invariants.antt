-- the items so far are put
use Rattle.std.proofs.Common.{◌≡◌, drop, map}
use Rattle.serde_json.specs.Data.{no_members}
use Rattle.serde_json.specs.View.{members_view}
use Rattle.outcomes.specs.ItemTexts.{put_items}
use Rattle.outcomes.proofs.item_texts.items_json.Given as goal

abbrev pub invariant-loop-place : goal.invariant-loop-place
invariant-loop-place l =
    put_items (map (λ name. name.now) (drop l.place l.names)) (drop l.place l.values) (members_view l.members.entries)
    ≡ put_items (map (λ name. name.now) l.names) l.values no_members
