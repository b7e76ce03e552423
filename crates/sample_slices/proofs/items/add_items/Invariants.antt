-- those so far, and then the others
use Rattle.std.proofs.Common.{◌≡◌, drop}
use Rattle.std.specs.Prelude.{string_bytes}
use Rattle.serde_json.specs.View.{items_view}
use Rattle.sample_slices.specs.Members.{all_steps}
use Rattle.sample_slices.specs.Drawn.{item_step}
use Rattle.sample_slices.proofs.items.add_items.Given as goal

abbrev pub invariant-loop-item : goal.invariant-loop-item
invariant-loop-item l =
    all_steps item_step (items_view (drop l.item-index l.list)) (string_bytes l.texts) ≡ all_steps item_step (items_view l.list) (string_bytes l.initial.texts)
