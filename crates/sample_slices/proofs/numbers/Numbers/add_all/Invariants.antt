-- those so far, and then the others
use Rattle.std.proofs.Common.{◌≡◌, drop}
use Rattle.serde_json.specs.View.{items_view}
use Rattle.sample_slices.specs.Members.{all_steps}
use Rattle.sample_slices.specs.Numbers.{span_step}
use Rattle.sample_slices.proofs.numbers.Numbers.add_all.Given as goal

abbrev pub invariant-loop-item : goal.invariant-loop-item
invariant-loop-item l =
    all_steps span_step (items_view (drop l.item-index l.list)) l.self ≡ all_steps span_step (items_view l.list) l.initial.self
