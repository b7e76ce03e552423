-- those so far, and then the others
use Rattle.std.proofs.Common.{◌≡◌, drop}
use Rattle.sample_texts.specs.SampleParts.{IsTold}
use Rattle.serde_json.specs.View.{items_view}
use Rattle.sample_slices.specs.Claimed.{end_step}
use Rattle.sample_slices.specs.Members.{all_steps}
use Rattle.sample_slices.proofs.tally.add_rows.Given as goal

abbrev pub invariant-loop-item : goal.invariant-loop-item
invariant-loop-item l = record {
  so_far :
      all_steps (end_step l.initial.again) (items_view (drop l.item-index l.list)) l.tally.sum
      ≡ all_steps (end_step l.initial.again) (items_view l.list) l.initial.tally.sum;
  told : IsTold l.initial.again.image l.tally;
  same : l.again ≡ l.initial.again;
}
