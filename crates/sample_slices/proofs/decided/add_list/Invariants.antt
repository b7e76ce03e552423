-- those so far, and then the others
use Rattle.std.proofs.Common.{◌≡◌, All, drop}
use Rattle.sample_checks.specs.Checks.{is_drawn}
use Rattle.serde_json.specs.View.{items_view}
use Rattle.sample_slices.specs.Claimed.{decided_step}
use Rattle.sample_slices.specs.Members.{all_steps}
use Rattle.sample_slices.proofs.decided.add_list.Given as goal

abbrev pub invariant-loop-item : goal.invariant-loop-item
invariant-loop-item l = record {
  so_far :
      all_steps (decided_step l.initial.again l.properties) (items_view (drop l.item-index l.list)) l.decided.items
      ≡ all_steps (decided_step l.initial.again l.properties) (items_view l.list) l.initial.decided.items;
  drawn : All is_drawn l.decided.items;
  same : l.again ≡ l.initial.again;
}
