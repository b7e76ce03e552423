use Rattle.std.proofs.Common.{ℕ, ◌*◌, length, map, ap, sym, ◌∙◌}
use Rattle.outcomes.specs.Items.{codes_of, values_of}
use Rattle.sample_tallies.specs.Sums.{ends_in_order}
use Rattle.sample_tallies.proofs.OrderLemmas.{picked_at}
use Rattle.sample_texts.specs.declared.table.ShownRow.{ShownRow}
use Rattle.sample_texts.proofs.SeeLemmas.{none_seen, end_seen, all_seen, values_size}
use Rattle.sample_texts.proofs.table.see_ends.Goals as goal

pub loop-number-init : goal.loop-number-init
loop-number-init c =
    record {
      so_far = none_seen c.args.shown.now (ends_in_order c.args.tally.now.sum) c.new-rows.result.items c.new-rows.ensures.items;
      numbered = c.new-codes.ensures.rows ∙ sym (ap (map (λ (row : ShownRow). codes_of row.values.items)) c.new-rows.ensures.items);
      width = c.new-codes.ensures.width ∙ c.in_ok-width_of.ensures;
      harts = c.in_ok-state.ensures.harts ∙ sym c.requires.told.harts;
      granules = c.in_ok-state.ensures.granules ∙ sym c.requires.told.granules;
    }

pub see-requires-clause-width : goal.see-requires-clause-width
see-requires-clause-width c =
    ap (λ (n : ℕ). 5 * n) (ap length c.in_ok-values.ensures ∙ values_size c.args.shown.now c.load_end.new.state)
    ∙ sym c.loop-number.invariant.width

pub loop-number-preserved : goal.loop-number-preserved
loop-number-preserved c =
    let sum = c.args.tally.now.sum in
    let picked = picked_at sum.ends c.args.order.now (ends_in_order sum) c.loop-number.number-index 0 c.requires.sorted c.loop-number-test.true in
    record {
      so_far =
          end_seen c.args.shown.now sum.ends (ends_in_order sum) c.args.order.now c.loop-number.number-index 0 c.loop-number.rows.items
          c.see.new.rows.items (record { values = c.in_ok-values.values; seen = c.end_seen-seen.result }) picked.0 c.requires.sorted
          c.loop-number-test.true picked.2
          (c.in_ok-values.ensures ∙ ap (values_of c.args.shown.now) (c.load_end.ensures.state picked.0 picked.2))
          (c.end_seen-seen.ensures picked.0 picked.2) c.in_ok-see.ensures.rows c.loop-number.invariant.so_far;
      numbered = c.in_ok-see.ensures.numbered;
      width = c.see.ensures.width ∙ c.loop-number.invariant.width;
      harts = c.load_end.ensures.harts;
      granules = c.load_end.ensures.granules;
    }

pub returns : goal.returns
returns c =
    let sum = c.args.tally.now.sum in
    all_seen c.args.shown.now sum.ends (ends_in_order sum) c.args.order.now c.loop-number.number-index c.loop-number.rows.items
    c.requires.sorted c.loop-number-test.false c.loop-number.invariant.so_far
