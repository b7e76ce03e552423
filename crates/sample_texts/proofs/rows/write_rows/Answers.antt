use Rattle.std.proofs.Common.{map, ◌∙◌}
use Rattle.sample_texts.proofs.ListLemmas.{mapped_step, mapped_end}
use Rattle.sample_texts.specs.SampleJson.{row_part}
use Rattle.sample_texts.specs.ShownRows.{shown_part}
use Rattle.sample_texts.proofs.rows.write_rows.Goals as goal

pub loop-place-preserved : goal.loop-place-preserved
loop-place-preserved c = record {
  written =
      mapped_step shown_part (row_part c.args.format c.args.orders.now (map (λ name. name.now) c.args.names.now)) c.args.rows.now c.loop-place.place
      _ _ _ _ _ c.loop-place-test.true c.index-rows-place.is
      (rw c.loop-place.invariant.same at c.in_ok-write_row.ensures.written)
      c.loop-place.invariant.written;
  same = c.write_row.ensures.same ∙ c.loop-place.invariant.same;
}

pub returns-clause-written : goal.returns-clause-written
returns-clause-written c =
    mapped_end shown_part (row_part c.args.format c.args.orders.now (map (λ name. name.now) c.args.names.now)) c.args.rows.now c.loop-place.place
    _ _ c.loop-place-test.false c.loop-place.invariant.written
