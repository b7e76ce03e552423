use Rattle.std.proofs.Common.{refl, ◌∙◌}
use Rattle.sample_texts.proofs.ListLemmas.{mapped_step, mapped_end}
use Rattle.sample_texts.specs.SampleJson.{trap_part}
use Rattle.sample_tallies.specs.Counts.{entry_of}
use Rattle.sample_texts.proofs.traps.write_traps.Goals as goal

pub loop-place-preserved : goal.loop-place-preserved
loop-place-preserved c = record {
  written =
      mapped_step entry_of (trap_part c.args.format c.args.orders.now) c.args.traps.now c.loop-place.place
      _ _ _ _ _ c.loop-place-test.true refl
      (rw c.loop-place.invariant.same at c.in_ok-write_trap.ensures.written)
      c.loop-place.invariant.written;
  same = c.write_trap.ensures.same ∙ c.loop-place.invariant.same;
}

pub returns-clause-written : goal.returns-clause-written
returns-clause-written c =
    mapped_end entry_of (trap_part c.args.format c.args.orders.now) c.args.traps.now c.loop-place.place
    _ _ c.loop-place-test.false c.loop-place.invariant.written
