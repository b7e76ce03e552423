use Rattle.std.proofs.Common.{◌∙◌}
use Rattle.report_lines.proofs.Items.{numbered_step, numbered_end}
use Rattle.outcome_texts.specs.OutcomeParts.{kept_part}
use Rattle.outcome_texts.proofs.PartLemmas.{part_of}
use Rattle.outcome_texts.proofs.ToldLemmas.{outcome_below_at}
use Rattle.outcome_texts.proofs.listed.write_outcomes.Goals as goal

pub load_outcome-requires-clause-there : goal.load_outcome-requires-clause-there
load_outcome-requires-clause-there c =
    rw c.index-outcomes-number.is
    (outcome_below_at _ c.args.outcomes.now c.loop-number.number _ c.requires.there c.loop-number-test.true)

pub loop-number-preserved : goal.loop-number-preserved
loop-number-preserved c = record {
  written =
      numbered_step (kept_part c.args.format c.args.kept.now) c.args.outcomes.now c.loop-number.number _ _ _ _ _
      c.loop-number-test.true c.index-outcomes-number.is
      (c.in_ok-write_outcome.ensures ∙ part_of c.args.format c.args.kept.now c.loop-number.number _ _ _ c.load_outcome.ensures.state)
      c.loop-number.invariant.written;
  harts = c.load_outcome.ensures.harts;
  granules = c.load_outcome.ensures.granules;
}

pub returns : goal.returns
returns c =
    numbered_end (kept_part c.args.format c.args.kept.now) c.args.outcomes.now c.loop-number.number _ _ c.loop-number-test.false
    c.loop-number.invariant.written
