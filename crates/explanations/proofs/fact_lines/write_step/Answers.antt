use Rattle.std.proofs.Common.{append_assoc}
use Rattle.explanations.specs.FactLines.{step_lines}
use Rattle.explanations.proofs.fact_lines.write_step.Goals as goal

pub returns : goal.returns
unfolding step_lines
returns c =
    let e = simp (
      c.in_ok-write_sets.ensures,
      c.in_ok-write_leaves.ensures,
      c.in_ok-write_traps.ensures,
      c.in_ok-write_finds.ensures,
      c.in_ok-write_at.ensures,
      c.in_ok-write_reads.ensures,
      c.in_ok-write_head.ensures,
    ) at c.in_ok-write_clears.ensures in
    simp append_assoc at e
