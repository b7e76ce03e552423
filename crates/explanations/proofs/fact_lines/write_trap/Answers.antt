use Rattle.std.proofs.Common.{append_assoc}
use Rattle.explanations.specs.FactLines.{traps_line}
use Rattle.explanations.proofs.fact_lines.write_trap.Goals as goal

pub returns : goal.returns
unfolding traps_line
returns c =
    let e = simp (c.in_ok-write_trap_why.ensures, c.in_ok-write.ensures.bytes) at c.in_ok-push_str.ensures.bytes in
    let grouped = simp append_assoc at e in
    simp append_assoc grouped
