use Rattle.std.proofs.Common.{append_assoc}
use Rattle.explanations.specs.FactLines.{step_head}
use Rattle.explanations.proofs.fact_lines.write_head.Goals as goal

pub returns : goal.returns
unfolding step_head
returns c =
    let e = simp (c.in_ok-write_fetched.ensures, c.in_ok-write_event.ensures) at c.in_ok-push_str.ensures.bytes in
    let grouped = simp append_assoc at e in
    simp append_assoc grouped
