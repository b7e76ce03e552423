use Rattle.std.proofs.Common.{append_assoc}
use Rattle.explanations.proofs.StepTexts.{done_text}
use Rattle.explanations.proofs.step_json.write_done.Goals as goal

pub returns : goal.returns
returns c =
    let e = simp (
      c.in_ok-write_from_number.ensures,
      c.in_ok-write_from_hart.ensures,
      c.in_ok-write_before_hart.ensures,
      c.in_ok-push_str.ensures.bytes,
    ) at c.in_ok-push_str-2.ensures.bytes in
    let grouped = simp append_assoc at e in
    rw (done_text c.args.lines.now c.args.number c.args.facts.now c.requires.done c.requires.untrapped c.requires.unmapped) grouped
