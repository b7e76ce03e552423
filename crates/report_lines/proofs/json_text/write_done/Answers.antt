use Rattle.std.proofs.Common.{append_assoc}
use Rattle.report_lines.proofs.JsonTexts.{done_text}
use Rattle.report_lines.proofs.json_text.write_done.Goals as goal

pub returns : goal.returns
returns c =
    let e = simp (
      c.in_ok-push_str-4.ensures.bytes,
      c.format-2.ensures.text,
      c.in_ok-push_str-3.ensures.bytes,
      c.in_ok-push_str-2.ensures.bytes,
      c.format.ensures.text,
      c.in_ok-push_str.ensures.bytes,
    ) at c.in_ok-push_str-5.ensures.bytes in
    let grouped = simp append_assoc at e in
    rw done_text grouped
