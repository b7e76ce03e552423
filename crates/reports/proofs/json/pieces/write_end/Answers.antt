use Rattle.std.proofs.Common.{append_assoc}
use Rattle.reports.specs.JsonText.{last_part}
use Rattle.reports.proofs.json.pieces.write_end.Goals as goal

pub returns : goal.returns
unfolding last_part
returns c =
    let e = simp (c.in_ok-push_str-2.ensures.bytes, c.format.ensures.text, c.version_of-version.ensures, c.in_ok-push_str.ensures.bytes)
    at c.in_ok-push_str-3.ensures.bytes in
    let grouped = simp append_assoc at e in
    grouped
