use Rattle.std.proofs.Common.{append_assoc}
use Rattle.reports.specs.Report.{head_lines}
use Rattle.reports.proofs.report.write_head.Goals as goal

pub returns : goal.returns
unfolding head_lines
returns c =
    let titled = rw c.version_of.ensures at c.in_ok-write_title.ensures in
    let e = rw (c.in_ok-write_image_line.ensures, titled) at c.in_ok-write_count_line.ensures in
    simp append_assoc at e
