use Rattle.std.proofs.lemmas.Result.{IfOk-weaker}
use Rattle.reports.proofs.JsonLemmas.{report_no_float}
use Rattle.reports.proofs.json.report_json.Goals as goal

pub returns : goal.returns
returns c =
    IfOk-weaker c.to_string.result _ _
    (λ s same. rw c.in_ok-report_value.ensures at (same (rw c.in_ok-report_value.ensures (report_no_float _ _ _))))
    c.to_string.ensures.text
