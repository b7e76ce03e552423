use Rattle.std.proofs.Common.{◌∙◌}
use Rattle.report_lines.proofs.JsonLemmas.{listed_put}
use Rattle.report_lines.proofs.value_data.put_register.Goals as goal

pub returns-in_ok-put : goal.returns-in_ok-put
returns-in_ok-put c =
    listed_put _ _ c.args.held _ _ _ _ c.is_listed.ensures c.if-is_listed.true
    (c.as_str.ensures.value ∙ c.in_ok-name.ensures.ok) c.in_ok-value.ensures c.in_ok-put.ensures.ok
