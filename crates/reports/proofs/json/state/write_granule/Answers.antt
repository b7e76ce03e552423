use Rattle.std.proofs.Common.{sym, ◌∙◌}
use Rattle.reports.proofs.JsonTexts.{granule_written}
use Rattle.reports.proofs.json.state.write_granule.Goals as goal

pub returns-clause-written : goal.returns-clause-written
returns-clause-written c =
    granule_written c.args.later c.args.number c.args.value _ _ _ _ _ _ (sym c.is_listed.ensures ∙ c.if-not-is_listed.false) c.in_ok-write_comma.ensures c.in_ok-push_str.ensures.bytes
    (rw (c.format.ensures.text, c.granule_address.ensures.number, c.granule_address.ensures.width) at c.in_ok-push_str-2.ensures.bytes)
    c.in_ok-push_str-3.ensures.bytes
    (rw c.in_ok-value_json.ensures at c.in_ok-write_json_value.ensures)
