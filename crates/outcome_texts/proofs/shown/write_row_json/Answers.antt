use Rattle.std.proofs.Common.{map}
use Rattle.outcome_texts.proofs.RowLemmas.{row_no_float}
use Rattle.outcome_texts.proofs.shown.write_row_json.Goals as goal

pub write_json_value-requires : goal.write_json_value-requires
write_json_value-requires c = rw c.in_ok-row_json.ensures (row_no_float c.args.reduced (map (λ name. name.now) c.args.names.now) c.args.row.now)
