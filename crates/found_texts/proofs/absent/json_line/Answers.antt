use Rattle.found_texts.proofs.FoundLemmas.{absent_no_float}
use Rattle.found_texts.proofs.absent.json_line.Goals as goal

pub write_json_value-requires : goal.write_json_value-requires
write_json_value-requires c =
    rw c.in_ok-value.ensures (absent_no_float c.args.left_out c.args.complete c.args.image.now c.args.states)
