use Rattle.authority_texts.proofs.JsonLemmas.{object_no_float}
use Rattle.authority_texts.proofs.json.write_json.Goals as goal

pub write_json_value-requires : goal.write_json_value-requires
write_json_value-requires c =
    rw (c.in_ok-object_of.ensures, c.in_ok-harts.ensures, c.in_ok-image.ensures, c.in_ok-memory.ensures)
    (object_no_float c.is_complete.result c.image.result.now c.len.result c.args.harts.now c.args.memory.now)
