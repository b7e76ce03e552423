use Rattle.alike_authority.specs.AlikeAuthorityTexts.{parts_of}
use Rattle.alike_authority.proofs.JsonLemmas.{object_no_float}
use Rattle.alike_authority.proofs.json.write_json.Goals as goal

pub write_json_value-requires : goal.write_json_value-requires
write_json_value-requires c =
    rw (
      c.in_ok-object.ensures,
      c.in_ok-harts_json.ensures,
      c.in_ok-image_json.ensures,
      c.in_ok-list_json.ensures,
      c.in_ok-reduced_value.ensures,
    )
    (object_no_float (parts_of c.args.head.left_out c.args.head.complete c.args.head.image.now c.args.head.states)
    c.args.harts.now c.args.memory.now)
