use Rattle.std.proofs.Common.{append_assoc}
use Rattle.explanations.specs.JsonText.{json_end}
use Rattle.explanations.proofs.whole_json.write_end.Goals as goal

pub returns : goal.returns
unfolding json_end
returns c =
    let e = simp (c.in_ok-write_json_value.ensures, c.in_ok-image_json.ensures, c.in_ok-write.ensures.bytes) at c.in_ok-push_str.ensures.bytes in
    simp append_assoc at e
