use Rattle.std.proofs.Common.{append_assoc}
use Rattle.sample_texts.proofs.members.write_property_list.Goals as goal

pub returns : goal.returns
returns c =
    let e = simp (c.in_ok-write_properties.ensures, c.in_ok-push_str.ensures.bytes) at c.in_ok-push_str-2.ensures.bytes in
    simp append_assoc at e
