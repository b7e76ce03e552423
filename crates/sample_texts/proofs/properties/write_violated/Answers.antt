use Rattle.std.proofs.Common.{append_assoc}
use Rattle.sample_texts.proofs.properties.write_violated.Goals as goal

pub returns : goal.returns
returns c =
    let e = simp c.in_ok-write.ensures.bytes at c.write_first.ensures in
    simp append_assoc at e
