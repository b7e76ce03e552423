use Rattle.std.proofs.Common.{append_assoc}
use Rattle.sample_texts.proofs.members.write_outcome_list.Goals as goal

pub returns-clause-written : goal.returns-clause-written
returns-clause-written c =
    let e = simp (c.in_ok-write_outcomes.ensures.written, c.in_ok-push_str.ensures.bytes) at c.in_ok-push_str-2.ensures.bytes in
    simp append_assoc at e
