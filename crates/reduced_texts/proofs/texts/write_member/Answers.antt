use Rattle.std.proofs.Common.{append_assoc}
use Rattle.reduced_texts.specs.ReducedTexts.{reduced_member}
use Rattle.reduced_texts.proofs.DataLemmas.{reduced_no_float}
use Rattle.reduced_texts.proofs.texts.write_member.Goals as goal

pub write_json_value-requires : goal.write_json_value-requires
write_json_value-requires c = rw c.in_ok-value.ensures (reduced_no_float c.args.left_out)

pub returns : goal.returns
unfolding reduced_member
returns c =
    simp append_assoc at (rw (c.in_ok-value.ensures, c.in_ok-push_str.ensures.bytes) at c.write_json_value.ensures)
