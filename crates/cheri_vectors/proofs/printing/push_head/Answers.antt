use Rattle.std.proofs.Common.{append_assoc}
use Rattle.cheri_vectors.specs.Vectors.{head}
use Rattle.cheri_vectors.proofs.printing.push_head.Goals as goal

pub returns : goal.returns
unfolding head
returns c =
    rw (c.in_ok-writeln.ensures.bytes, c.in_ok-push_field_names.ensures, c.in_ok-push_str.ensures.bytes) (simp append_assoc)
