use Rattle.std.proofs.Common.{append_assoc}
use Rattle.cheri_vectors.specs.Vectors.{field_names}
use Rattle.cheri_vectors.proofs.printing.push_field_names.Goals as goal

pub returns : goal.returns
unfolding field_names
returns c =
    rw (c.in_ok-push_str-4.ensures.bytes, c.in_ok-push_str-3.ensures.bytes, c.in_ok-push_str-2.ensures.bytes, c.in_ok-push_str.ensures.bytes)
    (simp append_assoc)
