use Rattle.std.proofs.Common.{refl}
use Rattle.cap_ops.proofs.cap.Cap.at.Goals as goal

pub moved-requires : goal.moved-requires
moved-requires c = rw (c.requires.open, c.requires.kept) refl
