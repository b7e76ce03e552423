-- the rights so far are told
use Rattle.std.proofs.Common.{take}
use Rattle.authority_texts.specs.Told.{AreTold}
use Rattle.authority_texts.proofs.told.told_of.Given as goal

abbrev pub invariant-loop-authority : goal.invariant-loop-authority
invariant-loop-authority l = AreTold l.kept (take l.authority-index l.list) l.told.items
