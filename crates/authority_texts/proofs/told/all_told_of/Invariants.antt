-- the lists so far are told
use Rattle.std.proofs.Common.{take}
use Rattle.authority_texts.specs.Told.{AreAllTold}
use Rattle.authority_texts.proofs.told.all_told_of.Given as goal

abbrev pub invariant-loop-list : goal.invariant-loop-list
invariant-loop-list l = AreAllTold l.kept (take l.list-index l.lists) l.told.items
