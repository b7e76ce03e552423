-- the rights so far are told
use Rattle.std.proofs.Common.{take}
use Rattle.alike_authority.specs.AlikeAuthority.{AreTold, IsHartTold}
use Rattle.alike_authority.proofs.told.hart_list_told.Given as goal

abbrev pub invariant-loop-authority : goal.invariant-loop-authority
invariant-loop-authority l = AreTold (IsHartTold l.survey l.hart) (take l.authority-index l.list) l.told.items
