-- the rights so far are told
use Rattle.std.proofs.Common.{take}
use Rattle.alike_authority.specs.AlikeAuthority.{AreTold, IsMemoryTold}
use Rattle.alike_authority.proofs.told.memory_list_told.Given as goal

abbrev pub invariant-loop-authority : goal.invariant-loop-authority
invariant-loop-authority l = AreTold (IsMemoryTold l.survey) (take l.authority-index l.list) l.told.items
