-- the harts so far have their groups
use Rattle.hart_groups.proofs.GroupLemmas.{AreSoFar}
use Rattle.hart_groups.proofs.groups.groups_of.Given as goal

abbrev pub invariant-loop-hart : goal.invariant-loop-hart
invariant-loop-hart l = AreSoFar l.image.harts l.named l.groups l.hart
