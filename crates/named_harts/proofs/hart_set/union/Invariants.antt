-- the harts so far are those of both
use Rattle.named_harts.proofs.SetLemmas.{IsUnion}
use Rattle.named_harts.proofs.hart_set.union.Given as goal

abbrev pub invariant-loop-hart : goal.invariant-loop-hart
invariant-loop-hart l = IsUnion l.one l.other l.all l.hart
