use Rattle.std.proofs.Common.{◌≡◌, subst}
use Rattle.std.specs.Prelude.{true}
use Rattle.granule_states.specs.Owned.{AreAllKept, AreEndsKept, AreSomeOwned, OwnedParts}
use Rattle.granule_states.proofs.OwnedLemmas.{all_kept, ends_kept}
use Rattle.granule_states.proofs.kept.OwnedStates.is_complete.Goals as goal

pub returns-clause-all : goal.returns-clause-all
returns-clause-all c holds =
    subst (λ (k : OwnedParts). AreAllKept k) c.self.view_is
    (all_kept c.self.inside.graph c.self.inside.reached c.self.inside.limit c.self.inside.owned c.self.invariant holds)

pub returns-clause-ends : goal.returns-clause-ends
returns-clause-ends c holds =
    subst (λ (k : OwnedParts). AreEndsKept k) c.self.view_is
    (ends_kept c.self.inside.graph c.self.inside.reached c.self.inside.limit c.self.inside.owned c.self.invariant holds)

pub returns-clause-finished : goal.returns-clause-finished
returns-clause-finished c holds =
    subst (λ (k : OwnedParts). k.finished ≡ true) c.self.view_is (c.self.invariant.respected holds).0

pub returns-clause-owned : goal.returns-clause-owned
returns-clause-owned c holds =
    subst (λ (k : OwnedParts). AreSomeOwned k.graph) c.self.view_is (c.self.invariant.respected holds).1
