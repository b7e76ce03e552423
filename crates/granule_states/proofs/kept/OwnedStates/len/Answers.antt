use Rattle.std.proofs.Common.{subst}
use Rattle.granule_states.specs.Owned.{AreSound, IsSearch, OwnedParts}
use Rattle.granule_states.proofs.OwnedLemmas.{are_sound}
use Rattle.granule_states.proofs.kept.OwnedStates.len.Goals as goal

pub returns-clause-search : goal.returns-clause-search
returns-clause-search c = subst (λ (k : OwnedParts). IsSearch k) c.self.view_is c.self.invariant.search

pub returns-clause-sound : goal.returns-clause-sound
returns-clause-sound c =
    subst (λ (k : OwnedParts). AreSound k) c.self.view_is
    (are_sound c.self.inside.graph c.self.inside.reached c.self.inside.limit c.self.inside.owned c.self.invariant)
