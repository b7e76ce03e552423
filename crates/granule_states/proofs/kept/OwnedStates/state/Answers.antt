use Rattle.std.proofs.Common.{◌<◌, ap, sym, ◌∙◌, subst}
use Rattle.state_store.specs.Stores.{Stored, state_of}
use Rattle.states.proofs.NodeLemmas.{is_some}
use Rattle.granule_states.specs.Owned.{OwnedParts, at, count, owned_of}
use Rattle.granule_states.proofs.OwnedLemmas.{kept_short, seen_state}
use Rattle.granule_states.proofs.kept.OwnedStates.state.Goals as goal

pub read-requires-clause-few : goal.read-requires-clause-few
read-requires-clause-few c = kept_short c.self.inside.graph c.self.inside.reached c.self.inside.limit c.self.inside.owned c.self.invariant

pub returns-clause-state : goal.returns-clause-state
returns-clause-state c =
    let view = owned_of c.self.inside.graph c.self.inside.reached c.self.inside.limit c.self.inside.owned in
    let below : c.args.number < count view = subst (λ (k : OwnedParts). c.args.number < count k) (sym c.self.view_is) c.requires in
    let seen = seen_state c.self.inside.graph c.self.inside.reached c.self.inside.limit c.self.inside.owned c.self.invariant c.args.number
    c.read.result.now below c.read.ensures in
    ap (λ (k : OwnedParts). at k c.args.number) (sym c.self.view_is)
    ∙ (seen.there ∙ sym (ap (λ (st : Stored). state_of st c.read.result.now) c.store.ensures.store ∙ seen.means))

pub returns-clause-meant : goal.returns-clause-meant
returns-clause-meant c =
    let view = owned_of c.self.inside.graph c.self.inside.reached c.self.inside.limit c.self.inside.owned in
    let below : c.args.number < count view = subst (λ (k : OwnedParts). c.args.number < count k) (sym c.self.view_is) c.requires in
    let seen = seen_state c.self.inside.graph c.self.inside.reached c.self.inside.limit c.self.inside.owned c.self.invariant c.args.number
    c.read.result.now below c.read.ensures in
    is_some (state_of c.store.result.now c.read.result.now) seen.state
    (ap (λ (st : Stored). state_of st c.read.result.now) c.store.ensures.store ∙ seen.means)
