use Rattle.std.proofs.Common.{sym, ◌∙◌, subst}
use Rattle.states.specs.Kept.{KeptParts, kept_of, AreAllKept}
use Rattle.states.proofs.KeptLemmas.{all_kept}
use Rattle.states.proofs.kept.Kept.is_complete.Goals as goal

pub returns-clause-all : goal.returns-clause-all
returns-clause-all c done =
    let view : KeptParts = kept_of c.self.inside.image c.self.inside.sweeps.items c.self.inside.sight c.self.inside.graph.store c.self.inside.reached c.self.inside.limit in
    subst (λ (k : KeptParts). AreAllKept k) c.self.view_is
    (all_kept view c.self.invariant.search (sym c.is_complete.ensures ∙ done))
