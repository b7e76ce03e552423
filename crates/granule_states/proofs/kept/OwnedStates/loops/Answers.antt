use Rattle.std.proofs.Common.{length, ap, ◌∙◌, subst, arith}
use Rattle.cheri_model.specs.runs.Image.{ImageParts}
use Rattle.states.proofs.SizeLemmas.{sizes_of}
use Rattle.granule_states.specs.Owned.{IsSame, OwnedParts, owned_of}
use Rattle.granule_states.proofs.LoopLemmas.{kept_again, kept_same, placed_distinct, placed_meant, verdict_kept}
use Rattle.granule_states.proofs.kept.OwnedStates.loops.Goals as goal

pub overflow_cast-harts : goal.overflow_cast-harts
overflow_cast-harts c =
    let few = (sizes_of c.self.inside.graph.graph.image c.self.invariant.formed).harts_few in
    let count = ap length c.harts.ensures in
    let image = ap (λ (i : ImageParts). length i.harts) c.image-2.ensures in
    omega arith

pub search_loops-requires-clause-few : goal.search_loops-requires-clause-few
search_loops-requires-clause-few c =
    let few = (sizes_of c.self.inside.graph.graph.image c.self.invariant.formed).harts_few in
    let count = ap length c.harts.ensures in
    let image = ap (λ (i : ImageParts). length i.harts) c.image-2.ensures in
    omega arith

pub search_loops-requires-clause-meant : goal.search_loops-requires-clause-meant
search_loops-requires-clause-meant c =
    placed_meant c.self.inside.graph c.self.inside.reached c.self.inside.limit c.self.inside.owned c.self.invariant

pub search_loops-requires-clause-distinct : goal.search_loops-requires-clause-distinct
search_loops-requires-clause-distinct c =
    placed_distinct c.self.inside.graph c.self.inside.reached c.self.inside.limit c.self.inside.owned c.self.invariant

pub invariant_of-kept : goal.invariant_of-kept
invariant_of-kept c =
    kept_again c.self.inside.graph c.self.inside.reached c.self.inside.limit c.self.inside.owned c.self.invariant
    c.search_loops.new.graph c.in_ok-verdict.ensures.states

pub returns-clause-verdict : goal.returns-clause-verdict
returns-clause-verdict c =
    verdict_kept c.self.inside.graph c.self.inside.reached c.self.inside.limit c.self.inside.owned c.self.invariant
    c.search_loops.new.graph c.in_ok-verdict.ensures.states (length c.harts.result.now) c.in_ok-verdict.verdict
    (ap length c.harts.ensures ∙ ap (λ (i : ImageParts). length i.harts) c.image-2.ensures) c.in_ok-verdict.ensures.verdict

pub returns-clause-same : goal.returns-clause-same
returns-clause-same c =
    subst (λ (k : OwnedParts). IsSame k (owned_of c.search_loops.new.graph c.self.inside.reached c.self.inside.limit c.self.inside.owned))
    c.self.view_is
    (kept_same c.self.inside.graph c.self.inside.reached c.self.inside.limit c.self.inside.owned c.self.invariant
    c.search_loops.new.graph c.in_ok-verdict.ensures.states)
