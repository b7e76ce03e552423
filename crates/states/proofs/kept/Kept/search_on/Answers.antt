use Rattle.std.proofs.Common.{◌≡◌, ◌≤◌, ◌+◌, ℕ, length, ◌∙◌, ap, sym, arith, subst}
use Rattle.explore_turns.specs.Turns.{start_by}
use Rattle.states.specs.Graphs.{turn_in}
use Rattle.states.specs.Kept.{KeptParts, kept_of, KeepsNumbers}
use Rattle.states.proofs.KeptLemmas.{searched, first_state, numbers_kept}
use Rattle.states.proofs.kept.Kept.search_on.Goals as goal

pub explore_more-requires-clause-more : goal.explore_more-requires-clause-more
explore_more-requires-clause-more g c =
    let within = c.self.invariant.search.within in
    let same : c.self.inside.limit ≡ c.args.self.limit = ap (λ (k : KeptParts). k.limit) c.self.view_is in
    let more : c.args.self.limit ≤ c.args.limit = c.requires in
    omega (arith, within, same, more)

pub explore_more-requires-clause-wide : goal.explore_more-requires-clause-wide
explore_more-requires-clause-wide g c =
    c.self.invariant.wide ∙ ap (λ (n : ℕ). n + 1) (sym c.self.invariant.harts)

pub explore_more-requires-clause-stands : goal.explore_more-requires-clause-stands
explore_more-requires-clause-stands g c = (c.self.inside.limit, c.self.invariant.stands)

pub invariant_of-result : goal.invariant_of-result
invariant_of-result g c =
    let kept = c.self.invariant in
    let old = c.self.inside.graph in
    let edges : turn_in c.explore_more.new.graph ≡ turn_in old =
    c.explore_more.ensures.same_graph in
    let width : length c.explore_more.new.graph.image.harts + 1 ≡ length old.image.harts + 1 = c.explore_more.ensures.same_width in
    let same = kept.harts in
    let harts : length c.explore_more.new.graph.image.harts ≡ length c.self.inside.image.harts = omega arith in
    searched c.explore_more.new.graph c.self.inside.image c.self.inside.sweeps.items c.self.inside.sight c.in_ok-reached.reached c.args.limit
    (edges ∙ kept.edges) harts
    (c.in_ok-reached.ensures.explored (start_by c.self.inside.image c.self.inside.sweeps.items c.self.inside.sight)
    (first_state c.self.inside.image c.self.inside.sweeps.items c.self.inside.sight old c.self.inside.reached c.self.inside.limit kept))
    c.in_ok-reached.ensures.wide c.in_ok-reached.ensures.stands

pub returns-clause-numbers : goal.returns-clause-numbers
returns-clause-numbers g c =
    let kept = c.self.inside in
    let within = c.self.invariant.search.within in
    let same : kept.limit ≡ c.args.self.limit = ap (λ (k : KeptParts). k.limit) c.self.view_is in
    let more : c.args.self.limit ≤ c.args.limit = c.requires in
    let enough : length kept.reached.nodes ≤ c.args.limit = omega (arith, within, same, more) in
    subst (λ (k : KeptParts). KeepsNumbers k (kept_of kept.image kept.sweeps.items kept.sight c.explore_more.new.graph.store
    c.in_ok-reached.reached c.args.limit)) c.self.view_is
    (numbers_kept kept.image kept.sweeps.items kept.sight kept.graph c.explore_more.new.graph kept.reached c.in_ok-reached.reached
    kept.limit c.args.limit c.explore_more.ensures.same_graph c.self.invariant (invariant_of-result g c) enough)
