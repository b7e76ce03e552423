use Rattle.std.proofs.Common.{◌≡◌, ℕ, length, ap, sym, subst, arith}
use Rattle.explore_turns.specs.Turns.{turn_by}
use Rattle.graph_search.specs.Trees.{state_at}
use Rattle.states.specs.Graphs.{state_in, turn_in}
use Rattle.states.specs.Kept.{KeptParts, kept_of, at}
use Rattle.states.proofs.SizeLemmas.{sizes_of}
use Rattle.loop_search.specs.Verdicts.{IsVerdict}
use Rattle.state_loops.specs.Endless.{IsSame}
use Rattle.state_loops.proofs.KeptLemmas.{graph_meant, graph_distinct, kept_again, kept_same, verdict_of_kept}
use Rattle.state_loops.proofs.endless.endless_of.Goals as goal

pub overflow_cast-harts : goal.overflow_cast-harts
overflow_cast-harts c =
    let few = (sizes_of c.into_parts-parts.result.image c.granules-granules.ensures.formed).harts_few in
    let count : length c.harts.result.now ≡ length c.into_parts-parts.result.image.harts = ap length c.harts.ensures in
    omega arith

pub search_loops-requires-clause-few : goal.search_loops-requires-clause-few
search_loops-requires-clause-few c =
    let few = (sizes_of c.into_parts-parts.result.image c.granules-granules.ensures.formed).harts_few in
    let count : length c.harts.result.now ≡ length c.into_parts-parts.result.image.harts = ap length c.harts.ensures in
    omega arith

pub search_loops-requires-clause-labelled : goal.search_loops-requires-clause-labelled
search_loops-requires-clause-labelled c =
    let same = c.into_parts-parts.ensures.kept.harts in
    let count : length c.harts.result.now ≡ length c.into_parts-parts.result.image.harts = ap length c.harts.ensures in
    omega arith

pub search_loops-requires-clause-meant : goal.search_loops-requires-clause-meant
search_loops-requires-clause-meant c =
    graph_meant c.into_parts-parts.result.image c.into_parts-parts.result.sweeps.items c.into_parts-parts.result.sight c.into_parts-parts.result.graph
    c.into_parts-parts.result.reached c.into_parts-parts.result.limit c.into_parts-parts.ensures.kept

pub search_loops-requires-clause-distinct : goal.search_loops-requires-clause-distinct
search_loops-requires-clause-distinct c =
    graph_distinct c.into_parts-parts.result.image c.into_parts-parts.result.sweeps.items c.into_parts-parts.result.sight c.into_parts-parts.result.graph
    c.into_parts-parts.result.reached c.into_parts-parts.result.limit c.into_parts-parts.ensures.kept

pub from_parts-kept-requires : goal.from_parts-kept-requires
from_parts-kept-requires c =
    kept_again c.into_parts-parts.result.image c.into_parts-parts.result.sweeps.items c.into_parts-parts.result.sight c.into_parts-parts.result.graph
    c.into_parts-parts.result.reached c.into_parts-parts.result.limit c.into_parts-parts.ensures.kept
    c.search_loops.new.graph c.search_loops.ensures.same_graph c.search_loops.ensures.same_width
    c.in_ok-verdict.ensures.states

pub endless_by-requires : goal.endless_by-requires
endless_by-requires c =
    let count : length c.harts.result.now ≡ length c.into_parts-parts.result.image.harts = ap length c.harts.ensures in
    subst (λ (k : KeptParts). IsVerdict (turn_by k.image k.sweeps k.sight) (length k.image.harts) (at k) k.complete
    c.in_ok-verdict.verdict) (sym c.from_parts-kept.ensures)
    (verdict_of_kept c.into_parts-parts.result.image c.into_parts-parts.result.sweeps.items c.into_parts-parts.result.sight c.into_parts-parts.result.graph
    c.into_parts-parts.result.reached c.into_parts-parts.result.limit c.into_parts-parts.ensures.kept
    c.search_loops.new.graph c.search_loops.ensures.same_graph c.search_loops.ensures.same_width
    c.in_ok-verdict.ensures.states (length c.into_parts-parts.result.image.harts) c.in_ok-verdict.verdict
    (subst (λ (n : ℕ). IsVerdict
    (turn_in c.into_parts-parts.result.graph) n
    (state_at (state_in c.into_parts-parts.result.graph) c.into_parts-parts.result.reached.nodes)
    c.into_parts-parts.result.reached.complete c.in_ok-verdict.verdict) count c.in_ok-verdict.ensures.verdict))

pub returns-clause-same : goal.returns-clause-same
returns-clause-same c =
    subst (λ (k : KeptParts). IsSame c.args.kept k) (sym c.from_parts-kept.ensures)
    (subst (λ (k : KeptParts). IsSame k (kept_of c.into_parts-parts.result.image c.into_parts-parts.result.sweeps.items c.into_parts-parts.result.sight
    c.search_loops.new.graph.store c.into_parts-parts.result.reached c.into_parts-parts.result.limit))
    c.into_parts-parts.ensures.parts
    (kept_same c.into_parts-parts.result.image c.into_parts-parts.result.sweeps.items c.into_parts-parts.result.sight c.into_parts-parts.result.graph
    c.into_parts-parts.result.reached c.into_parts-parts.result.limit c.into_parts-parts.ensures.kept
    c.search_loops.new.graph c.search_loops.ensures.same_graph c.search_loops.ensures.same_width
    c.in_ok-verdict.ensures.states))
