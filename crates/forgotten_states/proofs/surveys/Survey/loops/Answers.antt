use Rattle.std.proofs.Common.{◌≡◌, ℕ, ◌+◌, length, arith, ap, sym, ◌∙◌}
use Rattle.forgotten_states.proofs.SurveyLemmas.{kept_again, survey_distinct, survey_meant, survey_same, survey_verdict}
use Rattle.forgotten_states.proofs.surveys.Survey.loops.Goals as goal

pub overflow_cast-harts : goal.overflow_cast-harts
overflow_cast-harts c =
    let few = c.self.invariant.are.few in
    let count : length c.harts.result.now ≡ length c.self.inside.turns.image.now.harts = ap length c.harts.ensures in
    omega arith

pub search_loops-requires-clause-wide : goal.search_loops-requires-clause-wide
search_loops-requires-clause-wide c = c.self.invariant.are.wide ∙ ap (λ (n : ℕ). n + 1) (sym c.self.invariant.are.harts)

pub search_loops-requires-clause-few : goal.search_loops-requires-clause-few
search_loops-requires-clause-few c =
    let few = c.self.invariant.are.few in
    let count : length c.harts.result.now ≡ length c.self.inside.turns.image.now.harts = ap length c.harts.ensures in
    omega arith

pub search_loops-requires-clause-labelled : goal.search_loops-requires-clause-labelled
search_loops-requires-clause-labelled c =
    let same = c.self.invariant.are.harts in
    let count : length c.harts.result.now ≡ length c.self.inside.turns.image.now.harts = ap length c.harts.ensures in
    omega arith

pub search_loops-requires-clause-meant : goal.search_loops-requires-clause-meant
search_loops-requires-clause-meant c =
    survey_meant c.self.inside.turns.image.now c.self.inside.turns.sees.now c.self.inside.turns.live.now
    c.self.inside.turns.groups c.self.inside.nodes.graph c.self.inside.nodes.reached c.self.inside.nodes.limit c.self.invariant

pub search_loops-requires-clause-distinct : goal.search_loops-requires-clause-distinct
search_loops-requires-clause-distinct c =
    survey_distinct c.self.inside.turns.image.now c.self.inside.turns.sees.now c.self.inside.turns.live.now
    c.self.inside.turns.groups c.self.inside.nodes.graph c.self.inside.nodes.reached c.self.inside.nodes.limit c.self.invariant

pub invariant_of-result : goal.invariant_of-result
invariant_of-result c =
    kept_again c.self.inside.turns.image.now c.self.inside.turns.sees.now c.self.inside.turns.live.now
    c.self.inside.turns.groups c.self.inside.nodes.graph c.self.inside.nodes.reached c.self.inside.nodes.limit c.self.invariant c.search_loops.new.graph c.search_loops.ensures.same_graph
    c.search_loops.ensures.same_width c.in_ok-verdict.ensures.states

pub returns-clause-verdict : goal.returns-clause-verdict
returns-clause-verdict c =
    survey_verdict c.self.inside.turns.image.now c.self.inside.turns.sees.now c.self.inside.turns.live.now
    c.self.inside.turns.groups c.self.inside.nodes.graph c.self.inside.nodes.reached c.self.inside.nodes.limit c.self.invariant c.search_loops.new.graph c.search_loops.ensures.same_graph
    c.search_loops.ensures.same_width c.in_ok-verdict.ensures.states (length c.harts.result.now) c.in_ok-verdict.verdict
    (ap length c.harts.ensures) c.in_ok-verdict.ensures.verdict

pub returns-clause-same : goal.returns-clause-same
returns-clause-same c =
    survey_same c.self.inside.turns.image.now c.self.inside.turns.sees.now c.self.inside.turns.live.now
    c.self.inside.turns.groups c.self.inside.nodes.graph c.self.inside.nodes.reached c.self.inside.nodes.limit c.self.invariant c.search_loops.new.graph c.search_loops.ensures.same_graph
    c.search_loops.ensures.same_width c.in_ok-verdict.ensures.states ∙ c.self.view_is
