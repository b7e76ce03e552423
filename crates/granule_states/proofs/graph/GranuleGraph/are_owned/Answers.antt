use Rattle.std.proofs.Common.{ℕ, List, ap, sym, ◌∙◌, subst, arith, length}
use Rattle.std.specs.Prelude.{Option}
use Rattle.cheri_model.specs.runs.Image.{ImageParts}
use Rattle.states.proofs.NodeLemmas.{is_some, node_of}
use Rattle.granule_states.specs.Graphs.{state_in}
use Rattle.granule_states.specs.Owners.{NodePasses}
use Rattle.granule_states.proofs.ScanLemmas.{node_before, state_at_kept, state_at_some, ways_before}
use Rattle.granule_states.proofs.TurnLemmas.{learns_on}
use Rattle.granule_states.proofs.graph.GranuleGraph.are_owned.Goals as goal

pub opening_respects-requires-clause-meant : goal.opening_respects-requires-clause-meant
opening_respects-requires-clause-meant c =
    is_some (state_in c.node.new.self c.as_mut_slice.result.now) _
    (ap (state_in c.node.new.self) c.as_mut_slice.ensures.value ∙ c.in_ok-row.ensures.node)

pub opening_respects-requires-clause-few : goal.opening_respects-requires-clause-few
opening_respects-requires-clause-few c =
    let width = (node_of c.node.new.self.graph c.in_ok-row.row.items _ c.in_ok-row.ensures.node).width in
    let same = ap (λ (row : List ℕ). length row) c.as_mut_slice.ensures.value in
    let harts = ap (λ (i : ImageParts). length i.harts) c.node.ensures.learns.graph.image in
    omega (arith, width, same, harts, c.requires.few_harts)

pub nodes_respect-requires-clause-harts : goal.nodes_respect-requires-clause-harts
nodes_respect-requires-clause-harts c =
    let same = ap (λ (i : ImageParts). length i.harts) c.opening_respects.ensures.learns.graph.image in
    let harts = ap (λ (i : ImageParts). length i.harts) c.node.ensures.learns.graph.image in
    omega (arith, same, harts, c.requires.few_harts)

pub nodes_respect-requires-clause-meant : goal.nodes_respect-requires-clause-meant
nodes_respect-requires-clause-meant c i low =
    state_at_some c.args.self.now c.opening_respects.new.self
    (learns_on c.args.self.now c.node.new.self c.opening_respects.new.self c.node.ensures.learns c.opening_respects.ensures.learns)
    c.args.reached.now.nodes i (c.requires.meant i low)

pub returns-clause-owned : goal.returns-clause-owned
returns-clause-owned c holds =
    let learns = learns_on c.args.self.now c.node.new.self c.opening_respects.new.self c.node.ensures.learns
    c.opening_respects.ensures.learns in (
      c.as_slice.result.now,
      record {
        ways = ways_before c.args.self.now c.node.new.self c.node.ensures.learns c.as_slice.result.now _
            (c.in_ok-opening_respects.ensures.ways _
            (ap (state_in c.node.new.self) c.as_mut_slice.ensures.value ∙ c.in_ok-row.ensures.node) c.if-not-branch.false);
        nodes = λ i t at. node_before c.args.self.now c.opening_respects.new.self learns c.as_slice.result.now t
            (subst (λ (owners : List (Option ℕ)). NodePasses c.opening_respects.new.self owners t)
            (c.as_slice-2.ensures.value ∙ sym c.as_slice.ensures.value)
            (c.in_ok-respect.ensures.nodes i t
            (state_at_kept c.args.self.now c.opening_respects.new.self learns c.args.reached.now.nodes i t at) holds));
      },
    )
