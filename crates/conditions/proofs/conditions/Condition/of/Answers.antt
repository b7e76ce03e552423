use Rattle.std.proofs.Common.{sym, ◌∙◌, ap}
use Rattle.conditions.specs.Formulas.{formula_of}
use Rattle.conditions.specs.Entries.{kept_nodes}
use Rattle.conditions.proofs.MakingLemmas.{kept_whole, nodes_kept}
use Rattle.conditions.proofs.conditions.Condition.of.Goals as goal

pub invariant_of-result : goal.invariant_of-result
invariant_of-result c =
    let f = formula_of c.args.nodes.now in kept_whole f _ (c.in_ok-entries.ensures f (sym c.requires))

pub returns : goal.returns
returns c =
    let f = formula_of c.args.nodes.now in
    ap kept_nodes (c.in_ok-entries.ensures f (sym c.requires)) ∙ nodes_kept f ∙ c.requires
