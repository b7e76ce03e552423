use Rattle.std.proofs.Common.{◌≡◌, ◌∙◌, ap, true}
use Rattle.conditions.specs.Formulas.{formula_of}
use Rattle.conditions.specs.Hiding.{single, keeps, hides}
use Rattle.conditions.specs.Entries.{kept_nodes}
use Rattle.conditions.proofs.conditions.Condition.hides.Goals as goal

pub returns : goal.returns
unfolding hides
returns c =
    let view = c.self.view_is in
    let same : kept_nodes c.self.inside.entries.items ≡ c.args.self.now = cc in
    c.keeps.ensures (formula_of (kept_nodes c.self.inside.entries.items)) (c.as_slice.ensures.value ∙ c.self.invariant)
    ∙ ap (λ nodes. keeps true single (formula_of nodes) c.args.before.now c.args.after.now) same
