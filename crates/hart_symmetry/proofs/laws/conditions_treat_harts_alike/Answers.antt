use Rattle.hart_symmetry.proofs.HoldingLemmas.{holds_same}
use Rattle.hart_symmetry.proofs.laws.conditions_treat_harts_alike.Goals as goal

pub returns : goal.returns
returns c nodes stays named one other renaming =
    holds_same stays renaming.0 one other renaming.1 nodes (λ hart names. named hart names)
