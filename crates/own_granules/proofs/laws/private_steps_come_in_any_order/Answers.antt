use Rattle.std.specs.Prelude.{true}
use Rattle.own_granules.proofs.MachineLemmas.{commutes}
use Rattle.own_granules.proofs.laws.private_steps_come_in_any_order.Goals as goal

pub returns : goal.returns
returns c image sweeps shared owner s l m fit other free one two =
    commutes image sweeps shared owner (λ before after. true) s l m fit other free one two
