use Rattle.std.proofs.Common.{length}
use Rattle.cheri_model.specs.runs.Machine.{state_after_step}
use Rattle.own_granules.specs.Granules.{is_quiet}
use Rattle.own_granules.proofs.HeldLemmas.{stopped_rest}
use Rattle.own_granules.proofs.OrderLemmas.{first_passing}
use Rattle.own_granules.proofs.laws.rests_keep_what_is_asked.Goals as goal

pub returns-clause-stopped : goal.returns-clause-stopped
returns-clause-stopped c = stopped_rest

pub returns-clause-passing : goal.returns-clause-passing
returns-clause-passing c image sweeps shared hides most passing s keeps =
    first_passing (state_after_step image) (is_quiet image sweeps shared hides) most passing keeps
    (length image.harts) s
