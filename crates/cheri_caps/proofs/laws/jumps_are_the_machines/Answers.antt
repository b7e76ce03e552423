use Rattle.std.proofs.Common.{ap}
use Rattle.cap_model.specs.results.Addresses.{inc_offset}
use Rattle.cap_model.specs.results.Seals.{seal_entry, unsealed}
use Rattle.cheri_model.specs.steps.Hart.{link}
use Rattle.cheri_model.proofs.Runs.Advances.{following_is, in_bounds-unsealed, target_is, unsealed_is_open}
use Rattle.cheri_caps.proofs.laws.jumps_are_the_machines.Goals as goal

pub returns-clause-target : goal.returns-clause-target
returns-clause-target c v target lawful tagged within =
    target_is (unsealed v) target lawful (unsealed_is_open v tagged) (in_bounds-unsealed v target 4 tagged within)

pub returns-clause-link : goal.returns-clause-link
unfolding link inc_offset
returns-clause-link c pcc lawful open_now within = ap seal_entry (following_is pcc lawful open_now within)
