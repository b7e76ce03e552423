-- The core that is closed is the one that was audited, with its shares.
use Rattle.std.proofs.Common.{sym, ap, ◌∙◌}
use Rattle.cores.specs.Cores.{CoreParts}
use Rattle.shared_machine.proofs.CopyLemmas.{core_is}
use Rattle.shared_machine.proofs.machines.Machine.close.Goals as goal

pub returns-clause-core : goal.returns-clause-core
returns-clause-core g c = c.close.ensures.core ∙ core_is c.audited.ensures.core

pub returns-clause-image : goal.returns-clause-image
returns-clause-image g c =
    ap (λ (k : CoreParts). k.image) (sym (core_is c.audited.ensures.core)) ∙ c.close.ensures.image

pub returns-clause-counts : goal.returns-clause-counts
returns-clause-counts g c = c.audited.ensures.counts

pub returns-clause-sweeps : goal.returns-clause-sweeps
returns-clause-sweeps g c = c.audited.ensures.sweeps
