-- The core that is closed is the one that was watched.
use Rattle.std.proofs.Common.{sym, ap, ◌∙◌}
use Rattle.shared_machine.specs.Machines.{machine_at}
use Rattle.shared_machine.proofs.CopyLemmas.{core_is}
use Rattle.shared_machine.proofs.watching.watched.Watched.close.Goals as goal

pub returns-clause-core : goal.returns-clause-core
returns-clause-core g c =
    c.close.ensures.core ∙ core_is (sym (ap (λ s. machine_at s) c.in-Copied.is) ∙ c.self.view_is)
