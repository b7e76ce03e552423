use Rattle.std.proofs.Common.{subst}
use Rattle.cores.specs.Cores.{IsCore}
use Rattle.cores.proofs.CoreLemmas.{core_confined, core_monotone}
use Rattle.cores.proofs.cores.Core.view.Goals as goal

pub returns-clause-confined : goal.returns-clause-confined
returns-clause-confined c = core_confined c.args.self.now (subst IsCore c.self.view_is c.self.invariant.0)

pub returns-clause-monotone : goal.returns-clause-monotone
returns-clause-monotone c = core_monotone c.args.self.now (subst IsCore c.self.view_is c.self.invariant.0)
