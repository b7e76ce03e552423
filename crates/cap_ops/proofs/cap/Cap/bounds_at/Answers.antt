use Rattle.std.proofs.Common.{sym, ◌∙◌}
use Rattle.cap_ops.proofs.Unpacking.{base_at, top_at}
use Rattle.cap_ops.proofs.cap.Cap.bounds_at.Goals as goal

pub returns-then-kept-clause-base : goal.returns-then-kept-clause-base
returns-then-kept-clause-base c = base_at _ _ _ _ _ _ _ _ _ _ c.self.invariant c.self.view_is c.args.addr (sym c.requires ∙ c.if-kept.true)

pub returns-then-kept-clause-top : goal.returns-then-kept-clause-top
returns-then-kept-clause-top c = top_at _ _ _ _ _ _ _ _ _ _ c.self.invariant c.self.view_is c.args.addr (sym c.requires ∙ c.if-kept.true)
