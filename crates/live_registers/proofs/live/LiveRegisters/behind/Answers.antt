use Rattle.live_registers.proofs.ScanLemmas.{behind_next, behind_target, behind_either, behind_nothing}
use Rattle.live_registers.proofs.live.LiveRegisters.behind.Goals as goal

pub returns-in-Next : goal.returns-in-Next
returns-in-Next c = λ everywhere addr leads.
    behind_next c.args.self.now c.args.way c.args.number c.from-next.result addr c.set_before.result c.in-Next.is
    c.from-next.ensures c.set_before.ensures leads

pub returns-in-To : goal.returns-in-To
returns-in-To c = λ everywhere addr leads.
    behind_target c.args.self.now c.args.way c.args.number c.in-To.target c.from.result addr c.set_before-in-To.result c.in-To.is
    c.from.ensures c.set_before-in-To.ensures leads

pub returns-in-NextOr : goal.returns-in-NextOr
returns-in-NextOr c = λ everywhere addr leads.
    behind_either c.args.self.now c.args.way c.args.number c.from-next.result c.in-NextOr.target c.from-in-NextOr.result addr
    c.set_before-in-NextOr.result c.set_before-in-NextOr-2.result c.union.result c.in-NextOr.is c.from-next.ensures
    c.from-in-NextOr.ensures c.set_before-in-NextOr.ensures c.set_before-in-NextOr-2.ensures c.union.ensures leads

pub returns-in-Nowhere : goal.returns-in-Nowhere
returns-in-Nowhere c = λ everywhere addr leads.
    behind_nothing c.args.self.now c.args.way c.args.number addr c.none.result c.in-Nowhere.is leads
