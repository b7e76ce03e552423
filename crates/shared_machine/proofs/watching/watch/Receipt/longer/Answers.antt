-- Of two that were seen, the shorter is a prefix of the longer.
use Rattle.std.proofs.Common.{◌≤◌, length, arith}
use Rattle.shared_machine.proofs.CopyLemmas.{trace_prefix}
use Rattle.shared_machine.proofs.watching.watch.Receipt.longer.Goals as goal

pub returns-then-self-other-clause-this : goal.returns-then-self-other-clause-this
returns-then-self-other-clause-this g c =
    let less : length c.self.inside.seen ≤ length c.other.inside.seen = omega (arith, c.self.invariant, c.other.invariant, c.if-self-other.true) in
    rw (← c.self.view_is, ← c.other.view_is) (trace_prefix g.J.Naming.image c.self.inside.seen c.other.inside.seen (c.meet.ensures less))

pub returns-else-self-other-clause-that : goal.returns-else-self-other-clause-that
returns-else-self-other-clause-that g c =
    let less : length c.other.inside.seen ≤ length c.self.inside.seen = omega (arith, c.self.invariant, c.other.invariant, c.if-self-other.false) in
    rw (← c.self.view_is, ← c.other.view_is) (trace_prefix g.J.Naming.image c.other.inside.seen c.self.inside.seen (c.meet-2.ensures less))
