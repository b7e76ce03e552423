-- What is shown goes on from what was seen, where it is no shorter.
use Rattle.std.proofs.Common.{◌≡◌, ◌≤◌, length, sym, ap, ◌∙◌, arith}
use Rattle.shared_machine.proofs.CopyLemmas.{trace_prefix, length-replayed_events}
use Rattle.shared_machine.proofs.watching.watch.Receipt.followed.Goals as goal

pub returns-clause-later : goal.returns-clause-later
returns-clause-later g c =
    let less : length c.self.inside.seen ≤ length c.now.inside.seen = omega (arith, c.self.invariant, c.now.invariant, c.if-now-self.false) in
    rw (← c.self.view_is, ← c.now.view_is) (trace_prefix g.J.Naming.image c.self.inside.seen c.now.inside.seen (c.meet.ensures less))

pub returns-then-now-self-clause-older : goal.returns-then-now-self-clause-older
returns-then-now-self-clause-older g c none =
    let image = g.J.Naming.image in
    let seen : length c.args.self.now ≡ length c.self.inside.seen =
    ap length (sym c.self.view_is) ∙ length-replayed_events image c.self.inside.seen in
    let shown : length c.args.shown.now.core.trace ≡ length c.now.inside.seen =
    ap length (sym (c.now.view_is ∙ c.of_core-now.ensures)) ∙ length-replayed_events image c.now.inside.seen in
    omega (arith, seen, shown, c.self.invariant, c.now.invariant, c.if-now-self.true)
