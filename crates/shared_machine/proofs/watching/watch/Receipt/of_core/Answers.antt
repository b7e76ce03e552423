-- All of a core's order gives its trace.
use Rattle.std.proofs.Common.{length, sym, ap, ◌∙◌}
use Rattle.cheri_model.specs.runs.Replay.{replayed_events}
use Rattle.cheri_model.proofs.Runs.Replays.{length-operations_of}
use Rattle.shared_machine.proofs.CopyLemmas.{trace_of_core}
use Rattle.shared_machine.proofs.watching.watch.Receipt.of_core.Goals as goal

pub invariant_of-result : goal.invariant_of-result
invariant_of-result g c =
    ap length c.view.ensures.entries ∙ (sym (length-operations_of c.args.core.now.trace) ∙ sym (ap length c.requires.order))

pub returns : goal.returns
returns g c =
    ap (replayed_events g.J.Naming.image) c.requires.order
    ∙ trace_of_core c.args.core.now g.J.Naming.image c.view.ensures.replay c.requires.image
