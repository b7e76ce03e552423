use Rattle.std.proofs.Common.{◌<◌, arith}
use Rattle.sinks.proofs.SinkLemmas.{takes_none}
use Rattle.cheri_model.specs.runs.Replay.{operations_of}
use Rattle.explanations.specs.Explanation.{explained_events}
use Rattle.explained_page.proofs.LookLemmas.{none_from}
use Rattle.explained_page.proofs.look.put_selected.Goals as goal

pub returns-in_err-push_str-clause-prefix : goal.returns-in_err-push_str-clause-prefix
returns-in_err-push_str-clause-prefix g c = (_, takes_none _ _)

pub returns-then-selection-clause-prefix : goal.returns-then-selection-clause-prefix
returns-then-selection-clause-prefix g c = (_, takes_none _ _)

pub returns-then-selection-clause-whole : goal.returns-then-selection-clause-whole
returns-then-selection-clause-whole g c =
    let core = c.args.core.now in
    let less : c.args.selection.last < c.args.selection.first = omega arith in
    let none = none_from c.args.lines.now c.args.selection 0 (explained_events core.image (operations_of core.trace)) less in
    rw (none, c.in_ok-push_str.ensures.bytes) (takes_none _ _)
