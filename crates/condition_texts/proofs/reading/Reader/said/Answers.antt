use Rattle.std.proofs.Common.{sym}
use Rattle.condition_texts.proofs.NestingLemmas.{said_added}
use Rattle.condition_texts.proofs.reading.Reader.said.Goals as goal

pub returns-clause-read : goal.returns-clause-read
returns-clause-read c =
    said_added _ c.in_ok-atom.atom c.in_ok-atom.next c.args.nodes.now.items _ (sym c.in_ok-atom.ensures.is) c.in_ok-push.ensures
