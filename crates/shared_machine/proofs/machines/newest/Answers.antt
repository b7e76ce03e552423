-- The newest event of a trace stands at its last place.
use Rattle.std.proofs.Common.{◌∙◌}
use Rattle.shared_machine.proofs.CopyLemmas.{read_newest}
use Rattle.shared_machine.proofs.machines.newest.Goals as goal

pub returns : goal.returns
returns c = λ before newest is. read_newest c.view.result.entries.now before newest _ (c.view.ensures.entries ∙ is)
