-- What a look has seen is the trace of the core that it shows.
use Rattle.std.proofs.Common.{ap, ◌∙◌}
use Rattle.shared_machine.specs.declared.watching.shown.Shown.{Shown}
use Rattle.shared_machine.proofs.watching.watch.Watch.look.Goals as goal

pub invariant_of-result : goal.invariant_of-result
invariant_of-result g c =
    (c.in-Ok.ensures.1.image_is, c.in-Some.ensures.trace ∙ ap (λ (s : Shown). s.core.trace) c.get.ensures)
