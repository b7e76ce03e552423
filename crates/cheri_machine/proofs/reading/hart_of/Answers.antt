use Rattle.std.proofs.Common.{◌∙◌, ap}
use Rattle.std.specs.Prelude.{slice_index_or}
use Rattle.cheri_model.specs.runs.Machine.{hart_at, no_hart}
use Rattle.cheri_machine.proofs.reading.hart_of.Goals as goal

pub returns : goal.returns
unfolding hart_at
returns c =
    c.hart_in.ensures ∙ ap (λ i. slice_index_or c.view-view.result.harts.now i no_hart) c.from.ensures
    ∙ ap (λ s. slice_index_or s.harts c.args.number no_hart) c.view-view.ensures.state
