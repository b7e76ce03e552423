-- the steps that are left are legal from here, and lead to the end
use Rattle.std.proofs.Common.{drop}
use Rattle.cheri_model.specs.runs.Replay.{state_after}
use Rattle.found_texts.proofs.ReplayLemmas.{GoesOn}
use Rattle.found_texts.proofs.replaying.take_steps.Given as goal

abbrev pub invariant-loop-op : goal.invariant-loop-op
invariant-loop-op l = GoesOn l.image (record { harts = l.harts; memory = l.ram }) (drop l.op-index l.order)
    (state_after l.image (record { harts = l.initial.harts; memory = l.initial.ram }) l.order)
