use Rattle.std.proofs.Common.{◌≡◌, ap, ◌∙◌}
use Rattle.live_registers.specs.LiveSets.{LiveSets}
use Rattle.live_registers.proofs.ScanLemmas.{all_at}
use Rattle.live_registers.proofs.live.LiveRegisters.anywhere.Goals as goal

pub returns : goal.returns
returns c =
    let same : c.deref-set-items.result.now ≡ c.args.self.now.sets =
    c.deref-set-items.ensures.value ∙ ap (λ (l : LiveSets). l.sets) c.self.view_is in
    all_at c.args.self.now c.loop-set.all c.loop-set.set-index (rw same at c.loop-set-test.false) c.loop-set.invariant
