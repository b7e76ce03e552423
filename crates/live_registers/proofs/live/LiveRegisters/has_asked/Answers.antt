use Rattle.std.proofs.Common.{◌≡◌, ap, sym, ◌∙◌}
use Rattle.std.specs.Prelude.{slice_index_or}
use Rattle.std.proofs.lemmas.List.{get_or_read}
use Rattle.live_registers.specs.RegisterSets.{IsWithinBut}
use Rattle.live_registers.specs.LiveSets.{LiveSets}
use Rattle.live_registers.proofs.ScanLemmas.{asked_first, asked_more, asked_all}
use Rattle.live_registers.proofs.live.LiveRegisters.has_asked.Goals as goal

pub loop-set-init : goal.loop-set-init
loop-set-init c = asked_first c.args.self.now

pub loop-set-preserved : goal.loop-set-preserved
loop-set-preserved c =
    let same : c.deref-set-items.result.now ≡ c.args.self.now.sets =
    c.deref-set-items.ensures.value ∙ ap (λ (l : LiveSets). l.sets) c.self.view_is in
    let asked : c.self.inside.asked ≡ c.args.self.now.asked = ap (λ (l : LiveSets). l.asked) c.self.view_is in
    let read = get_or_read c.deref-set-items.result.now c.loop-set.set-index c.set-item.result c.loop-set-test.true c.set-item.is c.args.self.now.asked in
    let here : slice_index_or c.args.self.now.sets c.loop-set.set-index c.args.self.now.asked ≡ c.set-item.result = rw same at (sym read) in
    let within : IsWithinBut c.args.self.now.asked 0 c.set-item.result =
    rw (asked, c.new.ensures) at (c.is_within_but.ensures c.if-not-is_within_but.false) in
    asked_more c.args.self.now c.loop-set.set-index c.set-item.result here within c.loop-set.invariant

pub returns : goal.returns
returns c =
    let same : c.deref-set-items.result.now ≡ c.args.self.now.sets =
    c.deref-set-items.ensures.value ∙ ap (λ (l : LiveSets). l.sets) c.self.view_is in
    λ t. asked_all c.args.self.now c.loop-set.set-index (rw same at c.loop-set-test.false) c.loop-set.invariant
