use Rattle.std.proofs.Common.{arith, ap, sym, ◌∙◌}
use Rattle.std.proofs.lemmas.List.Edits.{map_over_more}
use Rattle.cap_model.specs.results.Readings.{number_of}
use Rattle.cap_model.specs.results.Swept.{is_in_sweep, swept}
use Rattle.hart.proofs.SweptHarts.{register_ahead, register_more}
use Rattle.hart.proofs.hart.sweep_registers.Goals as goal

pub loop-value-preserved : goal.loop-value-preserved
loop-value-preserved c =
    let a = c.args in
    let before = c.loop-value.invariant in
    let test = c.loop-value-test.true in
    let is = c.value-item.is in
    let i = c.loop-value.value-index in
    let item = c.value-item.result in
    let more = map_over_more (swept a.lo a.hi) a.regs.now c.loop-value.regs i item (omega arith) before.swept_so_far is in
    let new = c.sweep_value-cleared.ensures.swept ∙ ap (swept a.lo a.hi) (sym is) in
    let count = c.sweep_value-cleared.ensures.cleared ∙ ap (λ v. number_of (is_in_sweep a.lo a.hi v)) (sym is) in
    let counted = register_more a.lo a.hi a.regs.now i item (omega arith) (register_ahead a.lo a.hi a.regs.now c.loop-value.regs i item (omega arith) before.swept_so_far is) in
    record { swept_so_far = rw new more; counted = omega (arith, count, counted, before.counted) }
