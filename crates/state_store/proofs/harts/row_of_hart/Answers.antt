use Rattle.std.proofs.Common.{◌≡◌, ◌≤◌, ◌<◌, ap, sym, ◌∙◌, Some, arith, length, slice_get, ℕ, List}
use Rattle.cap_model.specs.values.CapValue.{CapValue}
use Rattle.cheri_model.specs.steps.Hart.{register}
use Rattle.state_store.proofs.HartLemmas.{IsRowTo, row_more, row_done, register_at}
use Rattle.state_store.proofs.harts.row_of_hart.Goals as goal

pub loop-number-preserved : goal.loop-number-preserved
loop-number-preserved c =
    let inv = c.loop-number.invariant in
    let h = c.args.hart.now in
    let n = c.loop-number.number in
    let some : 0 < n = omega arith in
    let below : n < 32 = omega arith in
    let count = c.pcc.ensures.formed.count in
    let was : IsRowTo c.loop-number.values c.loop-number.row h n = record {
      width = inv.width;
      status = inv.status;
      pcc = inv.pcc;
      registers = inv.registers;
    } in
    let read = c.value-value.ensures.value ∙ (c.register.ensures.value ∙ ap (register h) c.new.ensures) in
    let value : slice_get c.number-in-loop-number.new.self c.in_ok-row-2.field-0 ≡ slice_get h.regs n =
    c.in_ok-row-2.ensures.numbered.0 ∙ (ap (λ (v : CapValue). Some v) read ∙ sym (register_at h n count below)) in
    let place : c.from.result ≡ n = omega arith in
    let more = row_more c.loop-number.values c.number-in-loop-number.new.self c.loop-number.row h n c.from.result
    c.in_ok-row-2.field-0 c.number-in-loop-number.ensures.kept was some below place count value in
    record {
      kept = λ i x is. c.number-in-loop-number.ensures.kept i x (inv.kept i x is);
      width = more.width;
      status = more.status;
      pcc = more.pcc;
      registers = more.registers;
    }

pub returns-clause-row : goal.returns-clause-row
returns-clause-row c =
    let inv = c.loop-number.invariant in
    let end : 32 ≤ c.loop-number.number = omega arith in
    row_done c.loop-number.values c.loop-number.row c.args.hart.now c.loop-number.number (record {
      width = inv.width;
      status = inv.status;
      pcc = inv.pcc;
      registers = inv.registers;
    }) end c.pcc.ensures.formed
