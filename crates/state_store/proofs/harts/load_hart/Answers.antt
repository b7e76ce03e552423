use Rattle.std.proofs.Common.{◌≡◌, ◌≤◌, ◌<◌, ◌+◌, ap, sym, ◌∙◌, Some, arith, length, slice_get, slice_index_or, ℕ, List, subst}
use Rattle.cap_model.specs.values.CapValue.{CapValue}
use Rattle.cheri_model.specs.steps.Hart.{HartState, put}
use Rattle.state_store.specs.Stores.{hart_of}
use Rattle.state_store.proofs.NumberedLemmas.{some_of}
use Rattle.state_store.proofs.HartLemmas.{IsRowTo, IsLoadable, loadable, load_more, row_done}
use Rattle.state_store.proofs.harts.load_hart.Goals as goal

pub bounds-row-0 : goal.bounds-row-0
bounds-row-0 c =
    let h = some_of (hart_of c.args.values.now c.args.row.now) c.requires in
    let width = (loadable c.args.values.now c.args.row.now h.0 h.1).width in
    omega arith

pub status_of-requires : goal.status_of-requires
status_of-requires c =
    let h = some_of (hart_of c.args.values.now c.args.row.now) c.requires in
    (loadable c.args.values.now c.args.row.now h.0 h.1).status

pub bounds-row-1 : goal.bounds-row-1
bounds-row-1 c =
    let h = some_of (hart_of c.args.values.now c.args.row.now) c.requires in
    let width = (loadable c.args.values.now c.args.row.now h.0 h.1).width in
    omega arith

pub value-requires : goal.value-requires
value-requires c =
    let h = some_of (hart_of c.args.values.now c.args.row.now) c.requires in
    (loadable c.args.values.now c.args.row.now h.0 h.1).within 1 (omega arith) (omega arith)

pub bounds-row-from : goal.bounds-row-from
bounds-row-from c =
    let h = some_of (hart_of c.args.values.now c.args.row.now) c.requires in
    let width = (loadable c.args.values.now c.args.row.now h.0 h.1).width in
    omega arith

pub value-value-requires : goal.value-value-requires
value-value-requires c =
    let h = some_of (hart_of c.args.values.now c.args.row.now) c.requires in
    (loadable c.args.values.now c.args.row.now h.0 h.1).within (c.from.result + 1) (omega arith) (omega arith)

pub loop-number-preserved : goal.loop-number-preserved
loop-number-preserved c =
    let inv = c.loop-number.invariant in
    let values = c.args.values.now in
    let row = c.args.row.now in
    let n = c.loop-number.number in
    let some : 0 < n = omega arith in
    let below : n < 32 = omega arith in
    let h = some_of (hart_of values row) c.requires in
    let was : IsRowTo values row c.loop-number.hart n = record {
      width = (loadable values row h.0 h.1).width;
      status = inv.status;
      pcc = inv.pcc;
      registers = inv.registers;
    } in
    let place : c.from.result ≡ n = omega arith in
    let index : c.from.result + 1 ≡ n + 1 = omega arith in
    let value : slice_get values (slice_index_or row (n + 1) 0) ≡ Some c.value-value.result =
    ap (λ (k : ℕ). slice_get values (slice_index_or row k 0)) (sym index) ∙ c.value-value.ensures in
    let number : c.new.result ≡ n = c.new.ensures in
    let more = load_more values row c.loop-number.hart n c.new.result c.value-value.result was some below number inv.count value in
    let left : c.put.new.self ≡ put c.new.result c.value-value.result c.loop-number.hart =
    c.put.ensures.value ∙ ap (λ (v : CapValue). put c.new.result v c.loop-number.hart) c.of_value-in-loop-number.ensures in
    let moved = subst (λ (k : HartState). IsRowTo values row k (n + 1) × (length k.regs ≡ 32)) (sym left) more in
    record {
      count = moved.1;
      status = moved.0.status;
      pcc = moved.0.pcc;
      registers = moved.0.registers;
    }

pub returns : goal.returns
returns c =
    let inv = c.loop-number.invariant in
    let values = c.args.values.now in
    let row = c.args.row.now in
    let h = some_of (hart_of values row) c.requires in
    let end : 32 ≤ c.loop-number.number = omega arith in
    row_done values row c.loop-number.hart c.loop-number.number (record {
      width = (loadable values row h.0 h.1).width;
      status = inv.status;
      pcc = inv.pcc;
      registers = inv.registers;
    }) end c.pcc-pcc-2.ensures.formed
