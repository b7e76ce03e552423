-- Blanks are passed over, and then an operation; what is left is one operation less.
use Rattle.std.proofs.Common.{◌<◌, ◌∙◌, Some, IsOk, length, arith, sym, ap}
use Rattle.orders.specs.Orders.{from_place, or_none, left_from}
use Rattle.orders.proofs.AskedLemmas.{asked_of_token}
use Rattle.orders.proofs.OrderLemmas.{token_passed, room_left}
use Rattle.orders.proofs.judged.JudgedOrder.next.Goals as goal

pub good_operation-operation-requires-clause-inside : goal.good_operation-operation-requires-clause-inside
good_operation-operation-requires-clause-inside c =
    let text = c.self.inside.text.now in
    let same = ap or_none c.after_blanks-place.ensures.same in
    let some : 0 < length (left_from text c.after_blanks-place.result) = rw same (omega (arith, c.self.invariant.1, c.if-self-eq0.false)) in
    room_left text c.after_blanks-place.result some

pub invariant_of-self : goal.invariant_of-self
invariant_of-self c =
    let text = c.self.inside.text.now in
    let place = c.after_blanks-place.result in
    let operation = c.good_operation-operation in
    let same = ap or_none c.after_blanks-place.ensures.same in
    let some : 0 < length (left_from text place) = rw same (omega (arith, c.self.invariant.1, c.if-self-eq0.false)) in
    let good : IsOk (from_place text place) = rw c.after_blanks-place.ensures.same c.self.invariant.0.good in
    let passed = token_passed text place (Some operation.result.0) operation.result.1 (room_left text place some) good operation.ensures.token operation.ensures.next.0 in
    let count = ap length (sym same ∙ passed.left) in
    (record { inside = operation.ensures.next.1; good = passed.good }, omega (arith, c.self.invariant.1, count))

pub returns-clause-next : goal.returns-clause-next
returns-clause-next c =
    let text = c.self.inside.text.now in
    let place = c.after_blanks-place.result in
    let operation = c.good_operation-operation in
    let same = ap or_none c.after_blanks-place.ensures.same in
    let some : 0 < length (left_from text place) = rw same (omega (arith, c.self.invariant.1, c.if-self-eq0.false)) in
    let good : IsOk (from_place text place) = rw c.after_blanks-place.ensures.same c.self.invariant.0.good in
    let passed = token_passed text place (Some operation.result.0) operation.result.1 (room_left text place some) good operation.ensures.token operation.ensures.next.0 in
    sym c.self.view_is ∙ sym same ∙ passed.left

pub returns-clause-asked : goal.returns-clause-asked
returns-clause-asked c =
    let operation = c.good_operation-operation in
    asked_of_token c.self.inside.text.now c.after_blanks-place.result _ (Some operation.result.0) operation.result.1 operation.ensures.token
