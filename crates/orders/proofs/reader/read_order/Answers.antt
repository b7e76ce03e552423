use Rattle.std.proofs.Common.{◌≡◌, ◌∙◌, Ok, sym, ap}
use Rattle.orders.specs.Orders.{order_of}
use Rattle.orders.proofs.AskedLemmas.{order_asked, order_short}
use Rattle.orders.proofs.reader.read_order.Goals as goal

pub returns-clause-operations : goal.returns-clause-operations
returns-clause-operations c =
    let order : order_of c.args.text.now ≡ Ok c.in_ok-operations.operations.items =
    sym c.in_ok-order.ensures.meaning ∙ ap Ok (sym c.in_ok-operations.ensures) in
    order_asked c.args.text.now c.in_ok-operations.operations.items order

pub returns-clause-limit : goal.returns-clause-limit
returns-clause-limit c =
    let order : order_of c.args.text.now ≡ Ok c.in_ok-operations.operations.items =
    sym c.in_ok-order.ensures.meaning ∙ ap Ok (sym c.in_ok-operations.ensures) in
    order_short c.args.text.now c.in_ok-operations.operations.items order
