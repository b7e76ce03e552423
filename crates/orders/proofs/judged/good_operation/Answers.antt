use Rattle.orders.proofs.OrderLemmas.{token_good, read_before}
use Rattle.orders.proofs.judged.good_operation.Goals as goal

pub unwrap-requires : goal.unwrap-requires
unwrap-requires c =
    let good = token_good c.args.text.now c.args.place c.requires.inside c.requires.good in
    read_before c.operation_at.result (rw c.operation_at.ensures.token at good)
