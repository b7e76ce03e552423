-- the operations so far are written
use Rattle.std.proofs.Common.{◌≡◌, ◌++◌, drop, string_bytes}
use Rattle.order_texts.specs.OrderTexts.{operations_text}
use Rattle.order_texts.proofs.operations.write_operations.Given as goal

abbrev pub invariant-loop-op : goal.invariant-loop-op
invariant-loop-op l =
    string_bytes l.out ++ operations_text (drop l.op-index l.order)
    ≡ string_bytes l.initial.out ++ operations_text l.order
