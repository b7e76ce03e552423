-- the common symbols so far, and then the others
use Rattle.std.proofs.Common.{◌≡◌, ◌++◌, drop}
use Rattle.asm_links.specs.Order.{commons_from}
use Rattle.asm_links.proofs.order.push_commons.Given as goal

abbrev pub invariant-loop-number : goal.invariant-loop-number
invariant-loop-number l =
    l.order.items ++ commons_from l.number (drop l.number l.chunks) ≡ l.initial.order.items ++ commons_from 0 l.chunks
