-- what the items so far ask for
use Rattle.std.proofs.Common.{take}
use Rattle.std.specs.List.{list_any}
use Rattle.asked_registers.specs.Asked.{IsWith, item_asks}
use Rattle.asked_registers.proofs.asked.with_items.Given as goal

abbrev pub invariant-loop-item : goal.invariant-loop-item
invariant-loop-item l = IsWith l.fn.set (λ reg. list_any (λ item. item_asks item reg) (take l.item-index l.items)) l.asked
