-- what the items so far name
use Rattle.std.proofs.Common.{take}
use Rattle.std.specs.List.{list_any}
use Rattle.named_harts.specs.NamedHarts.{IsSetOf}
use Rattle.named_items.specs.NamedItems.{item_names}
use Rattle.named_items.proofs.named.named_items.Given as goal

abbrev pub invariant-loop-item : goal.invariant-loop-item
invariant-loop-item l = IsSetOf (λ hart. list_any (λ item. item_names item hart) (take l.item-index l.items)) l.named
