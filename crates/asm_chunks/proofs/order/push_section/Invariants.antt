-- the chunks so far, and then those of the other files
use Rattle.std.proofs.Common.{◌≡◌, ◌++◌, drop, map}
use Rattle.asm_chunks.specs.Order.{of_section, row_items}
use Rattle.asm_chunks.proofs.order.push_section.Given as goal

abbrev pub invariant-loop-row : goal.invariant-loop-row
invariant-loop-row l =
    l.order.items ++ of_section l.section (map row_items (drop l.row-index l.rows)) ≡ l.initial.order.items ++ of_section l.section (map row_items l.rows)
