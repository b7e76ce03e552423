-- the order of the sections so far
use Rattle.std.proofs.Common.{◌≡◌, map}
use Rattle.asm_chunks.specs.Order.{row_items, section_order}
use Rattle.asm_chunks.proofs.order.section_order.Given as goal

abbrev pub invariant-loop-section : goal.invariant-loop-section
invariant-loop-section l = l.order.items ≡ section_order l.section (map row_items l.rows)
