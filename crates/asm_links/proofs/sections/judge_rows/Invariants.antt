-- the kinds so far, and then those of the others
use Rattle.std.proofs.Common.{◌≡◌, drop, map}
use Rattle.asm_files.specs.Steps.{each_from}
use Rattle.asm_chunks.specs.Order.{row_items}
use Rattle.asm_links.specs.Sections.{row_judged}
use Rattle.asm_links.proofs.sections.judge_rows.Given as goal

abbrev pub invariant-loop-file : goal.invariant-loop-file
invariant-loop-file l =
    each_from (row_judged l.chunks) l.file (map row_items (drop l.file l.rows)) l.kinds.items
    ≡ each_from (row_judged l.chunks) 0 (map row_items l.rows) l.initial.kinds.items
