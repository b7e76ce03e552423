-- the kinds so far, and then those of the others
use Rattle.std.proofs.Common.{◌≡◌, drop}
use Rattle.asm_files.specs.Steps.{each_from}
use Rattle.asm_links.specs.Sections.{own_judged}
use Rattle.asm_links.proofs.sections.judge_row.Given as goal

abbrev pub invariant-loop-section : goal.invariant-loop-section
invariant-loop-section l =
    each_from (own_judged l.chunks l.file) l.section (drop l.section l.row) l.kinds.items
    ≡ each_from (own_judged l.chunks l.file) 0 l.row l.initial.kinds.items
