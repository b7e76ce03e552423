-- the operands so far, and then those that are left
use Rattle.std.proofs.Common.{◌≡◌, ◌-◌, length}
use Rattle.asm_statements.specs.Drafts.{parts_of}
use Rattle.asm_statements.specs.Marks.{source}
use Rattle.asm_statements.specs.Lists.{listed, listed_more}
use Rattle.asm_statements.proofs.reader.Reader.listed.Given as goal

abbrev pub invariant-loop : goal.invariant-loop
invariant-loop l =
    listed_more (length (source l.self) - l.counter) (source l.self) l.role l.next (parts_of l.draft)
    ≡ listed (source l.self) l.role l.at (parts_of l.fn.draft)
