use Rattle.std.proofs.Common.{Ok, sym, ap, ◌∙◌, arith}
use Rattle.asm_symbols.specs.Names.{names_of}
use Rattle.asm_files.specs.Programs.{program_parts}
use Rattle.asm_tables.proofs.NameLemmas.{behind_refused, behind_place, behind_next, behind_last}
use Rattle.asm_tables.proofs.names.behind.Goals as goal

pub returns-in-Err : goal.returns-in-Err
returns-in-Err c =
    sym (behind_refused (program_parts c.args.program.now) (names_of c.args.seen.now) c.loop-left.left c.loop-left.symbol _ c.loop-left.invariant c.loop-left-test.true
    c.in-Err.kind (sym c.in-Err.ensures))

pub returns-in-None : goal.returns-in-None
returns-in-None c =
    sym (behind_place (program_parts c.args.program.now) (names_of c.args.seen.now) c.loop-left.left c.loop-left.symbol _ c.loop-left.invariant c.loop-left-test.true
    (sym c.in-Ok.ensures ∙ ap Ok c.in-None.is))

pub loop-left-preserved : goal.loop-left-preserved
loop-left-preserved c =
    behind_next (program_parts c.args.program.now) (names_of c.args.seen.now) c.loop-left.left c.loop-left.symbol _ c.loop-left.invariant c.loop-left-test.true
    c.in-Some.next (sym c.in-Ok.ensures ∙ ap Ok c.in-Some.is)

pub returns : goal.returns
returns c =
    sym (behind_last (program_parts c.args.program.now) (names_of c.args.seen.now) c.loop-left.left c.loop-left.symbol _ c.loop-left.invariant (omega arith))
