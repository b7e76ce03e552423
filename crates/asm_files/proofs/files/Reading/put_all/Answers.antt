use Rattle.std.proofs.Common.{map}
use Rattle.std.proofs.lemmas.Result.{err_from_is_err_and}
use Rattle.asm_tokens.specs.Tokens.{token_parts}
use Rattle.asm_statements.specs.Statements.{statement_parts}
use Rattle.asm_files.specs.Sections.{sections_parts}
use Rattle.asm_files.specs.Files.{statement_step, statements_put}
use Rattle.asm_files.proofs.StepLemmas.{each_next, each_refused, each_done}
use Rattle.asm_files.proofs.files.Reading.put_all.Goals as goal

pub loop-number-preserved : goal.loop-number-preserved
loop-number-preserved c =
    each_next (statement_step (sections_parts c.args.sections.now) (map token_parts c.args.tokens.now)) statement_parts c.args.statements.now c.loop-number.number c.index-statements-number.result c.index-statements-number.result _ _ c.loop-number-test.true c.index-statements-number.is
    c.loop-number.invariant _ c.in_ok-put.ensures

pub returns-in_err-put : goal.returns-in_err-put
unfolding statements_put
returns-in_err-put c =
    let p = err_from_is_err_and c.from_residual.result c.from_residual.ensures.1 in
    rw (p.1, p.2) (each_refused (statement_step (sections_parts c.args.sections.now) (map token_parts c.args.tokens.now)) statement_parts c.args.statements.now c.loop-number.number c.index-statements-number.result c.index-statements-number.result _ _ c.loop-number-test.true c.index-statements-number.is
    c.loop-number.invariant _ _ c.in_err-put.ensures)

pub returns : goal.returns
unfolding statements_put
returns c = each_done (statement_step (sections_parts c.args.sections.now) (map token_parts c.args.tokens.now)) statement_parts c.args.statements.now c.loop-number.number _ _ c.loop-number-test.false c.loop-number.invariant
