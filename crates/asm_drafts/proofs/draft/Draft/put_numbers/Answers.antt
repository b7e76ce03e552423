use Rattle.std.proofs.Common.{None, get_or, map, refl}
use Rattle.std.proofs.lemmas.Result.{err_from_is_err_and}
use Rattle.asm_tokens.specs.Tokens.{token_parts}
use Rattle.asm_statements.specs.declared.statement.Operand.{Operand}
use Rattle.asm_statements.specs.declared.statement.Role.TheVariants.{Absent}
use Rattle.asm_drafts.specs.Bytes.{number_at}
use Rattle.asm_drafts.proofs.EachLemmas.{each_step, each_refused, each_end}
use Rattle.asm_drafts.proofs.draft.Draft.put_numbers.Goals as goal

-- a number's operand says nothing of it here
none : Operand
none = record { role = Absent; relocation = None; first = 0; end = 0 }

pub loop-operand-preserved : goal.loop-operand-preserved
loop-operand-preserved c =
    each_step (number_at (map token_parts c.args.tokens.now) c.args.at c.args.width) c.args.operands.now c.loop-operand._operand-index none
    (get_or c.args.operands.now c.loop-operand._operand-index none) _ _ c.loop-operand-test.true refl
    c.loop-operand.invariant _ c.in_ok-put_number.ensures

pub returns-in_err-put_number : goal.returns-in_err-put_number
returns-in_err-put_number c =
    let p = err_from_is_err_and c.from_residual.result c.from_residual.ensures.1 in
    rw (p.1, p.2) (each_refused (number_at (map token_parts c.args.tokens.now) c.args.at c.args.width) c.args.operands.now c.loop-operand._operand-index none
    (get_or c.args.operands.now c.loop-operand._operand-index none) _ _ c.loop-operand-test.true refl
    c.loop-operand.invariant _ c.in_err-put_number.ensures)

pub returns : goal.returns
returns c = each_end (number_at (map token_parts c.args.tokens.now) c.args.at c.args.width) c.args.operands.now c.loop-operand._operand-index _ _ c.loop-operand-test.false c.loop-operand.invariant
