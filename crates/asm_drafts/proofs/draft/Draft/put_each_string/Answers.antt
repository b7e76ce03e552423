use Rattle.std.proofs.Common.{map, refl}
use Rattle.std.proofs.lemmas.Result.{err_from_is_err_and}
use Rattle.asm_tokens.specs.Tokens.{token_parts}
use Rattle.asm_drafts.specs.Bytes.{string_at}
use Rattle.asm_drafts.proofs.EachLemmas.{each_step, each_refused, each_end}
use Rattle.asm_drafts.proofs.draft.Draft.put_each_string.Goals as goal

pub loop-operand-preserved : goal.loop-operand-preserved
loop-operand-preserved c =
    each_step (string_at (map token_parts c.args.tokens.now) c.args.at c.args.zeros) c.args.operands.now c.loop-operand.operand-index _ _ _ _ c.loop-operand-test.true refl
    c.loop-operand.invariant _ c.in_ok-put_string.ensures

pub returns-in_err-put_string : goal.returns-in_err-put_string
returns-in_err-put_string c =
    let p = err_from_is_err_and c.from_residual.result c.from_residual.ensures.1 in
    rw (p.1, p.2) (each_refused (string_at (map token_parts c.args.tokens.now) c.args.at c.args.zeros) c.args.operands.now c.loop-operand.operand-index _ _ _ _ c.loop-operand-test.true refl
    c.loop-operand.invariant _ c.in_err-put_string.ensures)

pub returns : goal.returns
returns c = each_end (string_at (map token_parts c.args.tokens.now) c.args.at c.args.zeros) c.args.operands.now c.loop-operand.operand-index _ _ c.loop-operand-test.false c.loop-operand.invariant
