use Rattle.std.proofs.Common.{refl}
use Rattle.std.proofs.lemmas.Result.{err_from_is_err_and}
use Rattle.asm_tokens.specs.Tokens.{token_parts}
use Rattle.asm_files.specs.Requests.{token_step, file_requests}
use Rattle.asm_files.proofs.StepLemmas.{each_next, each_refused, each_done}
use Rattle.asm_files.proofs.requests.Requests.put_tokens.Goals as goal

pub loop-token-preserved : goal.loop-token-preserved
loop-token-preserved c =
    each_next (token_step c.args.number) token_parts c.args.tokens.now c.loop-token.token-index _ _ _ _ c.loop-token-test.true refl
    c.loop-token.invariant _ c.in_ok-put_token.ensures

pub returns-in_err-put_token : goal.returns-in_err-put_token
unfolding file_requests
returns-in_err-put_token c =
    let p = err_from_is_err_and c.from_residual.result c.from_residual.ensures.1 in
    rw (p.1, p.2) (each_refused (token_step c.args.number) token_parts c.args.tokens.now c.loop-token.token-index _ _ _ _ c.loop-token-test.true refl
    c.loop-token.invariant _ _ c.in_err-put_token.ensures)

pub returns : goal.returns
unfolding file_requests
returns c = each_done (token_step c.args.number) token_parts c.args.tokens.now c.loop-token.token-index _ _ c.loop-token-test.false c.loop-token.invariant
