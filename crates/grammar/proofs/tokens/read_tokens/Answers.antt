use Rattle.std.proofs.Common.{◌≡◌, ◌≤◌, ◌++◌, ◌∙◌, length, drop, ap, arith}
use Rattle.std.proofs.lemmas.Bool.Decides.{nat_tests}
use Rattle.std.proofs.lemmas.List.{map-append, take_rest}
use Rattle.grammar.specs.Tokens.{before_end, texts, tokens_of}
use Rattle.grammar.proofs.EachToken.{token_taken, tokens_end, fewer_left}
use Rattle.grammar.proofs.tokens.read_tokens.Goals as goal

pub loop-start-init : goal.loop-start-init
loop-start-init c = ap (λ items. texts items ++ tokens_of c.args.line.now) c.clear.ensures.items

pub returns-then-is_empty : goal.returns-then-is_empty
returns-then-is_empty c =
    let first = c.before_end-token.ensures ∙ ap before_end c.after_blanks-start.ensures in
    let none : length c.before_end-token.result.now ≡ 0 = grind (arith, nat_tests, c.is_empty.ensures, c.if-is_empty.true) in
    tokens_end _ _ c.before_end-token.result.now c.loop-start.rest.now first none c.loop-start.invariant

pub loop-start-smaller : goal.loop-start-smaller
loop-start-smaller c =
    let first = c.before_end-token.ensures ∙ ap before_end c.after_blanks-start.ensures in
    let some : 1 ≤ length c.before_end-token.result.now = grind (arith, nat_tests, c.is_empty.ensures, c.if-is_empty.false) in
    let left = take_rest c.after_blanks-start.result.now (length c.before_end-token.result.now) ∙ ap (drop (length c.before_end-token.result.now)) c.after_blanks-start.ensures in
    fewer_left c.before_end-token.result.now c.loop-start.rest.now _ first some left

pub loop-start-preserved : goal.loop-start-preserved
loop-start-preserved c =
    let first = c.before_end-token.ensures ∙ ap before_end c.after_blanks-start.ensures in
    let some : 1 ≤ length c.before_end-token.result.now = grind (arith, nat_tests, c.is_empty.ensures, c.if-is_empty.false) in
    let left = take_rest c.after_blanks-start.result.now (length c.before_end-token.result.now) ∙ ap (drop (length c.before_end-token.result.now)) c.after_blanks-start.ensures in
    token_taken _ _ _ c.before_end-token.result.now c.loop-start.rest.now _ first some left (ap texts c.in_ok-push.ensures.items ∙ map-append (λ token. token.now) _ _) c.loop-start.invariant
