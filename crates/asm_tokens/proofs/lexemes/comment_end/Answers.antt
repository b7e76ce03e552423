use Rattle.std.proofs.Common.{◌≡◌, ◌≤◌, ◌∙◌, sym, ap, length, length-drop, arith}
use Rattle.std.proofs.lemmas.Bool.Decides.{nat_tests}
use Rattle.asm_tokens.proofs.CommentLemmas.{comment_ends, comment_more, no_comment_end}
use Rattle.asm_tokens.proofs.lexemes.comment_end.Goals as goal

pub returns-then-ends_comment-clause-value : goal.returns-then-ends_comment-clause-value
returns-then-ends_comment-clause-value c =
    let some : 1 ≤ length c.loop-rest.rest.now = grind (arith, nat_tests, c.is_empty.ensures, c.loop-rest-test.true) in
    comment_ends _ c.loop-rest.rest.now _ some (sym c.ends_comment.ensures ∙ c.if-ends_comment.true) c.loop-rest.invariant.end

pub loop-rest-preserved : goal.loop-rest-preserved
loop-rest-preserved c =
    let some : 1 ≤ length c.loop-rest.rest.now = grind (arith, nat_tests, c.is_empty.ensures, c.loop-rest-test.true) in
    let left = c.skipped-rest.ensures in
    record {
      within = omega (arith, ap length left, length-drop 1 c.loop-rest.rest.now, c.loop-rest.invariant.within);
      end = comment_more _ c.loop-rest.rest.now _ _ some c.loop-rest.invariant.within left (sym c.ends_comment.ensures ∙ c.if-ends_comment.false) c.loop-rest.invariant.end;
    }

pub returns-clause-value : goal.returns-clause-value
returns-clause-value c =
    let none : length c.loop-rest.rest.now ≡ 0 = grind (arith, nat_tests, c.is_empty.ensures, c.loop-rest-test.false) in
    no_comment_end _ c.loop-rest.rest.now _ none c.loop-rest.invariant.end
