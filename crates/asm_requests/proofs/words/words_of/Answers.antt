use Rattle.std.proofs.Common.{◌≡◌, ◌≤◌, length, ap, arith}
use Rattle.std.proofs.lemmas.Bool.Decides.{nat_tests}
use Rattle.std.proofs.lemmas.List.{length-drop}
use Rattle.asm_requests.proofs.WordLemmas.{blank_passed, word_taken, words_end}
use Rattle.asm_requests.proofs.words.words_of.Goals as goal

pub loop-rest-preserved-then-is_empty : goal.loop-rest-preserved-then-is_empty
loop-rest-preserved-then-is_empty c =
    let rest = c.loop-rest.rest.now in
    let some : 1 ≤ length rest = grind (arith, nat_tests, c.is_empty.ensures, c.loop-rest-test.true) in
    let none : length c.first_word-word.result.now ≡ 0 = grind (arith, nat_tests, c.is_empty-in-loop-rest.ensures, c.if-is_empty.true) in
    let left = c.after_first-rest.ensures in
    record {
      column = omega (arith, ap length left, length-drop 1 rest, c.loop-rest.invariant.column);
      words = blank_passed _ c.loop-rest.at rest _ c.first_word-word.result.now _ some c.first_word-word.ensures.value none left c.loop-rest.invariant.words;
    }

pub loop-rest-preserved : goal.loop-rest-preserved
loop-rest-preserved c =
    let rest = c.loop-rest.rest.now in
    let word = c.first_word-word.result.now in
    let some : 1 ≤ length word = grind (arith, nat_tests, c.is_empty-in-loop-rest.ensures, c.if-is_empty.false) in
    let left = c.after-rest.ensures in
    record {
      column = omega (arith, ap length left, length-drop (length word) rest, c.first_word-word.ensures.bound, c.loop-rest.invariant.column);
      words = word_taken c.loop-rest.words.items _ _ rest _ _ c.first_word-word.ensures.value some c.in_ok-push.ensures.items left c.loop-rest.invariant.words;
    }

pub returns : goal.returns
returns c =
    let none : length c.loop-rest.rest.now ≡ 0 = grind (arith, nat_tests, c.is_empty.ensures, c.loop-rest-test.false) in
    words_end _ c.loop-rest.at c.loop-rest.rest.now _ none c.loop-rest.invariant.words
