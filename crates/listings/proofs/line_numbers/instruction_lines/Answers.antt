use Rattle.std.proofs.Common.{◌≡◌, ◌+◌, ◌≤◌, ◌==◌, length, rules, tests, arith}
use Rattle.std.proofs.lemmas.List.{length_push}
use Rattle.std.proofs.lemmas.Iterator.Consumers.{YieldsList-at}
use Rattle.std.proofs.lemmas.Iterator.Splits.{YieldsList-from_slice_split}
use Rattle.grammar.specs.Lines.{lines_of}
use Rattle.grammar.proofs.ChainLemmas.{turn_of, end_of, from_here}
use Rattle.grammar.proofs.LabelLemmas.{lines_at_most}
use Rattle.listings.proofs.LineLemmas.{number_put, numbers_end}
use Rattle.listings.proofs.line_numbers.instruction_lines.Goals as goal

pub overflow_add-number : goal.overflow_add-number
overflow_add-number c =
    let turn = turn_of c.loop-line.yielded _ c.loop-line.yielded_by _ _ c.in-Some.line c.in-Some.is c.next.ensures.steps
    (YieldsList-at c.into_iter-line-iterator.ensures.into_iter_gives
    (YieldsList-from_slice_split _ (λ b. b == 10) c.args.text.now c.split-line-items.ensures.rest c.split-line-items.ensures.done c.split-line-items.ensures.closure (λ x b q k. search (rules, tests)))) in
    omega (arith, turn.0, lines_at_most c.args.text.now, c.loop-line.invariant.0)

pub loop-line-preserved : goal.loop-line-preserved
loop-line-preserved c =
    let turn = turn_of c.loop-line.yielded _ c.loop-line.yielded_by _ _ c.in-Some.line c.in-Some.is c.next.ensures.steps
    (YieldsList-at c.into_iter-line-iterator.ensures.into_iter_gives
    (YieldsList-from_slice_split _ (λ b. b == 10) c.args.text.now c.split-line-items.ensures.rest c.split-line-items.ensures.done c.split-line-items.ensures.closure (λ x b q k. search (rules, tests)))) in
    let here = from_here (lines_of c.args.text.now) (length c.loop-line.yielded) c.in-Some.line.now turn.0 turn.1 in
    let more = length_push c.loop-line.yielded c.in-Some.line in
    let place : c.loop-line.number ≡ length c.loop-line.yielded + 1 = c.loop-line.invariant.0 in (
      omega (arith, more, place),
      rw more (number_put _ _ _ _ c.in-Some.line.now _ c.in_ok-push_line.ensures (rw here at c.loop-line.invariant.1)),
    )

pub returns : goal.returns
returns c =
    let seen = end_of c.loop-line.yielded _ c.loop-line.yielded_by _ _ c.in-None.is c.next.ensures.steps
    (YieldsList-at c.into_iter-line-iterator.ensures.into_iter_gives
    (YieldsList-from_slice_split _ (λ b. b == 10) c.args.text.now c.split-line-items.ensures.rest c.split-line-items.ensures.done c.split-line-items.ensures.closure (λ x b q k. search (rules, tests)))) in
    let ended : length (lines_of c.args.text.now) ≤ length c.loop-line.yielded = omega (arith, seen.1) in
    numbers_end _ _ _ (length c.loop-line.yielded) (lines_of c.args.text.now) ended c.loop-line.invariant.1
