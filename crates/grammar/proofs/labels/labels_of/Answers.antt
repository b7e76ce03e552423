use Rattle.std.proofs.Common.{◌≡◌, ◌+◌, ◌≤◌, ◌==◌, ap, length, rules, tests, arith}
use Rattle.std.proofs.lemmas.List.{length_push}
use Rattle.std.proofs.lemmas.Iterator.Consumers.{YieldsList-at}
use Rattle.std.proofs.lemmas.Iterator.Splits.{YieldsList-from_slice_split}
use Rattle.grammar.specs.Lines.{lines_of}
use Rattle.grammar.specs.Tokens.{token_at, tokens_of}
use Rattle.grammar.specs.LabelMap.{named_in}
use Rattle.grammar.proofs.ChainLemmas.{turn_of, end_of, from_here}
use Rattle.grammar.proofs.LabelLemmas.{label_first, label_last, count_first, count_last, count_at_most_one, lines_at_most, places_where}
use Rattle.grammar.proofs.labels.labels_of.Goals as goal

pub overflow_add-instructions : goal.overflow_add-instructions
overflow_add-instructions c =
    let turn = turn_of c.loop-line.yielded _ c.loop-line.yielded_by _ _ c.in-Some.line c.in-Some.is c.next.ensures.steps
    (YieldsList-at c.into_iter-line-iterator.ensures.into_iter_gives
    (YieldsList-from_slice_split _ (λ b. b == 10) c.args.text.now c.split-line-items.ensures.rest c.split-line-items.ensures.done c.split-line-items.ensures.closure (λ x b q k. search (rules, tests)))) in
    omega (arith, turn.0, lines_at_most c.args.text.now, c.in_ok-instructions.ensures.count, count_at_most_one (token_at (tokens_of c.in-Some.line.now) 0), c.loop-line.invariant.1)

pub loop-line-preserved : goal.loop-line-preserved
loop-line-preserved c =
    let turn = turn_of c.loop-line.yielded _ c.loop-line.yielded_by _ _ c.in-Some.line c.in-Some.is c.next.ensures.steps
    (YieldsList-at c.into_iter-line-iterator.ensures.into_iter_gives
    (YieldsList-from_slice_split _ (λ b. b == 10) c.args.text.now c.split-line-items.ensures.rest c.split-line-items.ensures.done c.split-line-items.ensures.closure (λ x b q k. search (rules, tests)))) in
    let here = from_here (lines_of c.args.text.now) (length c.loop-line.yielded) c.in-Some.line.now turn.0 turn.1 in
    let more = length_push c.loop-line.yielded c.in-Some.line in
    let place : c.loop-line.number ≡ length c.loop-line.yielded + 1 = c.loop-line.invariant.0 in
    let counted = c.in_ok-instructions.ensures.count in
    let added = ap (λ n. c.loop-line.instructions + n) counted in (
      omega (arith, more, place),
      omega (arith, more, counted, count_at_most_one (token_at (tokens_of c.in-Some.line.now) 0), c.loop-line.invariant.1),
      rw more (count_first _ _ _ c.in-Some.line.now _ added (rw here at c.loop-line.invariant.2)),
      λ q. rw (more, counted)
          (label_first _ (named_in c.loop-line.labels q) _ c.loop-line.number c.loop-line.instructions c.in-Some.line.now q _
          (c.in_ok-instructions.ensures.labels q) (rw here at (c.loop-line.invariant.3 q))),
    )

pub returns : goal.returns
returns c =
    let seen = end_of c.loop-line.yielded _ c.loop-line.yielded_by _ _ c.in-None.is c.next.ensures.steps
    (YieldsList-at c.into_iter-line-iterator.ensures.into_iter_gives
    (YieldsList-from_slice_split _ (λ b. b == 10) c.args.text.now c.split-line-items.ensures.rest c.split-line-items.ensures.done c.split-line-items.ensures.closure (λ x b q k. search (rules, tests)))) in
    let ended : length (lines_of c.args.text.now) ≤ length c.loop-line.yielded = omega (arith, seen.1) in
    places_where c.args.text.now _ (count_last _ _ (length c.loop-line.yielded) (lines_of c.args.text.now) ended c.loop-line.invariant.2)
    (λ q. label_last _ _ _ _ (length c.loop-line.yielded) q (lines_of c.args.text.now) ended (c.loop-line.invariant.3 q))
