use Rattle.std.proofs.Common.{◌≤◌, ◌==◌, length, rules, tests, arith}
use Rattle.std.proofs.lemmas.List.{length_push}
use Rattle.std.proofs.lemmas.Iterator.Consumers.{YieldsList-at}
use Rattle.std.proofs.lemmas.Iterator.Splits.{YieldsList-from_slice_split}
use Rattle.grammar.specs.Lines.{lines_of}
use Rattle.grammar.specs.Tokens.{texts}
use Rattle.grammar.proofs.ChainLemmas.{turn_of, end_of, from_here}
use Rattle.listing_faults.proofs.LineLemmas.{line_more, lines_end}
use Rattle.listing_faults.proofs.lines.lines_of.Goals as goal

pub loop-line-preserved : goal.loop-line-preserved
loop-line-preserved c =
    let turn = turn_of c.loop-line.yielded _ c.loop-line.yielded_by _ _ c.in-Some.line c.in-Some.is c.next.ensures.steps
    (YieldsList-at c.into_iter-line-iterator.ensures.into_iter_gives
    (YieldsList-from_slice_split _ (λ b. b == 10) c.args.text.now c.split-line-items.ensures.rest c.split-line-items.ensures.done c.split-line-items.ensures.closure (λ x b q k. search (rules, tests)))) in
    let here = from_here (lines_of c.args.text.now) (length c.loop-line.yielded) c.in-Some.line.now turn.0 turn.1 in
    let more = length_push c.loop-line.yielded c.in-Some.line in
    rw more (line_more (texts c.loop-line.lines.items) _ c.in-Some.line.now _ (lines_of c.args.text.now) c.in_ok-push_line.ensures (rw here at c.loop-line.invariant))

pub returns : goal.returns
returns c =
    let seen = end_of c.loop-line.yielded _ c.loop-line.yielded_by _ _ c.in-None.is c.next.ensures.steps
    (YieldsList-at c.into_iter-line-iterator.ensures.into_iter_gives
    (YieldsList-from_slice_split _ (λ b. b == 10) c.args.text.now c.split-line-items.ensures.rest c.split-line-items.ensures.done c.split-line-items.ensures.closure (λ x b q k. search (rules, tests)))) in
    let ended : length (lines_of c.args.text.now) ≤ length c.loop-line.yielded = omega (arith, seen.1) in
    lines_end (texts c.loop-line.lines.items) (length c.loop-line.yielded) _ ended c.loop-line.invariant
