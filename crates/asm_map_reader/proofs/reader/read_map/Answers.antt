use Rattle.std.proofs.Common.{◌≡◌, ◌+◌, ◌≤◌, ◌==◌, length, rules, tests, arith, sym, subst, refl, Result, List, ℕ}
use Rattle.std.proofs.lemmas.List.{length_push}
use Rattle.std.proofs.lemmas.Iterator.Consumers.{YieldsList-at}
use Rattle.std.proofs.lemmas.Iterator.Splits.{YieldsList-from_slice_split}
use Rattle.grammar.specs.Lines.{lines_of}
use Rattle.grammar.proofs.ChainLemmas.{turn_of, end_of, from_here}
use Rattle.grammar.proofs.LabelLemmas.{lines_at_most}
use Rattle.asm_map_reader.specs.Drafts.{Gives}
use Rattle.asm_map_reader.specs.Reading.{empty_draft, map_meaning}
use Rattle.asm_map_reader.specs.Sources.{SourceParts}
use Rattle.asm_map_reader.proofs.ReadingLemmas.{after_line, at_fault, after_last}
use Rattle.asm_map_reader.proofs.reader.read_map.Goals as goal

pub loop-line-init : goal.loop-line-init
unfolding map_meaning
loop-line-init c = (refl, rw c.empty_draft-draft.ensures refl)

pub overflow_add-number : goal.overflow_add-number
overflow_add-number c =
    let turn = turn_of c.loop-line.yielded _ c.loop-line.yielded_by _ _ c.in-Some.line c.in-Some.is c.next.ensures.steps
    (YieldsList-at c.into_iter-line-iterator.ensures.into_iter_gives
    (YieldsList-from_slice_split _ (λ b. b == 10) c.args.text.now c.split-line-items.ensures.rest c.split-line-items.ensures.done c.split-line-items.ensures.closure (λ x b q k. search (rules, tests)))) in
    omega (arith, turn.0, lines_at_most c.args.text.now, c.loop-line.invariant.0)

pub returns-in-Err : goal.returns-in-Err
returns-in-Err c =
    let turn = turn_of c.loop-line.yielded _ c.loop-line.yielded_by _ _ c.in-Some.line c.in-Some.is c.next.ensures.steps
    (YieldsList-at c.into_iter-line-iterator.ensures.into_iter_gives
    (YieldsList-from_slice_split _ (λ b. b == 10) c.args.text.now c.split-line-items.ensures.rest c.split-line-items.ensures.done c.split-line-items.ensures.closure (λ x b q k. search (rules, tests)))) in
    let here = from_here (lines_of c.args.text.now) (length c.loop-line.yielded) c.in-Some.line.now turn.0 turn.1 in
    rw c.at.ensures (at_fault _ _ _ _ _ _ c.in-Err.fault _ c.in-Err.ensures (rw here at c.loop-line.invariant.1))

pub loop-line-preserved : goal.loop-line-preserved
loop-line-preserved c =
    let turn = turn_of c.loop-line.yielded _ c.loop-line.yielded_by _ _ c.in-Some.line c.in-Some.is c.next.ensures.steps
    (YieldsList-at c.into_iter-line-iterator.ensures.into_iter_gives
    (YieldsList-from_slice_split _ (λ b. b == 10) c.args.text.now c.split-line-items.ensures.rest c.split-line-items.ensures.done c.split-line-items.ensures.closure (λ x b q k. search (rules, tests)))) in
    let here = from_here (lines_of c.args.text.now) (length c.loop-line.yielded) c.in-Some.line.now turn.0 turn.1 in
    let more = length_push c.loop-line.yielded c.in-Some.line in
    let place : c.loop-line.number ≡ length c.loop-line.yielded + 1 = c.loop-line.invariant.0 in (
      omega (arith, more, place),
      rw more (after_line _ _ _ _ _ _ _ c.in-Ok.ensures (rw here at c.loop-line.invariant.1)),
    )

pub returns : goal.returns
returns c =
    let seen = end_of c.loop-line.yielded _ c.loop-line.yielded_by _ _ c.in-None.is c.next.ensures.steps
    (YieldsList-at c.into_iter-line-iterator.ensures.into_iter_gives
    (YieldsList-from_slice_split _ (λ b. b == 10) c.args.text.now c.split-line-items.ensures.rest c.split-line-items.ensures.done c.split-line-items.ensures.closure (λ x b q k. search (rules, tests)))) in
    let ended : length (lines_of c.args.text.now) ≤ length c.loop-line.yielded = omega (arith, seen.1) in
    let is = after_last _ (lines_of c.args.text.now) (length c.loop-line.yielded) _ _ _ ended c.loop-line.invariant.1 in
    subst (λ (m : Result (List SourceParts) ℕ). Gives c.finished.result m) (sym is) c.finished.ensures
