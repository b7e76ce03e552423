use Rattle.std.proofs.Common.{◌≡◌, ◌+◌, ◌≤◌, ◌==◌, length, rules, tests, arith, refl}
use Rattle.std.proofs.lemmas.List.{length_push}
use Rattle.std.proofs.lemmas.Iterator.Consumers.{YieldsList-at}
use Rattle.std.proofs.lemmas.Iterator.Splits.{YieldsList-from_slice_split}
use Rattle.grammar.specs.Lines.{lines_of}
use Rattle.listing_maps.specs.Names.{names_of}
use Rattle.grammar.proofs.ChainLemmas.{turn_of, end_of, from_here}
use Rattle.grammar.proofs.PlainTexts.{plain_at}
use Rattle.explore_properties.proofs.ReadingLemmas.{after_line, at_fault, after_last}
use Rattle.explore_properties.proofs.statements.Reader.read_lines.Goals as goal

pub read_line-requires : goal.read_line-requires
read_line-requires c =
    let turn = turn_of c.loop-bytes.yielded _ c.loop-bytes.yielded_by _ _ c.in-Some.bytes c.in-Some.is c.next.ensures.steps
    (YieldsList-at c.into_iter-bytes-iterator.ensures.into_iter_gives
    (YieldsList-from_slice_split _ (λ b. b == 10) c.args.text.now c.split-bytes-items.ensures.rest c.split-bytes-items.ensures.done c.split-bytes-items.ensures.closure (λ x b q k. search (rules, tests)))) in
    record { plain = plain_at c.args.text.now c.in-Some.bytes.now (length c.loop-bytes.yielded) turn.0 turn.1 c.requires.plain }

pub returns-in-Err : goal.returns-in-Err
returns-in-Err c =
    let turn = turn_of c.loop-bytes.yielded _ c.loop-bytes.yielded_by _ _ c.in-Some.bytes c.in-Some.is c.next.ensures.steps
    (YieldsList-at c.into_iter-bytes-iterator.ensures.into_iter_gives
    (YieldsList-from_slice_split _ (λ b. b == 10) c.args.text.now c.split-bytes-items.ensures.rest c.split-bytes-items.ensures.done c.split-bytes-items.ensures.closure (λ x b q k. search (rules, tests)))) in
    let here = from_here (lines_of c.args.text.now) (length c.loop-bytes.yielded) c.in-Some.bytes.now turn.0 turn.1 in
    rw c.at.ensures (at_fault _ _ _ _ _ _ _ c.in-Err.fault _ c.in-Err.ensures (rw here at c.loop-bytes.invariant.1))

pub loop-bytes-preserved : goal.loop-bytes-preserved
loop-bytes-preserved c =
    let turn = turn_of c.loop-bytes.yielded _ c.loop-bytes.yielded_by _ _ c.in-Some.bytes c.in-Some.is c.next.ensures.steps
    (YieldsList-at c.into_iter-bytes-iterator.ensures.into_iter_gives
    (YieldsList-from_slice_split _ (λ b. b == 10) c.args.text.now c.split-bytes-items.ensures.rest c.split-bytes-items.ensures.done c.split-bytes-items.ensures.closure (λ x b q k. search (rules, tests)))) in
    let here = from_here (lines_of c.args.text.now) (length c.loop-bytes.yielded) c.in-Some.bytes.now turn.0 turn.1 in
    let more = length_push c.loop-bytes.yielded c.in-Some.bytes in
    let place : c.loop-bytes.line ≡ length c.loop-bytes.yielded + 1 = c.loop-bytes.invariant.0 in (
      omega (arith, more, place),
      rw more (after_line (names_of c.args.self.names.now) c.args.self.image.now _ _ _ _ _ _ c.in-Ok.ensures (rw here at c.loop-bytes.invariant.1)),
    )

pub returns : goal.returns
returns c =
    let seen = end_of c.loop-bytes.yielded _ c.loop-bytes.yielded_by _ _ c.in-None.is c.next.ensures.steps
    (YieldsList-at c.into_iter-bytes-iterator.ensures.into_iter_gives
    (YieldsList-from_slice_split _ (λ b. b == 10) c.args.text.now c.split-bytes-items.ensures.rest c.split-bytes-items.ensures.done c.split-bytes-items.ensures.closure (λ x b q k. search (rules, tests)))) in
    let ended : length (lines_of c.args.text.now) ≤ length c.loop-bytes.yielded = omega (arith, seen.1) in
    after_last _ _ (lines_of c.args.text.now) (length c.loop-bytes.yielded) _ _ _ ended c.loop-bytes.invariant.1
