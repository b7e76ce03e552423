use Rattle.std.proofs.Common.{sym, ◌∙◌, ap, refl, arith}
use Rattle.std.proofs.lemmas.Result.{err_from_is_err_and}
use Rattle.condition_texts.specs.Reading.{context_of, is_at, only}
use Rattle.condition_texts.specs.Conditions.{in_parentheses, item_of}
use Rattle.condition_texts.proofs.NestingLemmas.{source_is, hart_is, count_is, quantifier_is, or_item, and_item, said_stops, said_added, added_of, adds_of, chain_stops, chain_begun, chain_more, chain_fails, chain_ends, counted_stops, counted_none, counted_added, none_deeper, opens_none, inner_stops, closes_none, inner_added, each_plain, each_inside, part_plain, part_stops, part_added, quantified_none, quantified_stops, quantified_added, unit_opens, unit_none, unit_stops, unit_added, words_count}
use Rattle.condition_texts.proofs.reading.Reader.+nesting.Goals as goal

pub after_opening-returns-in_err-atom-in-Source-clause-read : goal.after_opening-returns-in_err-atom-in-Source-clause-read
after_opening-returns-in_err-atom-in-Source-clause-read t c =
    let p = err_from_is_err_and c.from_residual.result c.from_residual.ensures.1 in
    rw (p.1, p.2) (sym (source_is (context_of c.args.self.now) (in_parentheses (context_of c.args.self.now) c.args.inside.depth) c.args.inside.each c.args.at c.args.opening c.in-Source.source c.in-Source.is) ∙ said_stops _ _ (sym c.in_err-atom-in-Source.ensures.is))

pub after_opening-returns-in_ok-push-in-Source-clause-read : goal.after_opening-returns-in_ok-push-in-Source-clause-read
after_opening-returns-in_ok-push-in-Source-clause-read t c =
    added_of _ _ _ _ _ (source_is (context_of c.args.self.now) (in_parentheses (context_of c.args.self.now) c.args.inside.depth) c.args.inside.each c.args.at c.args.opening c.in-Source.source c.in-Source.is)
    (said_added _ c.in_ok-atom-in-Source.atom c.in_ok-atom-in-Source.next _ _ (sym c.in_ok-atom-in-Source.ensures.is) c.in_ok-push-in-Source.ensures)

pub after_opening-returns-in-Hart-clause-read : goal.after_opening-returns-in-Hart-clause-read
after_opening-returns-in-Hart-clause-read t c =
    adds_of _ _ _ _ _ (hart_is (context_of c.args.self.now) (in_parentheses (context_of c.args.self.now) c.args.inside.depth) c.args.inside.each c.args.at c.args.opening c.in-Hart.who c.in-Hart.is) c.said.ensures.read

pub after_opening-returns-in-Count-clause-read : goal.after_opening-returns-in-Count-clause-read
after_opening-returns-in-Count-clause-read t c =
    adds_of _ _ _ _ _ (count_is (context_of c.args.self.now) (in_parentheses (context_of c.args.self.now) c.args.inside.depth) c.args.inside.each c.args.at c.args.opening c.in-Count.is) c.counted.ensures.read

pub after_opening-returns-in-Quantifier-clause-read : goal.after_opening-returns-in-Quantifier-clause-read
after_opening-returns-in-Quantifier-clause-read t c =
    adds_of _ _ _ _ _ (quantifier_is (context_of c.args.self.now) (in_parentheses (context_of c.args.self.now) c.args.inside.depth) c.args.inside.each c.args.at c.args.opening c.in-Quantifier.quantifier c.in-Quantifier.is) c.quantified.ensures.read

pub chain-returns-in_err-end-clause-read : goal.chain-returns-in_err-end-clause-read
chain-returns-in_err-end-clause-read t c =
    let p = err_from_is_err_and c.from_residual.result c.from_residual.ensures.1 in
    rw (p.1, p.2) (chain_stops (context_of c.args.self.now) c.args.joint (item_of (context_of c.args.self.now) c.args.joint (in_parentheses (context_of c.args.self.now) c.args.inside.depth) c.args.inside.each) c.args.at _ _ _ c.in_err-end.ensures.read)

pub chain-items-init : goal.chain-items-init
chain-items-init t c =
    (chain_begun (context_of c.args.self.now) c.args.joint (item_of (context_of c.args.self.now) c.args.joint (in_parentheses (context_of c.args.self.now) c.args.inside.depth) c.args.inside.each) c.args.at c.in_ok-end.end _ _ c.in_ok-end.ensures.read, c.in_ok-end.ensures.room.0, c.in_ok-end.ensures.room.1)

pub counted-returns-in_err-end-clause-read : goal.counted-returns-in_err-end-clause-read
counted-returns-in_err-end-clause-read t c =
    let p = err_from_is_err_and c.from_residual.result c.from_residual.ensures.1 in
    rw (p.1, p.2) (counted_stops (context_of c.args.self.now) (in_parentheses (context_of c.args.self.now) c.args.depth) c.args.at _ _ _ c.in_err-end.ensures.read)

pub counted-returns-in_err-comparison-clause-read : goal.counted-returns-in_err-comparison-clause-read
counted-returns-in_err-comparison-clause-read t c =
    let p = err_from_is_err_and c.from_residual-in_err-comparison.result c.from_residual-in_err-comparison.ensures.1 in
    rw (p.1, p.2) (counted_none (context_of c.args.self.now) (in_parentheses (context_of c.args.self.now) c.args.depth) c.args.at c.in_ok-end.end _ _ _ c.in_ok-end.ensures.read (sym c.in_err-comparison.ensures.is))

pub counted-returns-clause-read : goal.counted-returns-clause-read
counted-returns-clause-read t c =
    counted_added (context_of c.args.self.now) (in_parentheses (context_of c.args.self.now) c.args.depth) c.args.at c.in_ok-end.end c.in_ok-comparison.next (c.in_ok-comparison.comparison, c.in_ok-comparison.number) _ _ _
    c.in_ok-end.ensures.read (sym c.in_ok-comparison.ensures.is) c.in_ok-push.ensures

pub in_parentheses-returns-then-inside-eq0-clause-read : goal.in_parentheses-returns-then-inside-eq0-clause-read
in_parentheses-returns-then-inside-eq0-clause-read t c = none_deeper (context_of c.args.self.now) c.args.inside.depth c.args.inside.each c.args.at c.if-inside-eq0.true

pub in_parentheses-returns-in_err-first-clause-read : goal.in_parentheses-returns-in_err-first-clause-read
in_parentheses-returns-in_err-first-clause-read t c =
    let p = err_from_is_err_and c.from_residual.result c.from_residual.ensures.1 in
    rw (p.1, p.2) (opens_none (context_of c.args.self.now) c.args.inside.depth c.args.inside.each c.args.at _ (omega (arith, c.if-inside-eq0.false)) (sym c.in_err-first.ensures.is))

pub in_parentheses-returns-in_err-end-clause-read : goal.in_parentheses-returns-in_err-end-clause-read
in_parentheses-returns-in_err-end-clause-read t c =
    let p = err_from_is_err_and c.from_residual-in_err-end.result c.from_residual-in_err-end.ensures.1 in
    rw (p.1, p.2) (inner_stops (context_of c.args.self.now) c.args.inside.depth c.args.inside.each c.args.at c.in_ok-first.first _ _ _ (omega (arith, c.if-inside-eq0.false)) (sym c.in_ok-first.ensures.is) c.in_err-end.ensures.read)

pub in_parentheses-returns-in_err-next-clause-read : goal.in_parentheses-returns-in_err-next-clause-read
in_parentheses-returns-in_err-next-clause-read t c =
    let p = err_from_is_err_and c.from_residual-in_err-next.result c.from_residual-in_err-next.ensures.1 in
    rw (p.1, p.2) (closes_none (context_of c.args.self.now) c.args.inside.depth c.args.inside.each c.args.at c.in_ok-first.first c.in_ok-end.end _ _ _ (omega (arith, c.if-inside-eq0.false)) (sym c.in_ok-first.ensures.is) c.in_ok-end.ensures.read (sym c.in_err-next.ensures.is))

pub in_parentheses-returns-clause-read : goal.in_parentheses-returns-clause-read
in_parentheses-returns-clause-read t c =
    inner_added (context_of c.args.self.now) c.args.inside.depth c.args.inside.each c.args.at c.in_ok-first.first c.in_ok-end.end c.in_ok-next.next _ _ (omega (arith, c.if-inside-eq0.false))
    (sym c.in_ok-first.ensures.is) c.in_ok-end.ensures.read (sym c.in_ok-next.ensures.is)

pub item-returns-in-Or-clause-read : goal.item-returns-in-Or-clause-read
item-returns-in-Or-clause-read t c =
    adds_of _ _ _ _ _ (or_item (context_of c.args.self.now) (in_parentheses (context_of c.args.self.now) c.args.inside.depth) c.args.inside.each c.args.at c.args.joint c.in-Or.is) c.chain.ensures.read

pub item-returns-in-And-clause-read : goal.item-returns-in-And-clause-read
item-returns-in-And-clause-read t c =
    adds_of _ _ _ _ _ (and_item (context_of c.args.self.now) (in_parentheses (context_of c.args.self.now) c.args.inside.depth) c.args.inside.each c.args.at c.args.joint c.in-And.is) c.part.ensures.read

pub of_each-returns-then-not-is_at-clause-read : goal.of_each-returns-then-not-is_at-clause-read
of_each-returns-then-not-is_at-clause-read t c =
    adds_of _ _ _ _ _ (each_plain (context_of c.args.self.now) (in_parentheses (context_of c.args.self.now) c.args.depth) c.args.at c.args.plural (sym c.is_at.ensures.is ∙ c.if-not-is_at.true)) c.said.ensures.read

pub of_each-returns-clause-read : goal.of_each-returns-clause-read
of_each-returns-clause-read t c =
    adds_of _ _ _ _ _ (each_inside (context_of c.args.self.now) (in_parentheses (context_of c.args.self.now) c.args.depth) c.args.at c.args.plural (sym c.is_at.ensures.is ∙ c.if-not-is_at.false)) c.in_parentheses.ensures.read

pub part-returns-then-not-is_at-clause-read : goal.part-returns-then-not-is_at-clause-read
part-returns-then-not-is_at-clause-read t c =
    adds_of _ _ _ _ _ (part_plain (context_of c.args.self.now) (in_parentheses (context_of c.args.self.now) c.args.inside.depth) c.args.inside.each c.args.at (sym c.is_at.ensures.is ∙ c.if-not-is_at.true)) c.unit.ensures.read

pub part-returns-in_err-next-clause-read : goal.part-returns-in_err-next-clause-read
part-returns-in_err-next-clause-read t c =
    let p = err_from_is_err_and c.from_residual.result c.from_residual.ensures.1 in
    rw (p.1, p.2) (part_stops (context_of c.args.self.now) (in_parentheses (context_of c.args.self.now) c.args.inside.depth) c.args.inside.each c.args.at _ _ _ (sym c.is_at.ensures.is ∙ c.if-not-is_at.false) c.in_err-next.ensures.read)

pub part-returns-clause-read : goal.part-returns-clause-read
part-returns-clause-read t c =
    part_added (context_of c.args.self.now) (in_parentheses (context_of c.args.self.now) c.args.inside.depth) c.args.inside.each c.args.at c.in_ok-next.next _ _ _ (sym c.is_at.ensures.is ∙ c.if-not-is_at.false) c.in_ok-next.ensures.read c.in_ok-push.ensures

pub quantified-returns-in_err-next-clause-read : goal.quantified-returns-in_err-next-clause-read
quantified-returns-in_err-next-clause-read t c =
    let p = err_from_is_err_and c.from_residual.result c.from_residual.ensures.1 in
    rw (p.1, p.2) (quantified_none (context_of c.args.self.now) (in_parentheses (context_of c.args.self.now) c.args.depth) c.args.at c.args.quantifier _ (ap (only (context_of c.args.self.now) c.args.at) (sym c.noun.ensures) ∙ sym c.in_err-next.ensures.is))

pub quantified-returns-in_err-end-clause-read : goal.quantified-returns-in_err-end-clause-read
quantified-returns-in_err-end-clause-read t c =
    let p = err_from_is_err_and c.from_residual-in_err-end.result c.from_residual-in_err-end.ensures.1 in
    rw (p.1, p.2) (quantified_stops (context_of c.args.self.now) (in_parentheses (context_of c.args.self.now) c.args.depth) c.args.at c.args.quantifier c.in_ok-next.next _ _ _ (ap (only (context_of c.args.self.now) c.args.at) (sym c.noun.ensures) ∙ sym c.in_ok-next.ensures.is) (rw c.is_plural.ensures at c.in_err-end.ensures.read))

pub quantified-returns-clause-read : goal.quantified-returns-clause-read
quantified-returns-clause-read t c =
    quantified_added (context_of c.args.self.now) (in_parentheses (context_of c.args.self.now) c.args.depth) c.args.at c.args.quantifier c.in_ok-next.next c.in_ok-end.end _ _ _ _ (ap (only (context_of c.args.self.now) c.args.at) (sym c.noun.ensures) ∙ sym c.in_ok-next.ensures.is) (rw c.is_plural.ensures at c.in_ok-end.ensures.read) (rw c.harts.ensures at c.asked_of-comparison.ensures) c.in_ok-push.ensures

pub unit-returns-in-Ok-clause-read : goal.unit-returns-in-Ok-clause-read
unit-returns-in-Ok-clause-read t c =
    adds_of _ _ _ _ _ (unit_opens (context_of c.args.self.now) (in_parentheses (context_of c.args.self.now) c.args.inside.depth) c.args.inside.each c.args.at c.in-Ok.opening (sym c.is_at.ensures.is ∙ c.if-not-is_at.true) (sym c.in-Ok.ensures.is)) c.after_opening.ensures.read

pub unit-returns-in-Err-clause-read : goal.unit-returns-in-Err-clause-read
unit-returns-in-Err-clause-read t c = unit_none (context_of c.args.self.now) (in_parentheses (context_of c.args.self.now) c.args.inside.depth) c.args.inside.each c.args.at _ (sym c.is_at.ensures.is ∙ c.if-not-is_at.true) (sym c.in-Err.ensures.is)

pub unit-returns-in_err-next-clause-read : goal.unit-returns-in_err-next-clause-read
unit-returns-in_err-next-clause-read t c =
    let p = err_from_is_err_and c.from_residual.result c.from_residual.ensures.1 in
    rw (p.1, p.2) (unit_stops (context_of c.args.self.now) (in_parentheses (context_of c.args.self.now) c.args.inside.depth) c.args.inside.each c.args.at _ _ _ (sym c.is_at.ensures.is ∙ c.if-not-is_at.false) c.in_err-next.ensures.read)

pub unit-returns-clause-read : goal.unit-returns-clause-read
unit-returns-clause-read t c =
    unit_added (context_of c.args.self.now) (in_parentheses (context_of c.args.self.now) c.args.inside.depth) c.args.inside.each c.args.at c.in_ok-next.next _ _ _ (sym c.is_at.ensures.is ∙ c.if-not-is_at.false) c.in_ok-next.ensures.read c.in_ok-push.ensures

pub chain-returns-in_err-end-2-clause-read : goal.chain-returns-in_err-end-2-clause-read
chain-returns-in_err-end-2-clause-read t c =
    let p = err_from_is_err_and c.from_residual-in_err-end-2.result c.from_residual-in_err-end-2.ensures.1 in
    rw (p.1, p.2) (chain_fails (context_of c.args.self.now) c.args.joint (item_of (context_of c.args.self.now) c.args.joint (in_parentheses (context_of c.args.self.now) c.args.inside.depth) c.args.inside.each) c.items.end _ _ _ _ _ c.items.invariant.0 (ap (is_at (context_of c.args.self.now) c.items.end) (sym c.joint_word.ensures) ∙ sym c.is_at.ensures.is ∙ c.items-test.true) (omega (arith, c.is_at.ensures.room c.items-test.true, words_count c.args.self.now.words.now)) c.in_err-end-2.ensures.read)

pub chain-items-preserved : goal.chain-items-preserved
chain-items-preserved t c = (
  chain_more (context_of c.args.self.now) c.args.joint (item_of (context_of c.args.self.now) c.args.joint (in_parentheses (context_of c.args.self.now) c.args.inside.depth) c.args.inside.each) c.args.at c.items.end c.in_ok-end-2.end _ _ _ _ _ _ c.items.invariant.0 (ap (is_at (context_of c.args.self.now) c.items.end) (sym c.joint_word.ensures) ∙ sym c.is_at.ensures.is ∙ c.items-test.true) (omega (arith, c.is_at.ensures.room c.items-test.true, words_count c.args.self.now.words.now))
      c.in_ok-end-2.ensures.read (omega (arith, c.in_ok-end-2.ensures.room.0)) (rw (c.len.ensures, c.len-before.ensures, c.item-in-items.new.nodes.ok.0, c.items.nodes.ok.0) refl) c.in_ok-push.ensures,
  omega (arith, c.items.invariant.1, c.in_ok-end-2.ensures.room.0),
  c.in_ok-end-2.ensures.room.1,
)

pub chain-returns-clause-read : goal.chain-returns-clause-read
chain-returns-clause-read t c =
    chain_ends (context_of c.args.self.now) c.args.joint (item_of (context_of c.args.self.now) c.args.joint (in_parentheses (context_of c.args.self.now) c.args.inside.depth) c.args.inside.each) c.items.end _ _ _ c.items.invariant.0
    (ap (is_at (context_of c.args.self.now) c.items.end) (sym c.joint_word.ensures) ∙ sym c.is_at.ensures.is ∙ c.items-test.false)
