use Rattle.std.proofs.Common.{◌∙◌, sym, refl, inr}
use Rattle.asm_symbols.specs.Names.{names_of}
use Rattle.asm_symbols.specs.Globals.{wants}
use Rattle.asm_symbols.proofs.GlobalLemmas.{passed_over, made_seen, taken_twice, all_seen}
use Rattle.asm_symbols.proofs.globals.publish.Goals as goal

pub loop-number-preserved-then-not-seen : goal.loop-number-preserved-then-not-seen
loop-number-preserved-then-not-seen c =
    passed_over (wants c.args.wanted.now) c.args.symbols.now c.loop-number.number _ _ (names_of c.loop-number.names) _ c.loop-number-test.true refl
    c.loop-number.invariant (sym c.is_wanted-seen.ensures ∙ c.if-not-seen.true)

pub returns-then-not-free : goal.returns-then-not-free
returns-then-not-free c =
    inr (taken_twice (wants c.args.wanted.now) c.args.symbols.now c.loop-number.number _ _ (names_of c.loop-number.names) _ c.loop-number-test.true refl
    c.loop-number.invariant (sym c.is_wanted-seen.ensures ∙ c.if-not-seen.false) (sym c.in_ok-free.ensures.free ∙ c.if-not-free.true))

pub loop-number-preserved : goal.loop-number-preserved
loop-number-preserved c =
    made_seen (wants c.args.wanted.now) c.args.symbols.now c.loop-number.number _ _ (names_of c.loop-number.names) _ c.loop-number-test.true refl
    c.loop-number.invariant _ (sym c.is_wanted-seen.ensures ∙ c.if-not-seen.false) (sym c.in_ok-free.ensures.free ∙ c.if-not-free.false)
    c.in_ok-free.ensures.names

pub returns : goal.returns
returns c = all_seen (wants c.args.wanted.now) c.args.symbols.now c.loop-number.number (names_of c.loop-number.names) _ c.loop-number-test.false c.loop-number.invariant
