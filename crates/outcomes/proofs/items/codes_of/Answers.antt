use Rattle.std.proofs.Common.{refl}
use Rattle.outcomes.proofs.CodeLemmas.{code_more, code_end}
use Rattle.outcomes.proofs.items.codes_of.Goals as goal

pub loop-value-preserved : goal.loop-value-preserved
loop-value-preserved c =
    code_more c.args.values.now c.loop-value.value-index _ _ _ _ _ c.loop-value-test.true refl c.in_ok-push_code.ensures
    c.loop-value.invariant

pub returns : goal.returns
returns c = code_end c.args.values.now c.loop-value.value-index _ _ c.loop-value-test.false c.loop-value.invariant
