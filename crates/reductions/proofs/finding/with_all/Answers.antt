use Rattle.std.proofs.Common.{◌≡◌, ℕ, ap, ◌∙◌, arith}
use Rattle.std.specs.Prelude.{slice_set, true}
use Rattle.asked_registers.proofs.AskedLemmas.{below_none, below_more}
use Rattle.reductions.proofs.finding.with_all.Goals as goal

pub loop-number-init : goal.loop-number-init
loop-number-init c = below_none c.args.asked

pub loop-number-preserved : goal.loop-number-preserved
loop-number-preserved c =
    below_more c.args.asked c.loop-number.all c.with-all.result c.loop-number.number
    (c.with-all.ensures ∙ ap (λ (reg : ℕ). slice_set c.loop-number.all reg true) c.new.ensures) c.loop-number.invariant

pub returns : goal.returns
returns c =
    let ends : c.loop-number.number ≡ 32 = omega arith in
    rw ends at c.loop-number.invariant
