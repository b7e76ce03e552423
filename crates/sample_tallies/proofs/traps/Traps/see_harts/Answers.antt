use Rattle.std.proofs.Common.{ap, ◌∙◌, arith}
use Rattle.cheri_model.specs.steps.Hart.{HartState}
use Rattle.sample_tallies.proofs.TrapLemmas.{hart_more, harts_end}
use Rattle.sample_tallies.proofs.traps.Traps.see_harts.Goals as goal

pub loop-number-preserved : goal.loop-number-preserved
loop-number-preserved c =
    hart_more c.args.harts.now c.loop-number.number c.index-harts-number.result c.status.result c.args.seen
    c.loop-number.self c.see_hart.new.self _ (omega arith)
    (c.status.ensures ∙ ap (λ (h : HartState). h.status) c.index-harts-number.is) c.in_ok-see_hart.ensures
    c.loop-number.invariant

pub returns : goal.returns
returns c =
    harts_end c.args.harts.now c.loop-number.number c.args.seen c.loop-number.self _ (omega arith) c.loop-number.invariant
