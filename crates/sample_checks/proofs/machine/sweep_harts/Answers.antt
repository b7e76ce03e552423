use Rattle.std.proofs.Common.{ap, sym, ◌∙◌}
use Rattle.std.proofs.lemmas.List.Edits.{map_over_more}
use Rattle.cheri_model.specs.runs.Sweeps.{swept_hart}
use Rattle.sample_checks.proofs.machine.sweep_harts.Goals as goal

pub loop-hart-preserved : goal.loop-hart-preserved
loop-hart-preserved c =
    let a = c.args in
    let new = c.sweep.ensures.hart ∙ ap (swept_hart a.lo a.hi) (sym c.hart-item.is) in
    let more = map_over_more (swept_hart a.lo a.hi) a.harts.now c.loop-hart.harts c.loop-hart.hart-index c.hart-item.result
    c.loop-hart-test.true c.loop-hart.invariant c.hart-item.is in
    rw new more
