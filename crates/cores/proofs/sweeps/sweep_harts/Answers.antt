-- One more hart is swept, and its tags are counted.
use Rattle.std.proofs.Common.{arith, ap, sym, ◌∙◌}
use Rattle.std.proofs.lemmas.List.Edits.{map_over_more}
use Rattle.std.proofs.lemmas.List.Sums.{sum_by_more}
use Rattle.cheri_model.specs.runs.Sweeps.{swept_hart, cleared_in_hart}
use Rattle.cores.proofs.SweepLemmas.{hart_ahead}
use Rattle.cores.proofs.sweeps.sweep_harts.Goals as goal

pub loop-hart-preserved : goal.loop-hart-preserved
loop-hart-preserved c =
    let a = c.args in
    let before = c.loop-hart.invariant in
    let inside = c.loop-hart-test.true in
    let i = c.loop-hart.hart-index in
    let item = c.hart-item.result in
    let new = c.sweep-cleared.ensures.hart ∙ ap (swept_hart a.lo a.hi) (sym c.hart-item.is) in
    let more = map_over_more (swept_hart a.lo a.hi) a.harts.now c.loop-hart.harts i item inside before.harts c.hart-item.is in
    let here = hart_ahead (swept_hart a.lo a.hi) a.harts.now c.loop-hart.harts i item inside before.harts c.hart-item.is in
    let count = c.sweep-cleared.ensures.cleared ∙ ap (cleared_in_hart a.lo a.hi) (sym c.hart-item.is ∙ here) in
    let counted = sum_by_more (cleared_in_hart a.lo a.hi) a.harts.now i item inside in
    record {
      harts = rw new more;
      cleared = omega (arith, count, counted, before.cleared);
      few = omega (arith, before.few, c.sweep-cleared.ensures.few);
    }
