use Rattle.std.proofs.Common.{length, ap, arith}
use Rattle.sample_runs.proofs.OpenLemmas.{harts_are_few}
use Rattle.sample_runs.proofs.runner.Runner.end.Goals as goal

pub list_running-requires : goal.list_running-requires
list_running-requires c =
    let harts = harts_are_few c.self.inside.image c.granules-granules.ensures.formed in
    omega (arith, harts.few, c.self.invariant.count, ap length c.as_slice.ensures.value)
