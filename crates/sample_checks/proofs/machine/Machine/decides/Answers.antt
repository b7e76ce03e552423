use Rattle.std.proofs.Common.{length, ap, arith}
use Rattle.sample_runs.proofs.OpenLemmas.{harts_are_few}
use Rattle.sample_checks.proofs.machine.Machine.decides.Goals as goal

pub decides_when-requires : goal.decides_when-requires
decides_when-requires c =
    let harts = harts_are_few c.self.inside.image c.granules-granules.ensures.formed in
    omega (arith, harts.few, c.self.invariant.count, ap length c.as_slice.ensures.value)
