use Rattle.std.proofs.Common.{refl}
use Rattle.std.specs.Prelude.{true}
use Rattle.std.proofs.lemmas.Result.{err_from_is_err_and}
use Rattle.program_io.specs.Faults.{no_memory}
use Rattle.explore_line.specs.Samples.{sample_asked_by}
use Rattle.explore_program.specs.Samples.{ArePropertiesSampled}
use Rattle.explore_program.proofs.SampleLemmas.{memory_made}
use Rattle.explore_program.proofs.sampling.sample_checked.Goals as goal

pub returns-in_err-labels : goal.returns-in_err-labels
returns-in_err-labels g c =
    let p = err_from_is_err_and c.from_residual.result c.from_residual.ensures.1 in
    rw (p.1, p.2) (memory_made (ArePropertiesSampled (sample_asked_by c.args.request.now) c.args.listing.text.now c.args.listing.image.now true) no_memory refl)

pub returns : goal.returns
returns g c = rw c.in_ok-labels.ensures at c.sample_labelled.ensures
