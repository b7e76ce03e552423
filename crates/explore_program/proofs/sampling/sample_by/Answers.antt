use Rattle.std.proofs.Common.{refl}
use Rattle.std.specs.Prelude.{Some}
use Rattle.std.proofs.lemmas.Result.{err_from_is_err_and}
use Rattle.program_io.specs.Faults.{no_memory}
use Rattle.explore_line.specs.Samples.{sample_asked_by}
use Rattle.explore_program.specs.Questions.{IsSaid}
use Rattle.explore_program.specs.Samples.{IsSampleAnswer, sampling_of}
use Rattle.explore_program.proofs.SampleLemmas.{memory_made}
use Rattle.explore_program.proofs.sampling.sample_by.Goals as goal

pub returns-in_err-answer : goal.returns-in_err-answer
returns-in_err-answer g c =
    let p = err_from_is_err_and c.from_residual.result c.from_residual.ensures.1 in
    rw (p.1, p.2)
    (memory_made (IsSaid (IsSampleAnswer (sample_asked_by c.args.request.now) (sampling_of c.args.sampling (Some c.args.items)))) no_memory refl)
