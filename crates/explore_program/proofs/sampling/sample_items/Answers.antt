use Rattle.std.proofs.Common.{refl}
use Rattle.std.specs.Prelude.{option_map}
use Rattle.std.proofs.lemmas.Result.{err_from_is_err_and}
use Rattle.program_io.specs.Faults.{no_memory}
use Rattle.explore_line.specs.Samples.{sample_asked_by, text_of}
use Rattle.explore_program.specs.Samples.{IsItemsSampled}
use Rattle.explore_program.proofs.SampleLemmas.{memory_made}
use Rattle.explore_program.proofs.sampling.sample_items.Goals as goal

pub returns-in_err-answer-in-None : goal.returns-in_err-answer-in-None
returns-in_err-answer-in-None g c =
    let p = err_from_is_err_and c.from_residual.result c.from_residual.ensures.1 in
    let s = c.args.sampling in
    rw (p.1, p.2)
    (memory_made (IsItemsSampled (sample_asked_by c.args.request.now) s.image.now s.drawing.now s.properties.now (option_map text_of c.args.show)) no_memory refl)

pub returns-in-Some : goal.returns-in-Some
returns-in-Some g c = rw c.in-Some.is c.sample_shown.ensures
