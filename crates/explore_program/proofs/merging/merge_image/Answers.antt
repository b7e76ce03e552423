use Rattle.std.proofs.Common.{refl}
use Rattle.std.proofs.lemmas.Result.{err_from_is_err_and}
use Rattle.program_io.specs.Faults.{no_memory}
use Rattle.explore_line.specs.Samples.{merge_asked_by}
use Rattle.explore_program.specs.Merges.{IsTextMerged}
use Rattle.explore_program.proofs.SampleLemmas.{memory_made}
use Rattle.explore_program.proofs.merging.merge_image.Goals as goal

pub returns-in_err-labels : goal.returns-in_err-labels
returns-in_err-labels c =
    let p = err_from_is_err_and c.from_residual.result c.from_residual.ensures.1 in
    rw (p.1, p.2) (memory_made (IsTextMerged (merge_asked_by c.args.request.now) c.args.listing.now c.args.image.now c.args.slices.now) no_memory refl)

pub returns : goal.returns
returns c = rw c.in_ok-labels.ensures at c.merge_labelled.ensures
