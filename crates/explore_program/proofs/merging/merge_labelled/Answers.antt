use Rattle.std.proofs.Common.{refl}
use Rattle.std.specs.Prelude.{string_bytes}
use Rattle.std.proofs.lemmas.Result.{err_from_is_err_and}
use Rattle.program_io.specs.Faults.{no_memory}
use Rattle.explore_line.specs.Samples.{merge_asked_by}
use Rattle.grammar.specs.LabelMap.{label_parts}
use Rattle.sample_merges.specs.Lines.{slice_lines}
use Rattle.explore_program.specs.Merges.{IsLabelledMerged, listing_known}
use Rattle.explore_program.proofs.SampleLemmas.{memory_made, slices_refused, slices_told}
use Rattle.explore_program.proofs.merging.merge_labelled.Goals as goal

pub returns-in_err-answer : goal.returns-in_err-answer
returns-in_err-answer c =
    let p = err_from_is_err_and c.from_residual.result c.from_residual.ensures.1 in
    rw (p.1, p.2) (memory_made (IsLabelledMerged (merge_asked_by c.args.request.now) (label_parts c.args.labels.now) c.args.text.now c.args.image.now c.args.slices.now) no_memory refl)

pub returns-in-Err : goal.returns-in-Err
returns-in-Err c =
    rw c.slice_fault.ensures
    (slices_refused (merge_asked_by c.args.request.now) (listing_known (label_parts c.args.labels.now) c.args.text.now c.args.image.now)
    (slice_lines c.args.slices.now) c.in-Err.refused c.in-Err.ensures.refused)

pub returns : goal.returns
returns c =
    slices_told (merge_asked_by c.args.request.now) (listing_known (label_parts c.args.labels.now) c.args.text.now c.args.image.now)
    (slice_lines c.args.slices.now) c.in-Ok.merged c.format_of.result (string_bytes c.in_ok-answer.answer.text) c.in_ok-answer.answer.ending
    c.format_of.ensures c.in-Ok.ensures.merged c.in-Ok.ensures.listing c.in_ok-answer.ensures
