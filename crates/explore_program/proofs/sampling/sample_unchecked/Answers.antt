use Rattle.std.proofs.Common.{◌∙◌, ap, map, refl}
use Rattle.std.specs.Prelude.{[], false}
use Rattle.std.proofs.lemmas.Result.{err_from_is_err_and}
use Rattle.program_io.specs.Faults.{no_memory}
use Rattle.explore_line.specs.Samples.{sample_asked_by}
use Rattle.explore_program.specs.Questions.{range_of}
use Rattle.explore_program.specs.Samples.{ArePropertiesSampled, IsItemsSampled, drawing_asked}
use Rattle.explore_program.proofs.SampleLemmas.{makes_more, memory_made, of_items}
use Rattle.explore_program.proofs.sampling.sample_unchecked.Goals as goal

pub returns-in_err-sweeps : goal.returns-in_err-sweeps
returns-in_err-sweeps g c =
    let p = err_from_is_err_and c.from_residual.result c.from_residual.ensures.1 in
    rw (p.1, p.2) (memory_made (ArePropertiesSampled (sample_asked_by c.args.request.now) c.args.listing.text.now c.args.listing.image.now false) no_memory refl)

pub returns-in_err-drawing : goal.returns-in_err-drawing
returns-in_err-drawing g c =
    let p = err_from_is_err_and c.from_residual-in_err-drawing.result c.from_residual-in_err-drawing.ensures.1 in
    rw (p.1, p.2) (memory_made (ArePropertiesSampled (sample_asked_by c.args.request.now) c.args.listing.text.now c.args.listing.image.now false) no_memory refl)

pub returns : goal.returns
returns g c =
    let asked = sample_asked_by c.args.request.now in
    let image = c.args.listing.image.now in
    let drawing_is = c.in_ok-drawing.ensures
    ∙ ap (drawing_asked asked) (c.in_ok-sweeps.ensures ∙ ap (map range_of) c.as_slice.ensures.value) in
    makes_more (IsItemsSampled asked image c.in_ok-drawing.drawing c.as_slice-2.result.now asked.show)
    (ArePropertiesSampled asked c.args.listing.text.now image false)
    (of_items asked image c.in_ok-drawing.drawing (drawing_asked asked (map range_of asked.sweeps)) c.as_slice-2.result.now [] asked.show drawing_is
    (c.as_slice-2.ensures.value ∙ c.new-none.ensures.items))
    c.sample_items.result c.sample_items.ensures
