use Rattle.std.proofs.Common.{◌∙◌, ap, ap₂, map, refl}
use Rattle.std.specs.Prelude.{None}
use Rattle.std.proofs.lemmas.Result.{err_from_is_err_and}
use Rattle.program_io.specs.Faults.{no_memory}
use Rattle.explore_line.specs.Samples.{sample_asked_by}
use Rattle.explore_properties.specs.Reading.{properties_of}
use Rattle.grammar.specs.LabelMap.{label_parts}
use Rattle.listing_maps.specs.Names.{named}
use Rattle.sample_slices.specs.Sweeps.{united}
use Rattle.explore_program.specs.Faults.{property_fault}
use Rattle.explore_program.specs.Questions.{range_of}
use Rattle.explore_program.specs.Samples.{AreLabelledSampled, IsItemsSampled, drawing_asked}
use Rattle.explore_program.proofs.SampleLemmas.{makes_more, memory_made, of_items, of_text, properties_refused}
use Rattle.explore_program.proofs.sampling.sample_labelled.Goals as goal

pub returns-in_err-given : goal.returns-in_err-given
returns-in_err-given g c =
    let p = err_from_is_err_and c.from_residual.result c.from_residual.ensures.1 in
    rw (p.1, p.2) (memory_made (AreLabelledSampled (sample_asked_by c.args.request.now) (label_parts c.args.labels.now) c.args.listing.text.now c.args.listing.image.now) no_memory refl)

pub returns-in_err-sweeps : goal.returns-in_err-sweeps
returns-in_err-sweeps g c =
    let p = err_from_is_err_and c.from_residual-in_err-sweeps.result c.from_residual-in_err-sweeps.ensures.1 in
    rw (p.1, p.2) (memory_made (AreLabelledSampled (sample_asked_by c.args.request.now) (label_parts c.args.labels.now) c.args.listing.text.now c.args.listing.image.now) no_memory refl)

pub returns-in_err-drawing : goal.returns-in_err-drawing
returns-in_err-drawing g c =
    let p = err_from_is_err_and c.from_residual-in_err-drawing.result c.from_residual-in_err-drawing.ensures.1 in
    rw (p.1, p.2) (memory_made (AreLabelledSampled (sample_asked_by c.args.request.now) (label_parts c.args.labels.now) c.args.listing.text.now c.args.listing.image.now) no_memory refl)

pub returns-in-Err : goal.returns-in-Err
returns-in-Err g c =
    let asked = sample_asked_by c.args.request.now in
    let image = c.args.listing.image.now in
    rw c.property_fault.ensures
    (properties_refused
    (λ read. IsItemsSampled asked image (drawing_asked asked (united (map range_of asked.sweeps) (map range_of read.sweeps))) read.properties asked.show)
    (properties_of (named (label_parts c.args.labels.now) None) image c.args.listing.text.now) c.in-Err.refused c.in-Err.ensures)

pub returns : goal.returns
returns g c =
    let asked = sample_asked_by c.args.request.now in
    let image = c.args.listing.image.now in
    let read = c.in-Ok.read in
    let given_is = c.as_slice-2.ensures.value ∙ (c.in_ok-given.ensures ∙ ap (map range_of) c.as_slice.ensures.value) in
    let drawing_is = c.in_ok-drawing.ensures
    ∙ ap (drawing_asked asked) (c.in_ok-sweeps.ensures ∙ ap₂ united given_is (ap (map range_of) c.sweeps.ensures.sweeps)) in
    makes_more (IsItemsSampled asked image c.in_ok-drawing.drawing c.properties-properties.result.now asked.show)
    (AreLabelledSampled asked (label_parts c.args.labels.now) c.args.listing.text.now image)
    (λ answer so. of_text property_fault
    (λ r. IsItemsSampled asked image (drawing_asked asked (united (map range_of asked.sweeps) (map range_of r.sweeps))) r.properties asked.show)
    (properties_of (named (label_parts c.args.labels.now) None) image c.args.listing.text.now) read c.in-Ok.ensures answer
    (of_items asked image c.in_ok-drawing.drawing (drawing_asked asked (united (map range_of asked.sweeps) (map range_of read.sweeps)))
    c.properties-properties.result.now read.properties asked.show drawing_is c.properties-properties.ensures answer so))
    c.sample_items.result c.sample_items.ensures
