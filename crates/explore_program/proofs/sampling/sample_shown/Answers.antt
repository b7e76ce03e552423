use Rattle.std.specs.Prelude.{Some}
use Rattle.condition_texts.specs.Items.{items_of}
use Rattle.conditions.specs.Items.{list_of}
use Rattle.explore_line.specs.Samples.{sample_asked_by}
use Rattle.explore_program.specs.Questions.{IsSaid}
use Rattle.explore_program.specs.Samples.{IsSampleAnswer, IsShownSampled, place_fault}
use Rattle.explore_program.proofs.SampleLemmas.{items_refused, makes_more, of_text}
use Rattle.explore_program.proofs.sampling.sample_shown.Goals as goal

pub returns-in-Err : goal.returns-in-Err
returns-in-Err g c =
    let s = c.args.sampling in
    rw c.text_fault.ensures
    (items_refused (λ list. IsSaid (IsSampleAnswer (sample_asked_by c.args.request.now)
    (record { image = s.image.now; drawing = s.drawing.now; properties = s.properties.now; items = Some list })))
    (items_of s.image.now c.args.text.now) c.in-Err.refused c.in-Err.ensures)

pub returns-in-Ok : goal.returns-in-Ok
returns-in-Ok g c =
    let s = c.args.sampling in
    makes_more (IsSaid (IsSampleAnswer (sample_asked_by c.args.request.now)
    (record { image = s.image.now; drawing = s.drawing.now; properties = s.properties.now; items = Some (list_of c.in-Ok.items) })))
    (IsShownSampled (sample_asked_by c.args.request.now) s.image.now s.drawing.now s.properties.now c.args.text.now)
    (of_text place_fault (λ list. IsSaid (IsSampleAnswer (sample_asked_by c.args.request.now)
    (record { image = s.image.now; drawing = s.drawing.now; properties = s.properties.now; items = Some list })))
    (items_of s.image.now c.args.text.now) (list_of c.in-Ok.items) c.in-Ok.ensures)
    c.sample_by.result c.sample_by.ensures
