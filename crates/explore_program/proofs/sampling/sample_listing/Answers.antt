use Rattle.std.proofs.Common.{rules}
use Rattle.explore_line.specs.Samples.{sample_asked_by}
use Rattle.explore_program.specs.Samples.{ArePropertiesSampled, IsListingSampled}
use Rattle.explore_program.proofs.SampleLemmas.{listing_refused_made, makes_more, of_meant}
use Rattle.explore_program.proofs.sampling.sample_listing.Goals as goal

pub returns-in-Err : goal.returns-in-Err
returns-in-Err g c =
    let asked = sample_asked_by c.args.request.now in
    listing_refused_made c.args.text.now
    (λ image answer. ArePropertiesSampled asked c.args.text.now image asked.is_checked answer)
    c.in-Err.fault c.from.result (search rules) c.in-Err.ensures

pub returns : goal.returns
returns g c =
    let asked = sample_asked_by c.args.request.now in
    makes_more (ArePropertiesSampled asked c.args.text.now c.in-Ok.image asked.is_checked)
    (IsListingSampled asked c.args.text.now)
    (of_meant c.args.text.now (λ image answer. ArePropertiesSampled asked c.args.text.now image asked.is_checked answer)
    c.in-Ok.image c.in-Ok.ensures)
    c.sample_image.result c.sample_image.ensures
