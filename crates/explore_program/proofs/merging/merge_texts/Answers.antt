use Rattle.std.proofs.Common.{rules}
use Rattle.explore_line.specs.Samples.{merge_asked_by}
use Rattle.explore_program.specs.Merges.{AreTextsMerged, IsTextMerged}
use Rattle.explore_program.proofs.SampleLemmas.{listing_refused_made, makes_more, of_meant}
use Rattle.explore_program.proofs.merging.merge_texts.Goals as goal

pub returns-in-Err : goal.returns-in-Err
returns-in-Err c =
    let asked = merge_asked_by c.args.request.now in
    listing_refused_made c.args.listing.now
    (λ image answer. IsTextMerged asked c.args.listing.now image c.args.slices.now answer)
    c.in-Err.fault c.from.result (search rules) c.in-Err.ensures

pub returns : goal.returns
returns c =
    let asked = merge_asked_by c.args.request.now in
    makes_more (IsTextMerged asked c.args.listing.now c.in-Ok.image c.args.slices.now)
    (AreTextsMerged asked c.args.listing.now c.args.slices.now)
    (of_meant c.args.listing.now (λ image answer. IsTextMerged asked c.args.listing.now image c.args.slices.now answer)
    c.in-Ok.image c.in-Ok.ensures)
    c.merge_image.result c.merge_image.ensures
