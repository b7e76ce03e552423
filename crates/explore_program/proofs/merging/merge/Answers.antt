use Rattle.std.proofs.Common.{Err}
use Rattle.std.proofs.lemmas.Result.{err_from_is_err_and}
use Rattle.explore_line.specs.Samples.{merge_asked_by}
use Rattle.explore_program.specs.Merges.{AreTextsMerged, IsMerged}
use Rattle.explore_program.proofs.SampleLemmas.{OfSlices, listing_unread_made, makes_more, of_listing, of_slices, slices_unread_made}
use Rattle.explore_program.proofs.merging.merge.Goals as goal

pub returns-in_err-listing : goal.returns-in_err-listing
returns-in_err-listing g c =
    let p = err_from_is_err_and c.from_residual.result c.from_residual.ensures.1 in
    let asked = merge_asked_by c.args.request.now in
    let files = g.F.Files.bytes_of c.args.files.now in
    rw (p.1, p.2)
    (listing_unread_made (files asked.listing) (λ text answer. OfSlices (files asked.slices) (AreTextsMerged asked text) answer)
    c.in_err-listing.field-0.0 c.in_err-listing.ensures.refused)

pub returns-in_err-slices : goal.returns-in_err-slices
returns-in_err-slices g c =
    let p = err_from_is_err_and c.from_residual-in_err-slices.result c.from_residual-in_err-slices.ensures.1 in
    let asked = merge_asked_by c.args.request.now in
    let files = g.F.Files.bytes_of c.args.files.now in
    let text = c.in_ok-listing.listing.items in
    rw (p.1, p.2)
    (makes_more (OfSlices (files asked.slices) (AreTextsMerged asked text)) (IsMerged files asked)
    (of_listing (files asked.listing) (λ t answer. OfSlices (files asked.slices) (AreTextsMerged asked t) answer) text
    c.in_ok-listing.ensures.bytes)
    (Err c.in_err-slices.field-0.0) (slices_unread_made (files asked.slices) (AreTextsMerged asked text) c.in_err-slices.field-0.0
    (rw c.in_ok-listing.ensures.kept at c.in_err-slices.ensures.refused)))

pub returns : goal.returns
returns g c =
    let asked = merge_asked_by c.args.request.now in
    let files = g.F.Files.bytes_of c.args.files.now in
    let text = c.as_slice.result.now in
    let slices = c.as_slice-2.result.now in
    makes_more (AreTextsMerged asked text slices) (IsMerged files asked)
    (λ answer so. of_listing (files asked.listing) (λ t a. OfSlices (files asked.slices) (AreTextsMerged asked t) a) text
    (rw c.as_slice.ensures.value c.in_ok-listing.ensures.bytes) answer
    (of_slices (files asked.slices) (AreTextsMerged asked text) slices
    (rw c.as_slice-2.ensures.value (rw c.in_ok-listing.ensures.kept at c.in_ok-slices.ensures.bytes)) answer so))
    c.merge_texts.result c.merge_texts.ensures
