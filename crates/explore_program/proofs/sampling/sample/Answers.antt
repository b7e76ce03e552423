use Rattle.std.proofs.lemmas.Result.{err_from_is_err_and}
use Rattle.explore_line.specs.Samples.{sample_asked_by}
use Rattle.explore_program.specs.Samples.{IsListingSampled, IsSampled}
use Rattle.explore_program.proofs.SampleLemmas.{listing_unread_made, makes_more, of_listing}
use Rattle.explore_program.proofs.sampling.sample.Goals as goal

pub returns-in_err-listing : goal.returns-in_err-listing
returns-in_err-listing g c =
    let p = err_from_is_err_and c.from_residual.result c.from_residual.ensures.1 in
    let asked = sample_asked_by c.args.request.now in
    rw (p.1, p.2)
    (listing_unread_made (g.F.Files.bytes_of c.args.files.now asked.listing) (λ text answer. IsListingSampled asked text answer)
    c.in_err-listing.field-0.0 c.in_err-listing.ensures.refused)

pub returns : goal.returns
returns g c =
    let asked = sample_asked_by c.args.request.now in
    let file = g.F.Files.bytes_of c.args.files.now asked.listing in
    makes_more (IsListingSampled asked c.as_slice.result.now) (IsSampled (g.F.Files.bytes_of c.args.files.now) asked)
    (of_listing file (λ text answer. IsListingSampled asked text answer) c.as_slice.result.now
    (rw c.as_slice.ensures.value c.in_ok-listing.ensures.bytes))
    c.sample_listing.result c.sample_listing.ensures
