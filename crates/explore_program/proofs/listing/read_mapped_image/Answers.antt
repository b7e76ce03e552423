use Rattle.std.proofs.Common.{option_map, rules}
use Rattle.std.proofs.lemmas.Result.{err_from_is_err_and}
use Rattle.explore_program.specs.Listings.{bytes_in}
use Rattle.explore_program.proofs.ListingLemmas.{image_read, listing_refused, map_refused}
use Rattle.explore_program.proofs.listing.read_mapped_image.Goals as goal

pub returns-in-Err-clause-whole : goal.returns-in-Err-clause-whole
returns-in-Err-clause-whole c =
    listing_refused c.args.listing.now (option_map bytes_in c.args.map) c.in-Err.fault c.from.result (search rules) c.in-Err.ensures

pub returns-in_err-sources-clause-whole : goal.returns-in_err-sources-clause-whole
returns-in_err-sources-clause-whole c =
    let p = err_from_is_err_and c.from_residual.result c.from_residual.ensures.1 in
    rw (p.1, p.2)
    (map_refused c.args.listing.now (option_map bytes_in c.args.map) c.in-Ok.image c.in-Ok.ensures c.in_err-sources.field-0.0
    c.in_err-sources.ensures)

pub returns-clause-whole : goal.returns-clause-whole
returns-clause-whole c =
    image_read c.args.listing.now (option_map bytes_in c.args.map) c.in-Ok.image c.in-Ok.ensures c.in_ok-sources.sources
    c.in_ok-sources.ensures
