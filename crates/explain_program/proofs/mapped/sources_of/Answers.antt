use Rattle.std.proofs.Common.{inr, rules}
use Rattle.explain_program.proofs.MappedLemmas.{listing_refused, map_refused, sources_read}
use Rattle.explain_program.proofs.mapped.sources_of.Goals as goal

pub returns-in-Err : goal.returns-in-Err
returns-in-Err c = listing_refused c.args.listing.now c.args.map.now c.in-Err.fault c.from.result (search rules) c.in-Err.ensures

pub returns-in-Ok-read_map : goal.returns-in-Ok-read_map
returns-in-Ok-read_map c =
    sources_read c.args.listing.now c.args.map.now c.in-Ok.image c.counts_of.result c.in-Ok-read_map.sources.items c.in-Ok.ensures
    c.counts_of.ensures c.in-Ok-read_map.ensures

pub returns-in-Err-Line : goal.returns-in-Err-Line
returns-in-Err-Line c =
    inr (map_refused c.args.listing.now c.args.map.now c.in-Ok.image c.counts_of.result c.in-Err-Line.line c.in-Ok.ensures
    c.counts_of.ensures (rw c.in-Err-Line.field-0-is at c.in-Err-Line.ensures))
