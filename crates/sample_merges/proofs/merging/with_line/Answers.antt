use Rattle.sample_merges.proofs.MergeLemmas.{adds_fits, adds_line}
use Rattle.sample_merges.proofs.NumberLemmas.{slice_spans}
use Rattle.sample_merges.proofs.merging.with_line.Goals as goal

pub with_slice-requires-clause-slice_spans : goal.with_slice-requires-clause-slice_spans
with_slice-requires-clause-slice_spans c =
    slice_spans c.args.listing.now c.args.line.now c.in_ok-slice.slice c.in_ok-slice.ensures.read

pub returns-clause-added : goal.returns-clause-added
returns-clause-added c =
    adds_line c.args.listing.now c.args.whole c.args.line.now c.in_ok-slice.slice c.with_slice.result c.in_ok-slice.ensures.read
    c.with_slice.ensures.added

pub returns-clause-fits : goal.returns-clause-fits
returns-clause-fits c =
    adds_fits c.args.listing.now c.args.whole c.in_ok-slice.slice c.with_slice.result c.requires.fits c.in_ok-slice.ensures.fits
    c.with_slice.ensures.added
