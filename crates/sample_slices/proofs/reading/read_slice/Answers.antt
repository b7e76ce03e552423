use Rattle.std.proofs.lemmas.Result.{err_from_is_err_and}
use Rattle.sample_slices.proofs.LineLemmas.{claim_fails, json_fails, written_fits, written_read}
use Rattle.sample_slices.proofs.reading.read_slice.Goals as goal

pub returns-in_err-value-clause-read : goal.returns-in_err-value-clause-read
returns-in_err-value-clause-read c =
    let p = err_from_is_err_and c.from_residual.result c.from_residual.ensures.1 in
    rw (p.1, p.2) (json_fails c.args.listing.now c.args.line.now c.in_err-value.field-0.0 c.in_err-value.ensures.none)

pub returns-in_err-slice-clause-read : goal.returns-in_err-slice-clause-read
returns-in_err-slice-clause-read c =
    let p = err_from_is_err_and c.from_residual-in_err-slice.result c.from_residual-in_err-slice.ensures.1 in
    rw (p.1, p.2) (claim_fails c.args.listing.now c.args.line.now _ c.in_err-slice.field-0.0 c.in_ok-value.ensures.is.1
    c.in_err-slice.ensures.slice)

pub returns-clause-read : goal.returns-clause-read
returns-clause-read c =
    written_read c.args.listing.now c.args.line.now _ c.in_ok-slice.slice c.written_again.result c.in_ok-value.ensures.is.0
    c.in_ok-value.ensures.is.1 c.in_ok-slice.ensures.slice c.written_again.ensures

pub returns-clause-fits : goal.returns-clause-fits
returns-clause-fits c =
    written_fits c.args.listing.now c.args.line.now c.in_ok-slice.slice c.written_again.result c.in_ok-slice.ensures.fits
    c.written_again.ensures
