use Rattle.std.proofs.Common.{◌∙◌, sym}
use Rattle.asm_statements.proofs.LoopLemmas.{this_form, next_form, no_form}
use Rattle.asm_statements.proofs.choosing.first_fit.Goals as goal

pub returns-then-fits : goal.returns-then-fits
returns-then-fits c =
    this_form c.args.count c.args.ending c.args.forms.now c.loop-form.form-index _ _ c.loop-form-test.true (sym c.fits.ensures ∙ c.if-fits.true) c.loop-form.invariant

pub loop-form-preserved : goal.loop-form-preserved
loop-form-preserved c =
    next_form c.args.count c.args.ending c.args.forms.now c.loop-form.form-index _ _ c.loop-form-test.true (sym c.fits.ensures ∙ c.if-fits.false) c.loop-form.invariant

pub returns : goal.returns
returns c = no_form c.args.count c.args.ending c.args.forms.now c.loop-form.form-index _ c.loop-form-test.false c.loop-form.invariant
