-- none of the forms so far fits
use Rattle.std.proofs.Common.{◌≡◌, drop}
use Rattle.asm_statements.specs.Choosing.{first_fit}
use Rattle.asm_statements.proofs.choosing.first_fit.Given as goal

abbrev pub invariant-loop-form : goal.invariant-loop-form
invariant-loop-form l = first_fit l.count l.ending (drop l.form-index l.forms) ≡ first_fit l.count l.ending l.forms
