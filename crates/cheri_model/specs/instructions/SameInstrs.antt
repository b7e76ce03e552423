-- What `==` says of two instructions: it compares their forms.
use Rattle.std.specs.Prelude.{Bool}
use Rattle.std.specs.Ordering.{on}
use Rattle.cheri_model.specs.declared.instr.Instr.{Instr}
use Rattle.cheri_model.specs.contracts.form.FormPartialEq.TheImpl as form
use Rattle.cheri_model.specs.instructions.Form.{form_of}

abbrev pub same_instrs : Instr → Instr → Bool
same_instrs = on form_of (form.ghosts).eq
