use Rattle.std.proofs.Common.{sym, ◌∙◌, ap}
use Rattle.cheri_model.specs.instructions.Form.{instr_of}
use Rattle.cheri_model.proofs.Runs.Instructions.{instr_of-form_of}
use Rattle.instructions.specs.Actions.{action_of}
use Rattle.facts.specs.Operands.{derivation_of}
use Rattle.facts.proofs.Derived.{put_clears}
use Rattle.facts.proofs.clearing.clears_of.Goals as goal

pub returns-in-Put : goal.returns-in-Put
returns-in-Put c same =
    c.lost_if.ensures
    ∙ put_clears c.args.instr.now c.args.hart.now c.args.found.now c.in-Put.cd c.in-Put.value _
    (sym (ap (λ asked. action_of asked) c.in-Put.is) ∙ same)
    (c.form_derived.ensures ∙ ap (λ i. derivation_of i c.args.hart.now) (ap (λ form. instr_of form) c.form.ensures ∙ instr_of-form_of c.args.instr.now))
