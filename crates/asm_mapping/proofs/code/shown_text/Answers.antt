use Rattle.std.proofs.Common.{◌∙◌}
use Rattle.asm_mapping.proofs.TextLemmas.{shown_is, shown_not}
use Rattle.asm_mapping.proofs.code.shown_text.Goals as goal

pub returns-in-Ok : goal.returns-in-Ok
returns-in-Ok c = c.in-Ok.ensures.cases.0 ∙ shown_is c.args.name.now c.in-Ok.ensures.cases.1

pub returns-in-Err : goal.returns-in-Err
returns-in-Err c = shown_not c.args.name.now c.in-Err.ensures.cases.0
