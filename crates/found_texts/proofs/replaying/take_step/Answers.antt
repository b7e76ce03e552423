use Rattle.std.proofs.Common.{◌≡◌, List, get_or, ap, sym, ◌∙◌}
use Rattle.cheri_model.specs.declared.instr.Instr.{Instr}
use Rattle.cheri_model.specs.steps.Hart.{HartState}
use Rattle.cheri_model.specs.steps.HartStep.{Stepped, hart_step}
use Rattle.explore_turns.proofs.OrderLemmas.{step_made}
use Rattle.found_texts.proofs.replaying.take_step.Goals as goal

pub returns : goal.returns
returns c =
    let a = c.args in
    let after : Stepped = record { hart = c.step.new.hart; memory = c.step.new.ram; outcome = c.step.result } in
    let stepped : hart_step c.program.result.now (get_or a.harts.now a.number c.index-harts-number.result) a.ram.now ≡ after =
    c.step.ensures.value in
    step_made a.image.now a.harts.now a.ram.now a.number c.index-harts-number.result after c.requires c.index-harts-number.is
    (ap (λ (p : List Instr). hart_step p c.index-harts-number.result a.ram.now) (sym c.program.ensures)
    ∙ (ap (λ (h : HartState). hart_step c.program.result.now h a.ram.now) c.index-harts-number.is ∙ stepped))
