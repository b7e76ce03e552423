use Rattle.cheri_model.specs.steps.Hart.{HartState}
use Rattle.std.proofs.Common.{◌≡◌, ap, sym, ◌∙◌, subst}
use Rattle.cheri_model.specs.runs.Image.{ImageParts}
use Rattle.states.specs.Graphs.{GraphParts, rests_in}
use Rattle.states.specs.Locals.{IsLocalStep}
use Rattle.states.proofs.NodeLemmas.{continues_on, rests_kept}
use Rattle.states.proofs.TakenLemmas.{step_numbered}
use Rattle.states.proofs.graph.MachineGraph.compute.Goals as goal

pub keep_step-requires : goal.keep_step-requires
keep_step-requires c =
    let step = step_numbered c.args.self.now c.take_step-stepped.new.self c.number_hart.new.self c.number_value.new.self
    c.take_step-stepped.ensures.same c.number_hart.ensures.continues c.number_value.ensures.continues c.args.hart c.args.value
    c.requires.hart c.requires.value c.take_step-stepped.result.0 c.take_step-stepped.result.1
    (λ h v is there. c.take_step-stepped.ensures.hart h v is there) (λ h v is there. c.take_step-stepped.ensures.value h v is there)
    c.in_ok-hart_after.hart_after c.in_ok-value_after.value_after c.in_ok-hart_after.ensures.numbered
    c.in_ok-value_after.ensures.numbered in
    let continues = continues_on c.take_step-stepped.new.self c.number_hart.new.self c.number_value.new.self
    c.number_hart.ensures.continues c.number_value.ensures.continues in
    let rests : rests_in c.number_value.new.self ≡ rests_in c.args.self.now =
    rests_kept c.take_step-stepped.new.self c.number_value.new.self continues
    ∙ ap (λ (g : GraphParts). rests_in g) c.take_step-stepped.ensures.same in
    subst (λ (f : HartState → HartState). IsLocalStep c.number_value.new.self.image.program f c.number_value.new.self.store
    c.args.hart c.args.value (record { hart = c.in_ok-hart_after.hart_after; value = c.in_ok-value_after.value_after })) (sym rests)
    (subst (λ (i : ImageParts). IsLocalStep i.program (rests_in c.args.self.now) c.number_value.new.self.store c.args.hart c.args.value
    (record { hart = c.in_ok-hart_after.hart_after; value = c.in_ok-value_after.value_after }))
    (sym (c.number_value.ensures.continues.image ∙ (c.number_hart.ensures.continues.image
    ∙ ap (λ (g : GraphParts). g.image) c.take_step-stepped.ensures.same))) step)

pub returns-clause-step : goal.returns-clause-step
returns-clause-step c =
    let step = step_numbered c.args.self.now c.take_step-stepped.new.self c.number_hart.new.self c.number_value.new.self
    c.take_step-stepped.ensures.same c.number_hart.ensures.continues c.number_value.ensures.continues c.args.hart c.args.value
    c.requires.hart c.requires.value c.take_step-stepped.result.0 c.take_step-stepped.result.1
    (λ h v is there. c.take_step-stepped.ensures.hart h v is there) (λ h v is there. c.take_step-stepped.ensures.value h v is there)
    c.in_ok-hart_after.hart_after c.in_ok-value_after.value_after c.in_ok-hart_after.ensures.numbered
    c.in_ok-value_after.ensures.numbered in
    subst (λ (g : GraphParts). IsLocalStep c.args.self.now.image.program (rests_in c.args.self.now) g.store c.args.hart c.args.value
    (record { hart = c.in_ok-hart_after.hart_after; value = c.in_ok-value_after.value_after }))
    (sym c.keep_step.ensures) step
