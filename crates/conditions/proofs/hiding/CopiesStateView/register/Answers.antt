use Rattle.std.proofs.Common.{◌∙◌, ap, sym}
use Rattle.cheri_model.specs.steps.Hart.{HartState, register}
use Rattle.conditions.proofs.HidingLemmas.{copy_at}
use Rattle.conditions.proofs.hiding.CopiesStateView.register.Goals as goal

pub returns : goal.returns
returns c =
    let same = copy_at c.args.self.now.count c.args.self.now.hart.now c.args._hart c.requires in
    c.register.ensures.value ∙ sym (ap (λ (h : HartState). register h c.args.reg) same)
