use Rattle.std.proofs.Common.{◌∙◌, refl, sym, arith}
use Rattle.std.proofs.lemmas.List.{same_lists, get_or_default}
use Rattle.cheri_model.specs.steps.Hart.{null}
use Rattle.hart_groups.proofs.alike.are_same_registers.Goals as goal

pub returns : goal.returns
returns c = (
  λ _. same_lists c.args.one.now c.args.other.now (c.told-one ∙ sym c.told-other)
      (λ k d below. get_or_default c.args.one.now k d null below ∙ c.loop-number.invariant k (omega arith)
      ∙ get_or_default c.args.other.now k null d (omega arith)),
  λ _. refl,
)
