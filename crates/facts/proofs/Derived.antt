-- What an instruction clears that writes a value.
use Rattle.std.proofs.Common.{◌≡◌, ℕ, ap, ◌∙◌}
use Rattle.std.specs.Prelude.{Option}
use Rattle.cap_model.specs.values.CapValue.{CapValue}
use Rattle.cheri_model.specs.declared.instr.Instr.{Instr}
use Rattle.cheri_model.specs.steps.Hart.{HartState}
use Rattle.cheri_model.specs.steps.Actions.{Put, action}
use Rattle.facts.specs.declared.step_facts.NamedValue.{NamedValue}
use Rattle.facts.specs.Operands.{Derivation, derivation_of}
use Rattle.facts.specs.Losses.{lost_if, lost_by, clears_of}

pub put_clears : (i : Instr) (hart : HartState) (found : Option NamedValue) (cd : ℕ) (v : CapValue) (d : Option Derivation) →
    Put cd v ≡ action i hart → d ≡ derivation_of i hart → lost_if d ≡ clears_of i hart found
unfolding clears_of
put_clears i hart found cd v d same is =
    ap (λ some. lost_if some) is ∙ ap (λ act. lost_by act (derivation_of i hart) hart found) same
