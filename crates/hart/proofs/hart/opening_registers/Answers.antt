-- The registers begin as c0 alone, and end as the image's behind it.
use Rattle.std.proofs.Common.{◌∷◌, replicate, refl, arith, lit<}
use Rattle.std.proofs.lemmas.List.{same_lists}
use Rattle.std.proofs.lemmas.List.Elements.{All-replicate}
use Rattle.cap_model.specs.values.CapValue.{IsLawfulValue}
use Rattle.cheri_model.specs.steps.Hart.{null}
use Rattle.hart.proofs.OpenedHarts.{same_first}
use Rattle.hart.proofs.hart.opening_registers.Goals as goal

pub loop-i-init : goal.loop-i-init
loop-i-init c =
    let is_null = c.null-opened.ensures in
    (refl, same_first c.null-opened.result null (replicate 31 c.null-opened.result) c.args.regs.now is_null, All-replicate IsLawfulValue 32 c.null-opened.result (rw is_null (lit< tt)))

pub returns-clause-same : goal.returns-clause-same
returns-clause-same c =
    same_lists c.loop-i.opened (null ∷ c.args.regs.now) (omega arith) (λ k d inside. c.loop-i.invariant.1 k d (omega arith))
