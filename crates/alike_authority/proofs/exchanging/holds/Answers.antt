use Rattle.std.proofs.Common.{◌≡◌, arith, refl, sym, ap, ◌∙◌, subst}
use Rattle.std.proofs.lemmas.Bool.{false≢true}
use Rattle.cap_model.specs.values.CapValue.{CapValue}
use Rattle.cheri_model.specs.steps.Hart.{register}
use Rattle.alike_authority.proofs.HolderLemmas.{HasJust, nothing_holds, register_holds}
use Rattle.alike_authority.proofs.exchanging.holds.Goals as goal

pub returns-then-has_just-2 : goal.returns-then-has_just-2
returns-then-has_just-2 c =
    let hart = c.args.hart.now in
    let reg = c.loop-number.number in
    let count = c.pcc.ensures.formed.count in
    let low = c.loop-number-test.true in
    let is : c.register.result ≡ register hart reg = c.register.ensures.value ∙ ap (register hart) c.new.ensures in (
      λ _. register_holds hart c.args.rights reg (omega (arith, count, low))
          (subst (λ (v : CapValue). HasJust v c.args.rights) is (c.has_just-in-loop-number.ensures.0 c.if-has_just-2.true)),
      λ _. refl,
    )

pub returns : goal.returns
returns c = (
  λ never. absurd (false≢true never),
  λ holds. absurd (nothing_holds c.args.hart.now c.args.rights
      (λ just. false≢true (sym c.if-has_just.false ∙ c.has_just.ensures.1
      (subst (λ (v : CapValue). HasJust v c.args.rights) (sym c.pcc.ensures.value) just)))
      (λ reg inside just. c.loop-number.invariant reg
      (let count = c.pcc.ensures.formed.count in let past = c.loop-number-test.false in omega (arith, count, past, inside)) just)
      holds),
)
