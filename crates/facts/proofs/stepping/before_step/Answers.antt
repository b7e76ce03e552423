-- What a fetch that passed gave is what is seen.
use Rattle.std.proofs.Common.{◌≡◌, Some, None, sym, ◌∙◌, ap, subst}
use Rattle.cheri_model.specs.instructions.Form.{form_of}
use Rattle.origins.specs.Flows.{IsSpot}
use Rattle.facts.specs.Names.{EachIs, reads_of}
use Rattle.facts.specs.StepFacts.{fetched_of}
use Rattle.facts.proofs.stepping.before_step.Goals as goal

pub returns-in-Some-clause-seen : goal.returns-in-Some-clause-seen
returns-in-Some-clause-seen c from tells = (
  ap (λ pcc. fetched_of c.args.program.now pcc) (sym c.pcc.ensures.value) ∙ sym c.fetched.ensures ∙ c.in-Some.is
      ∙ ap (λ fetched. Some fetched) (sym c.seen_before.ensures.same),
  c.seen_before.ensures.seen from tells,
)

pub returns-in-Some-clause-registers : goal.returns-in-Some-clause-registers
returns-in-Some-clause-registers c f is =
    let given : fetched_of c.args.program.now c.args.now.hart.now.pcc ≡ Some c.in-Some.fetched =
    ap (λ pcc. fetched_of c.args.program.now pcc) (sym c.pcc.ensures.value) ∙ sym c.fetched.ensures ∙ c.in-Some.is in
    let same : c.in-Some.fetched ≡ f = cc in
    subst (λ g. EachIs (IsSpot 0) (reads_of (form_of g.instr))) same c.seen_before.ensures.registers

pub returns-in-None-clause-registers : goal.returns-in-None-clause-registers
returns-in-None-clause-registers c f is =
    let none : fetched_of c.args.program.now c.args.now.hart.now.pcc ≡ None =
    ap (λ pcc. fetched_of c.args.program.now pcc) (sym c.pcc.ensures.value) ∙ sym c.fetched.ensures ∙ c.in-None.is in
    absurd (cc)
