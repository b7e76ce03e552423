-- The flows of a step, by its outcome and by what was seen.
use Rattle.std.proofs.Common.{◌≡◌, ◌∙◌, sym, ap, subst}
use Rattle.cheri_model.specs.declared.trace.Outcome.TheVariants as outcome
use Rattle.cheri_model.specs.steps.HartStep.{Stepped, hart_step}
use Rattle.facts.specs.Stepping.{IsSeenBefore, IsNotTrap}
use Rattle.facts.proofs.Stepped.{seen_placed, seen_flows, unfetched_traps, halt_flows, no_flows}
use Rattle.facts.proofs.finishing.flows_of_step.Goals as goal

pub returns-in-Some-clause-value : goal.returns-in-Some-clause-value
returns-in-Some-clause-value c program number hart after memory from facts before is =
    let stepped : Stepped = record { hart = after; memory = c.args.ram.now; outcome = c.args.outcome } in
    let seen = subst (λ seen. IsSeenBefore seen facts program number hart memory from) c.in-Some.is before in
    let done : (hart_step program hart memory).outcome ≡ outcome.Done = ap (λ s. s.outcome) is ∙ c.in-Done.is in
    let quiet : IsNotTrap c.args.outcome = subst (λ o. IsNotTrap o) (sym c.in-Done.is) tt in
    c.instruction_flows.ensures.value (seen_placed c.in-Some.seen facts program number hart memory from stepped seen is quiet).later
    ∙ seen_flows c.in-Some.seen facts program number hart memory from seen done

pub returns-in-None-clause-value : goal.returns-in-None-clause-value
returns-in-None-clause-value c program number hart after memory from facts before is =
    let unseen = subst (λ seen. IsSeenBefore seen facts program number hart memory from) c.in-None.is before in
    let done : (hart_step program hart memory).outcome ≡ outcome.Done = ap (λ s. s.outcome) is ∙ c.in-Done.is in
    absurd (unfetched_traps program hart memory unseen (subst (λ o. IsNotTrap o) (sym done) tt))

pub returns-in-Halt-clause-value : goal.returns-in-Halt-clause-value
returns-in-Halt-clause-value c program number hart after memory from facts before is =
    halt_flows program hart memory (ap (λ s. s.outcome) is ∙ c.in-Halt.is)

pub returns-in-Trap-clause-value : goal.returns-in-Trap-clause-value
returns-in-Trap-clause-value c program number hart after memory from facts before is =
    no_flows program hart memory _ (ap (λ s. s.outcome) is ∙ c.in-Trap.is)
