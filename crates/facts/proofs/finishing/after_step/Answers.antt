-- The facts of an instruction that was seen before its step, and of a step that fetched none.
use Rattle.std.proofs.Common.{◌∙◌, subst}
use Rattle.cheri_model.specs.steps.HartStep.{Stepped}
use Rattle.facts.specs.Stepping.{IsSeenBefore}
use Rattle.facts.proofs.Stepped.{seen_placed, facts_fetched, facts_unfetched}
use Rattle.facts.proofs.Stopped.{step_stops, unfetched_stops}
use Rattle.facts.proofs.finishing.after_step.Goals as goal

pub returns-in-None : goal.returns-in-None
returns-in-None c program hart memory from later before tells is =
    let stepped : Stepped = record { hart = c.args.after.hart.now; memory = c.args.after.ram.now; outcome = c.args.outcome } in
    let none = subst (λ seen. IsSeenBefore seen c.args.facts.now program c.args.after.number hart memory from) c.in-None.is before in
    c.fetch_facts.ensures hart (unfetched_stops program hart memory stepped none is)
    ∙ facts_unfetched program c.args.after.number hart memory from later stepped none

pub returns-in-Some : goal.returns-in-Some
returns-in-Some c program hart memory from later before tells is =
    let stepped : Stepped = record { hart = c.args.after.hart.now; memory = c.args.after.ram.now; outcome = c.args.outcome } in
    let seen = subst (λ seen. IsSeenBefore seen c.args.facts.now program c.args.after.number hart memory from) c.in-Some.is before in
    facts_fetched program c.args.after.number hart memory from later stepped c.in-Some.seen.fetched _ seen.0
    (c.instruction_facts.ensures hart memory from later seen.1 tells
    (λ done. (seen_placed c.in-Some.seen c.args.facts.now program c.args.after.number hart memory from stepped seen is done).before)
    (λ done. (seen_placed c.in-Some.seen c.args.facts.now program c.args.after.number hart memory from stepped seen is done).later)
    (step_stops program hart memory stepped is))
