-- A refused step leaves the core as it is, and every core is a replay that is confined.
use Rattle.std.proofs.Common.{sym, ap, ◌∙◌}
use Rattle.std.specs.Prelude.{Ok}
use Rattle.cheri_model.specs.declared.operation.Op.TheVariants as operation
use Rattle.cheri_model.specs.runs.Machine.{entry_of}
use Rattle.cores.specs.Cores.{answered_step, applied, core_after, unless_refused, unless_kept}
use Rattle.cores.proofs.CoreLemmas.{core_confined, core_monotone}
use Rattle.cores.proofs.cores.Core.step.Goals as goal

pub returns-in-Some-clause-answered : goal.returns-in-Some-clause-answered
unfolding answered_step
returns-in-Some-clause-answered c =
    let core = c.args.self.now in
    sym (ap (λ r. unless_refused r (entry_of core.image core.state c.args.hart)) (sym c.refusal.ensures.value ∙ c.in-Some.is))

pub returns-in-Some-clause-confined : goal.returns-in-Some-clause-confined
returns-in-Some-clause-confined c = core_confined c.args.self.now c.refusal.ensures.core

pub returns-in-None-clause-answered : goal.returns-in-None-clause-answered
unfolding answered_step
returns-in-None-clause-answered c =
    let core = c.args.self.now in
    ap Ok c.take.ensures.entry
    ∙ sym (ap (λ r. unless_refused r (entry_of core.image core.state c.args.hart)) (sym c.refusal.ensures.value ∙ c.in-None.is))

pub returns-in-None-clause-confined : goal.returns-in-None-clause-confined
returns-in-None-clause-confined c = core_confined c.take.new.self c.take.ensures.core

pub returns-in-Some-clause-applied : goal.returns-in-Some-clause-applied
unfolding applied
returns-in-Some-clause-applied c =
    let core = c.args.self.now in
    sym (ap (λ r. unless_kept r core (core_after core (operation.Step c.args.hart))) (sym c.refusal.ensures.value ∙ c.in-Some.is))

pub returns-in-None-clause-applied : goal.returns-in-None-clause-applied
unfolding applied
returns-in-None-clause-applied c =
    let core = c.args.self.now in
    c.take.ensures.after
    ∙ sym (ap (λ r. unless_kept r core (core_after core (operation.Step c.args.hart))) (sym c.refusal.ensures.value ∙ c.in-None.is))

pub returns-in-Some-clause-monotone : goal.returns-in-Some-clause-monotone
returns-in-Some-clause-monotone c = core_monotone c.args.self.now c.refusal.ensures.core

pub returns-in-None-clause-monotone : goal.returns-in-None-clause-monotone
returns-in-None-clause-monotone c = core_monotone c.take.new.self c.take.ensures.core
