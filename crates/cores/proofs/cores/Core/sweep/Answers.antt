-- A refused sweep leaves the core as it is, and every core is a replay that is confined.
use Rattle.std.proofs.Common.{sym, ap, ◌∙◌}
use Rattle.std.specs.Prelude.{Ok}
use Rattle.cheri_model.specs.declared.operation.Op.TheVariants as operation
use Rattle.cheri_model.specs.runs.Machine.{event_of}
use Rattle.cores.specs.Cores.{answered, applied, core_after, unless_refused, unless_kept}
use Rattle.cores.proofs.CoreLemmas.{core_confined, core_monotone}
use Rattle.cores.proofs.SweepLemmas.{none_left, state_swept}
use Rattle.cores.proofs.cores.Core.sweep.Goals as goal

pub returns-in-Some-clause-answered : goal.returns-in-Some-clause-answered
unfolding answered
returns-in-Some-clause-answered c =
    let core = c.args.self.now in
    sym (ap (λ r. unless_refused r (event_of core.image core.state (operation.Sweep c.args.lo c.args.hi))) (sym c.refusal.ensures.value ∙ c.in-Some.is))

pub returns-in-Some-clause-confined : goal.returns-in-Some-clause-confined
returns-in-Some-clause-confined c = core_confined c.args.self.now c.refusal.ensures.core

pub returns-in-None-clause-answered : goal.returns-in-None-clause-answered
unfolding answered
returns-in-None-clause-answered c =
    let core = c.args.self.now in
    ap Ok c.clear.ensures.event
    ∙ sym (ap (λ r. unless_refused r (event_of core.image core.state (operation.Sweep c.args.lo c.args.hi))) (sym c.refusal.ensures.value ∙ c.in-None.is))

pub returns-in-None-clause-confined : goal.returns-in-None-clause-confined
returns-in-None-clause-confined c = core_confined c.clear.new.self c.clear.ensures.core

pub returns-in-Some-clause-applied : goal.returns-in-Some-clause-applied
unfolding applied
returns-in-Some-clause-applied c =
    let core = c.args.self.now in
    sym (ap (λ r. unless_kept r core (core_after core (operation.Sweep c.args.lo c.args.hi))) (sym c.refusal.ensures.value ∙ c.in-Some.is))

pub returns-in-None-clause-applied : goal.returns-in-None-clause-applied
unfolding applied
returns-in-None-clause-applied c =
    let core = c.args.self.now in
    c.clear.ensures.after
    ∙ sym (ap (λ r. unless_kept r core (core_after core (operation.Sweep c.args.lo c.args.hi))) (sym c.refusal.ensures.value ∙ c.in-None.is))

pub returns-in-Some-clause-monotone : goal.returns-in-Some-clause-monotone
returns-in-Some-clause-monotone c = core_monotone c.args.self.now c.refusal.ensures.core

pub returns-in-None-clause-monotone : goal.returns-in-None-clause-monotone
returns-in-None-clause-monotone c = core_monotone c.clear.new.self c.clear.ensures.core

pub returns-in-None-clause-event : goal.returns-in-None-clause-event
unfolding event_of
returns-in-None-clause-event c = c.clear.ensures.event

pub returns-in-None-clause-swept : goal.returns-in-None-clause-swept
returns-in-None-clause-swept c = state_swept c.args.self.now c.clear.new.self c.args.lo c.args.hi c.clear.ensures.after

pub returns-in-None-clause-none_left : goal.returns-in-None-clause-none_left
returns-in-None-clause-none_left c = none_left c.args.self.now c.clear.new.self c.args.lo c.args.hi c.clear.ensures.after
