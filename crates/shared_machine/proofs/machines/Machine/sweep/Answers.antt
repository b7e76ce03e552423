-- A sweep is refused where the core refuses it, and the sweeper counts one that is taken, and no share.
use Rattle.std.proofs.Common.{◌≡◌, ℕ, ◌+◌, refl, sym, ap, ◌∙◌}
use Rattle.std.specs.Prelude.{None}
use Rattle.cheri_model.specs.declared.operation.Op.TheVariants as operation
use Rattle.cheri_model.specs.declared.operation.Event.TheVariants as event
use Rattle.cheri_model.specs.runs.Machine.{cleared}
use Rattle.cores.specs.Cores.{CoreParts, applied, core_after, refused}
use Rattle.shared_machine.proofs.CopyLemmas.{after_some, applied_after, core_is, refused_answered, refused_for_another, taken_answered}
use Rattle.shared_machine.proofs.ShareLemmas.{counted_still, swept_more}
use Rattle.cores.proofs.SweepLemmas.{ends_with_sweep, none_left, state_swept}
use Rattle.shared_machine.proofs.machines.Machine.sweep.Goals as goal

pub returns-in-Some-clause-answered : goal.returns-in-Some-clause-answered
returns-in-Some-clause-answered g c = λ other.
    refused_answered c.args.self.now.core (operation.Sweep c.args.lo c.args.hi) c.in-Some.fault
    (c.in-Some.ensures.value ∙ ap (λ (k : CoreParts). refused k (operation.Sweep c.args.lo c.args.hi)) (c.core.ensures.core ∙ (core_is c.self.view_is)))

pub returns-in-Some-clause-memory : goal.returns-in-Some-clause-memory
returns-in-Some-clause-memory g c = λ memory. absurd
    (refused_for_another c.core.result.now (operation.Sweep c.args.lo c.args.hi) c.in-Some.fault c.in-Some.ensures.value (cc))

pub newest-requires : goal.newest-requires
newest-requires g c =
    after_some c.self.inside.watched.core c.core-2.result.now (operation.Sweep c.args.lo c.args.hi) (c.core-2.ensures.core ∙ c.in-Ok.ensures.ok)

pub invariant_of-self-2 : goal.invariant_of-self-2
unfolding core_after
invariant_of-self-2 g c = (
  counted_still c.self.inside.books c.self.inside.watched.core c.take.new.self.core c.args.lo c.args.hi _ c.in-Ok.ensures.ok c.self.invariant.0,
  ap (λ (k : CoreParts). k.image) c.in-Ok.ensures.ok ∙ c.self.invariant.1,
  c.count.ensures.book ∙ (ap (λ (n : ℕ). n + 1) c.self.invariant.2 ∙ sym (swept_more c.self.inside.watched.core c.take.new.self.core c.args.lo c.args.hi c.in-Ok.ensures.ok)),
)

pub returns-in-Some-clause-kept : goal.returns-in-Some-clause-kept
returns-in-Some-clause-kept g c = (refl, refl)

pub returns-in_default-clause-kept : goal.returns-in_default-clause-kept
returns-in_default-clause-kept g c = (c.in_default.ensures.err ∙ (core_is c.self.view_is), refl)

pub returns-clause-answered : goal.returns-clause-answered
returns-clause-answered g c =
    let op = operation.Sweep c.args.lo c.args.hi in
    let none : refused c.self.inside.watched.core op ≡ None =
    sym (c.in-None.ensures.value ∙ ap (λ (k : CoreParts). refused k op) c.core.ensures.core) in
    λ other. taken_answered c.args.self.now.core c.core-2.result.now op c.newest.result
    (ap (λ (k : CoreParts). refused k op) (sym (core_is c.self.view_is)) ∙ none)
    (c.core-2.ensures.core ∙ (c.in-Ok.ensures.ok ∙ ap (λ (k : CoreParts). core_after k op) (core_is c.self.view_is)))
    c.newest.ensures

pub returns-clause-applied : goal.returns-clause-applied
returns-clause-applied g c =
    let op = operation.Sweep c.args.lo c.args.hi in
    let none : refused c.self.inside.watched.core op ≡ None =
    sym (c.in-None.ensures.value ∙ ap (λ (k : CoreParts). refused k op) c.core.ensures.core) in
    c.in-Ok.ensures.ok ∙ (sym (applied_after c.self.inside.watched.core op none)
    ∙ ap (λ (k : CoreParts). applied k op) (core_is c.self.view_is))

pub returns-clause-event : goal.returns-clause-event
returns-clause-event g c =
    let core = c.args.self.now.core in
    let op = operation.Sweep c.args.lo c.args.hi in
    c.newest.ensures core.trace (event.Sweep (cleared c.args.lo c.args.hi core.state) c.args.lo c.args.hi)
    (ends_with_sweep core c.core-2.result.now c.args.lo c.args.hi
    (c.core-2.ensures.core ∙ (c.in-Ok.ensures.ok ∙ ap (λ (k : CoreParts). core_after k op) (core_is c.self.view_is))))

pub returns-clause-swept : goal.returns-clause-swept
returns-clause-swept g c =
    let op = operation.Sweep c.args.lo c.args.hi in
    state_swept c.args.self.now.core c.take.new.self.core c.args.lo c.args.hi (c.in-Ok.ensures.ok ∙ ap (λ (k : CoreParts). core_after k op) (core_is c.self.view_is))

pub returns-clause-none_left : goal.returns-clause-none_left
returns-clause-none_left g c =
    let op = operation.Sweep c.args.lo c.args.hi in
    none_left c.args.self.now.core c.take.new.self.core c.args.lo c.args.hi (c.in-Ok.ensures.ok ∙ ap (λ (k : CoreParts). core_after k op) (core_is c.self.view_is))
