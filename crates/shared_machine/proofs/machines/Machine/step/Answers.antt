-- A step that is taken is counted for its hart, and a share's hart is one of the machine's.
use Rattle.std.proofs.Common.{◌≡◌, refl, sym, ap, length, ◌∙◌}
use Rattle.std.specs.Prelude.{None}
use Rattle.cheri_model.specs.runs.Image.{ImageParts}
use Rattle.cheri_model.specs.declared.operation.Op.TheVariants as operation
use Rattle.cheri_model.specs.runs.Machine.{entry_of}
use Rattle.cores.specs.Cores.{CoreParts, applied, core_after, refused}
use Rattle.cores.proofs.CoreLemmas.{hart_is_there}
use Rattle.shared_machine.proofs.CopyLemmas.{applied_after, core_is, ends_with_step, refused_for_another, refused_step_answered, step_refused_for_another, taken_step_answered}
use Rattle.shared_machine.proofs.ShareLemmas.{counted_after, swept_still}
use Rattle.shared_machine.proofs.machines.Machine.step.Goals as goal

pub returns-in-Some-clause-answered : goal.returns-in-Some-clause-answered
returns-in-Some-clause-answered g c = λ other.
    refused_step_answered c.args.self.now.core c.args.share.now.hart c.in-Some.fault
    (c.in-Some.ensures.value ∙ (λ i. refused ((c.core.ensures.core ∙ (core_is c.self.view_is)) i) (operation.Step (c.hart-hart.ensures.hart i))))

pub returns-in-Some-clause-hart_exists : goal.returns-in-Some-clause-hart_exists
returns-in-Some-clause-hart_exists g c = λ missing.
    hart_is_there c.self.inside.watched.core c.core.result.now c.hart-hart.result _ c.in-Some.fault c.refusal.ensures.core c.core.ensures.core
    (ap (λ (image : ImageParts). length image.harts) c.self.invariant.1) c.hart-hart.ensures.below
    (c.in-Some.ensures.value ∙ ap (λ (k : CoreParts). refused k (operation.Step c.hart-hart.result)) c.core.ensures.core) (cc)

pub returns-in-Some-clause-of_a_step : goal.returns-in-Some-clause-of_a_step
returns-in-Some-clause-of_a_step g c = λ range.
    step_refused_for_another c.core.result.now c.hart-hart.result c.in-Some.fault c.in-Some.ensures.value (cc)

pub returns-in-Some-clause-memory : goal.returns-in-Some-clause-memory
returns-in-Some-clause-memory g c = λ memory. absurd
    (refused_for_another c.core.result.now (operation.Step c.hart-hart.result) c.in-Some.fault c.in-Some.ensures.value (cc))

pub newest_entry-requires : goal.newest_entry-requires
newest_entry-requires g c = (
  c.self.inside.watched.core.trace,
  entry_of c.self.inside.watched.core.image c.self.inside.watched.core.state c.hart-hart.result,
  ends_with_step c.self.inside.watched.core c.core-2.result.now c.hart-hart.result (c.core-2.ensures.core ∙ c.in-Ok.ensures.ok),
)

pub invariant_of-self-2 : goal.invariant_of-self-2
unfolding core_after
invariant_of-self-2 g c =
    let hart = c.args.share.now.hart in
    let after : c.take.new.self.core ≡ core_after c.self.inside.watched.core (operation.Step hart) =
    c.in-Ok.ensures.ok ∙ ap (λ n. core_after c.self.inside.watched.core (operation.Step n)) c.hart-hart.ensures.hart in (
      rw c.add.ensures.books (counted_after c.self.inside.books c.self.inside.watched.core c.take.new.self.core hart _ c.add.ensures.inside after c.self.invariant.0),
      ap (λ (k : CoreParts). k.image) after ∙ c.self.invariant.1,
      c.self.invariant.2 ∙ sym (swept_still c.self.inside.watched.core c.take.new.self.core hart after),
    )

pub returns-clause-answered : goal.returns-clause-answered
returns-clause-answered g c =
    let hart = c.args.share.now.hart in
    let after : c.take.new.self.core ≡ core_after c.self.inside.watched.core (operation.Step hart) =
    c.in-Ok.ensures.ok ∙ ap (λ n. core_after c.self.inside.watched.core (operation.Step n)) c.hart-hart.ensures.hart in
    let none : refused c.self.inside.watched.core (operation.Step hart) ≡ None =
    sym (c.in-None.ensures.value ∙ (λ i. refused (c.core.ensures.core i) (operation.Step (c.hart-hart.ensures.hart i)))) in
    λ other. taken_step_answered c.args.self.now.core c.core-2.result.now hart c.newest_entry.result
    (ap (λ (k : CoreParts). refused k (operation.Step hart)) (sym (core_is c.self.view_is)) ∙ none)
    (c.core-2.ensures.core ∙ (after ∙ ap (λ (k : CoreParts). core_after k (operation.Step hart)) (core_is c.self.view_is)))
    c.newest_entry.ensures

pub returns-clause-applied : goal.returns-clause-applied
returns-clause-applied g c =
    let hart = c.args.share.now.hart in
    let after : c.take.new.self.core ≡ core_after c.self.inside.watched.core (operation.Step hart) =
    c.in-Ok.ensures.ok ∙ ap (λ n. core_after c.self.inside.watched.core (operation.Step n)) c.hart-hart.ensures.hart in
    let none : refused c.self.inside.watched.core (operation.Step hart) ≡ None =
    sym (c.in-None.ensures.value ∙ (λ i. refused (c.core.ensures.core i) (operation.Step (c.hart-hart.ensures.hart i)))) in
    after ∙ (sym (applied_after c.self.inside.watched.core (operation.Step hart) none)
    ∙ ap (λ (k : CoreParts). applied k (operation.Step hart)) (core_is c.self.view_is))

pub returns-clause-counted : goal.returns-clause-counted
returns-clause-counted g c = c.add.ensures.share

pub returns-in-Some-clause-kept : goal.returns-in-Some-clause-kept
returns-in-Some-clause-kept g c = (refl, refl)

pub returns-in_default-clause-kept : goal.returns-in_default-clause-kept
returns-in_default-clause-kept g c = (c.in_default.ensures.err ∙ (core_is c.self.view_is), refl)
