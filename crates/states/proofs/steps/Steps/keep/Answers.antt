use Rattle.std.proofs.Common.{◌≡◌, ◌∙◌, ◌++◌, [], ◌∷◌, List, sym, subst}
use Rattle.std.specs.Prelude.{is_some, true, false}
use Rattle.states.specs.declared.locals.LocalStep.{LocalStep}
use Rattle.states.specs.declared.steps.KnownStep.{KnownStep}
use Rattle.states.specs.Steps.{IsKnown, AreSteps}
use Rattle.states.proofs.KnownLemmas.{known, known_of, none_of, steps_more, steps_filled, last_known, always}
use Rattle.states.proofs.steps.Steps.keep.Goals as goal

pub returns-then-is_some-clause-there : goal.returns-then-is_some-clause-there
returns-then-is_some-clause-there c =
    let some : is_some c.find.result ≡ true = sym c.is_some.ensures ∙ c.if-is_some.true in
    subst (λ (ss : List KnownStep). (after : LocalStep) × IsKnown ss (known c.args.step.hart c.args.step.value after)) c.self.view_is
    (known_of c.self.inside.keys c.self.inside.steps.items c.self.inside.recent.items c.self.invariant c.args.step.hart
    c.args.step.value c.find.result c.find.ensures.found some)

pub invariant_of-self-in-Ok : goal.invariant_of-self-in-Ok
invariant_of-self-in-Ok c =
    let steps : List KnownStep = c.self.inside.steps.items in
    let step : KnownStep = c.args.step in
    let recent : List KnownStep = c.self.inside.recent.items in
    let none : is_some c.find.result ≡ false = sym c.is_some.ensures ∙ c.if-is_some.false in
    let more = steps_more c.self.inside.keys steps recent c.self.invariant c.insert.new.self step c.in-Ok.field-0
    (λ i at. c.find.ensures.absent (none_of c.find.result none) i at) c.in-Ok.ensures.interned in
    subst (λ (ss : List KnownStep). AreSteps c.insert.new.self ss c.fill.new.recent.items) (sym c.in_ok-push.ensures.items)
    (steps_filled c.insert.new.self (steps ++ step ∷ []) recent more c.fill.new.recent.items step (last_known steps step)
    c.fill.ensures)

pub returns-in-Ok-clause-there : goal.returns-in-Ok-clause-there
returns-in-Ok-clause-there c =
    always c.fill.result (
      c.args.step.after,
      subst (λ (ss : List KnownStep). IsKnown ss c.args.step) (sym c.in_ok-push.ensures.items)
          (last_known c.self.inside.steps.items c.args.step),
    )
