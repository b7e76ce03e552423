-- What two steps add to a trace.
use Rattle.std.specs.Prelude.{◌≡◌, ℕ, [], ◌∷◌, ◌++◌, Option, Some, None, Ok}
use Rattle.std.proofs.Common.{refl, append_assoc}
use Rattle.cheri_model.specs.declared.operation.Op.TheVariants as operation
use Rattle.cheri_model.specs.declared.operation.Event.TheVariants as event
use Rattle.cheri_model.specs.declared.trace.Entry.{Entry}
use Rattle.cheri_model.specs.runs.Machine.{entry_of, event_of}
use Rattle.cores.specs.declared.faults.StepFault.{StepFault}
use Rattle.cores.specs.Cores.{CoreParts, core_after, answered_step, refused, unless_refused}
use Rattle.two_steps.specs.TwoSteps.{IsStepTwice, stepped}

-- an answer that is no refusal is the step's entry
unrefused : (refusal : Option StepFault) (entry added : Entry) → Ok entry ≡ unless_refused refusal added → entry ≡ added
unrefused None entry added is = cc
unrefused (Some fault) entry added is = absurd (cc)

answered_entry : (core : CoreParts) (hart : ℕ) (entry : Entry) → Ok entry ≡ answered_step core hart →
    entry ≡ entry_of core.image core.state hart
unfolding answered_step
answered_entry core hart entry is = unrefused (refused core (operation.Step hart)) entry (entry_of core.image core.state hart) is

-- a step adds its entry to the trace
trace_after : (core : CoreParts) (hart : ℕ) → (stepped core hart).trace ≡ core.trace ++ event.Step (entry_of core.image core.state hart) ∷ []
unfolding core_after event_of
trace_after core hart = refl

same_image : (core : CoreParts) (hart : ℕ) → (stepped core hart).image ≡ core.image
unfolding core_after
same_image core hart = refl

-- and two steps add two
pub step_twice : (old mid new : CoreParts) (first second : ℕ) (a b : Entry) →
    mid ≡ stepped old first → new ≡ stepped mid second →
    Ok a ≡ answered_step old first → Ok b ≡ answered_step mid second →
    IsStepTwice old first second (a, b) new
step_twice old mid new first second a b here there is_a is_b = record {
  earlier = answered_entry old first a is_a;
  later = let image : old.image ≡ mid.image = rw (here, same_image old first) refl in rw (← here, image) (answered_entry mid second b is_b);
  after = rw (← here) there;
}

pub twice_trace : (old mid new : CoreParts) (first second : ℕ) (a b : Entry) →
    mid ≡ stepped old first → new ≡ stepped mid second →
    Ok a ≡ answered_step old first → Ok b ≡ answered_step mid second →
    new.trace ≡ old.trace ++ event.Step a ∷ event.Step b ∷ []
twice_trace old mid new first second a b here there is_a is_b =
    rw (there, trace_after mid second, ← answered_entry mid second b is_b, here, trace_after old first, ← answered_entry old first a is_a)
    (append_assoc old.trace (event.Step a ∷ []) (event.Step b ∷ []))
