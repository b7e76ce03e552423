-- What a sweep answers, where it may also run out of memory: BadRange exactly where its range cannot be swept, and no
-- refusal of a hart. And what a refusal keeps, of a sweep or a step.
use Rattle.std.proofs.Common.{◌≡◌, ◌≢◌, ℕ, Bool, true, false, not, length, refl, sym, ap, ◌∙◌}
use Rattle.std.specs.Prelude.{◌↔◌, Option, Some, None, Result, Ok, Err, IfOk, OnErr, nat_lt, if◌then◌else◌}
use Rattle.cheri_model.specs.declared.operation.Op.TheVariants as operation
use Rattle.cheri_model.specs.declared.operation.Event.{Event}
use Rattle.cheri_model.specs.declared.operation.Event.TheVariants as event
use Rattle.cheri_model.specs.runs.Replay.{operation_of}
use Rattle.cheri_model.specs.runs.Sweeps.{is_range}
use Rattle.cheri_model.specs.runs.Machine.{event_of}
use Rattle.cores.specs.declared.faults.StepFault.{StepFault}
use Rattle.cores.specs.declared.faults.StepFault.TheVariants.{NoSuchHart, TraceFull, HartStopped, NoMemory, BadRange}
use Rattle.cores.specs.Cores.{CoreParts, answered, refused, unless_refused}

abbrev Answer : Type 0
Answer = Result Event StepFault

pub records_sweep : (lo hi count : ℕ) (result : Answer) → IfOk result (λ e. e ≡ event.Sweep count lo hi) →
    IfOk result (λ e. operation_of e ≡ operation.Sweep lo hi)
records_sweep lo hi count (Ok e) is = ap operation_of is
records_sweep lo hi count (Err fault) is = is

-- a refusal that keeps the machine and a token keeps the token
pub token_kept : {T E : Type 0} (A B : Type 0) (result : Result T E) → OnErr result (A × B) → OnErr result B
token_kept A B (Ok done) both = tt
token_kept A B (Err fault) both = both.1

module _ (core : CoreParts) (lo hi : ℕ) (result : Answer)
    (answer : result ≢ Err NoMemory → result ≡ answered core (operation.Sweep lo hi))
    (memory : result ≡ Err NoMemory → refused core (operation.Sweep lo hi) ≡ None) where
  -- a refusal other than `NoMemory` is the core's
  refusal_is : (fault : StepFault) → fault ≢ NoMemory → result ≡ Err fault → refused core (operation.Sweep lo hi) ≡ Some fault
  unfolding answered
  refusal_is fault other is =
      by_refusal (refused core (operation.Sweep lo hi)) refl (sym is ∙ answer (λ none. other (same_fault none)))
    where
      same_fault : result ≡ Err NoMemory → fault ≡ NoMemory
      same_fault none = let both : ◌≡◌ {A = Answer} (Err fault) (Err NoMemory) = sym is ∙ none in cc

      by_refusal : (r : Option StepFault) → refused core (operation.Sweep lo hi) ≡ r →
          ◌≡◌ {A = Answer} (Err fault) (unless_refused r (event_of core.image core.state (operation.Sweep lo hi))) →
          refused core (operation.Sweep lo hi) ≡ Some fault
      by_refusal None e both = absurd cc
      by_refusal (Some first) e both = let same : fault ≡ first = cc in e ∙ ap (λ (f : StepFault). Some f) (sym same)

  refused_for_range : (fault : StepFault) → fault ≢ TraceFull → refused core (operation.Sweep lo hi) ≡ Some fault → (fault ≡ BadRange) × (is_range lo hi ≡ false)
  unfolding refused
  refused_for_range fault other is = by_range (is_range lo hi) (nat_lt (length core.trace) core.limit) refl is
    where
      by_range : (range room : Bool) → is_range lo hi ≡ range →
          (if not range then Some BadRange else if not room then Some TraceFull else None) ≡ Some fault → (fault ≡ BadRange) × (is_range lo hi ≡ false)
      by_range false room e both = (cc, e)
      by_range true false e both = absurd (other cc)
      by_range true true e both = absurd cc

  pub bad_range : (result ≡ Err BadRange) ↔ (is_range lo hi ≡ false)
  unfolding refused answered
  bad_range = (
    λ is. (refused_for_range BadRange (λ e. cc) (refusal_is BadRange (λ e. cc) is)).1,
    λ bad.
        let refused_so : refused core (operation.Sweep lo hi) ≡ Some BadRange = rw bad refl in
        answer (λ none. let both : None ≡ Some BadRange = sym (memory none) ∙ refused_so in cc)
        ∙ ap (λ r. unless_refused r (event_of core.image core.state (operation.Sweep lo hi))) refused_so,
  )

  pub no_such_hart : result ≢ Err NoSuchHart
  no_such_hart is = let found = refused_for_range NoSuchHart (λ e. cc) (refusal_is NoSuchHart (λ e. cc) is) in cc (found.0)

  pub no_stopped_hart : result ≢ Err HartStopped
  no_stopped_hart is = let found = refused_for_range HartStopped (λ e. cc) (refusal_is HartStopped (λ e. cc) is) in cc (found.0)
