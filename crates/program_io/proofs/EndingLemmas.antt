-- What was printed of an answer that was flushed.
use Rattle.std.proofs.Common.{◌≡◌, ◌≤◌, arith, ℕ, List, Ok, Err, Bool, refl, inl, inr}
use Rattle.std.specs.Prelude.{◌⊎◌, IfErr, IfOk, IfSome, Option, Some, Result}
use Rattle.std.specs.Io.KnownBytes.{Keeps}
use Rattle.std.proofs.KnownBytes.{Appends-kept}
use Rattle.printing.specs.Endings.{Answer, EndsBy, Failure, FailsBy, HasPrefix, HasWhole}
use Rattle.printing.proofs.EndingLemmas.{begins_whole, fails_more, whole_more}
use Rattle.program_io.specs.declared.fault.Fault.{Fault}
use Rattle.program_io.specs.declared.fault.Fault.TheVariants.{CannotWrite, Usage}
use Rattle.program_io.specs.Endings.{IsFlushed, IsTold}
use Rattle.program_io.specs.Faults.{failure_of, fault_text, no_memory, status_of, text_of}
use Rattle.program_io.proofs.FaultLemmas.{status_range, text_is_so}
use Rattle.report_lines.specs.Texts.{line}
use Rattle.sinks.specs.Sinks.{TakesPrefix}

-- the ends of an answer
pub flushes : {End T : Type 0} (end : End) (old new : Option (List ℕ)) → Keeps old new
    → IsFlushed {End = End} {T = T} (Ok end) (Ok end) old new
flushes end old new kept = (kept, inl refl)

pub unflushed : {End T : Type 0} (end : End) (old new : Option (List ℕ)) → Keeps old new
    → IsFlushed {End = End} {T = T} (Ok end) (Err CannotWrite) old new
unflushed end old new kept = (kept, inr refl)

pub ruleset flushed = (flushes, unflushed)

module _ {End Ended T : Type 0} (stop_of : Ended → End) (own : T → Failure End) (in_pieces : Bool)
    (IsAnswer : Answer End (Fault T) → Type 0) (old now new : Option (List ℕ)) where
  whole_kept : (end : End) → HasWhole IsAnswer end old now → Keeps now new → HasWhole IsAnswer end old new
  whole_kept end printed kept = (printed.0, printed.1, Appends-kept old now new printed.0 printed.2 kept)

  whole_begun : (end : End) → HasWhole IsAnswer end old now → Keeps now new → HasPrefix IsAnswer old new
  whole_begun end printed kept = (printed.0, end, printed.1, begins_whole old now new printed.0 printed.2 kept)

  -- an answer that was written whole is printed whole
  pub flushed_whole : (answered ended : Result Ended (Fault T)) → IsFlushed answered ended now new
      → IfOk answered (λ end. HasWhole IsAnswer (stop_of end) old now)
      → IfOk ended (λ end. HasWhole IsAnswer (stop_of end) old new)
  flushed_whole (Ok end) ended (kept, inl is) printed = rw is (whole_kept (stop_of end) printed kept)
  flushed_whole (Ok end) ended (kept, inr is) printed = rw is tt
  flushed_whole (Err fault) ended (is, same) printed = rw is tt

  -- a fault leaves of it what it says
  pub flushed_fails : (answered ended : Result Ended (Fault T)) → IsFlushed answered ended now new
      → IfOk answered (λ end. HasWhole IsAnswer (stop_of end) old now)
      → IfErr answered (λ fault. FailsBy (failure_of own in_pieces fault) IsAnswer fault old now)
      → IfErr ended (λ fault. FailsBy (failure_of own in_pieces fault) IsAnswer fault old new)
  flushed_fails (Ok end) ended (kept, inl is) printed fails = rw is tt
  flushed_fails (Ok end) ended (kept, inr is) printed fails = rw is (whole_begun (stop_of end) printed kept)
  flushed_fails (Err fault) ended (is, same) printed fails = rw (is, same) fails

-- A fault that was reported.
module _ {T : Type 0} (is_refusal : T → Bool) (own_text : T → List ℕ) (fault : Fault T) (status : ℕ) (old new : Option (List ℕ)) where
  pub told : status ≡ status_of is_refusal fault
      → IfSome (text_of (λ f. Some (own_text f)) fault) (λ text. TakesPrefix old new (line text))
      → IsTold (status_of is_refusal) (fault_text own_text) fault status old new
  told is written = (is, text_is_so own_text (λ text. TakesPrefix old new (line text)) fault written)

  pub told_most : IsTold (status_of is_refusal) (fault_text own_text) fault status old new → status ≤ 3
  told_most is = let range = status_range is_refusal fault in rw is.0 range.1

  pub told_some : {A : Type 0} → IsTold (status_of is_refusal) (fault_text own_text) fault status old new → status ≡ 0 → A
  told_some is none =
      let range = status_range is_refusal fault in
      let least : 1 ≤ status = rw is.0 range.0 in
      absurd (omega arith)

  -- what it says is so
  pub told_ends : (IsSo : Fault T → Type 0) → IsSo fault → IsTold (status_of is_refusal) (fault_text own_text) fault status old new
      → EndsBy (status_of is_refusal) (fault_text own_text) IsSo status old new
  told_ends IsSo so is = record { fault = fault; status_is = is.0; is_so = so; told = is.1 }

-- what is so of the end of an answer
pub flushed_so : {End T : Type 0} (IsSo : End → Type 0) (answered ended : Result End (Fault T)) (now new : Option (List ℕ))
    → IsFlushed answered ended now new → IfOk answered IsSo → IfOk ended IsSo
flushed_so IsSo (Ok end) ended now new (kept, inl is) so = rw is so
flushed_so IsSo (Ok end) ended now new (kept, inr is) so = rw is tt
flushed_so IsSo (Err fault) ended now new (is, same) so = rw is tt

-- nothing was asked for
pub nothing_ends : {End T : Type 0} (answered ended : Result End (Fault T)) (now new : Option (List ℕ)) → IsFlushed answered ended now new
    → (answered ≡ Err Usage) ⊎ (answered ≡ Err no_memory) → (ended ≡ Err Usage) ⊎ (ended ≡ Err no_memory)
nothing_ends (Ok end) ended now new flushed (inl is) = absurd cc
nothing_ends (Ok end) ended now new flushed (inr is) = absurd cc
nothing_ends (Err fault) ended now new flushed (inl is) = inl (rw flushed.0 is)
nothing_ends (Err fault) ended now new flushed (inr is) = inr (rw flushed.0 is)

-- what ends with some answers ends so with more of them
module _ {End Ended T : Type 0} (stop_of : Ended → End) (own : T → Failure End) (in_pieces : Bool)
    (IsSome IsMore : Answer End (Fault T) → Type 0) (more : (answer : Answer End (Fault T)) → IsSome answer → IsMore answer)
    (old new : Option (List ℕ)) where
  pub all_whole : {E : Type 0} (result : Result Ended E) → IfOk result (λ end. HasWhole IsSome (stop_of end) old new)
      → IfOk result (λ end. HasWhole IsMore (stop_of end) old new)
  all_whole (Ok end) printed = whole_more IsSome IsMore more old new (stop_of end) printed
  all_whole (Err error) printed = tt

  pub all_fail : {X : Type 0} (result : Result X (Fault T)) → IfErr result (λ fault. FailsBy (failure_of own in_pieces fault) IsSome fault old new)
      → IfErr result (λ fault. FailsBy (failure_of own in_pieces fault) IsMore fault old new)
  all_fail (Ok x) fails = tt
  all_fail (Err fault) fails = fails_more IsSome IsMore more old new (failure_of own in_pieces fault) fault fails
