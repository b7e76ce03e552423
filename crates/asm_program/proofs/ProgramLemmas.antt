-- What the program prints, as the ending of its command line.
use Rattle.std.proofs.Common.{◌≡◌, ◌≢◌, ◌≤◌, arith, ℕ, List, map, refl, sym, subst, false, inl, inr}
use Rattle.std.specs.Prelude.{◌⊎◌, IfErr, IfOk, IfSome, Option, Some, None, Result, Ok, Err}
use Rattle.report_lines.specs.Texts.{line}
use Rattle.sinks.specs.Sinks.{TakesPrefix}
use Rattle.printing.specs.Endings.{FailsBy, HasWhole}
use Rattle.inputs.specs.Files.{KnownFiles}
use Rattle.asm_line.specs.Requests.{AsmAsked}
use Rattle.program_io.specs.Endings.{IsTold}
use Rattle.program_io.specs.Faults.{no_memory, text_of, status_of as status_by}
use Rattle.program_io.specs.declared.fault.Fault.TheVariants.{Usage, Own}
use Rattle.asm_program.specs.declared.faults.OwnFault.TheVariants.{CannotReadAssembly}
use Rattle.program_io.proofs.EndingLemmas.{all_fail, all_whole, told, told_ends, told_most, told_some}
use Rattle.asm_program.specs.Faults.{Answer, Fault, failure_of, fault_text, is_refusal, own_failure, own_text, status_of}
use Rattle.asm_program.specs.Texts.{AreRead, AreUnread}
use Rattle.asm_program.specs.Program.{Concludes, FailsWith, IsAnswer, IsAssembled}
use Rattle.asm_program.proofs.TextLemmas.{of_files, unread_is}

module _ (files : KnownFiles) (asked : AsmAsked) where
  -- what is answered of the files' texts is answered to the request
  module _ (texts : List (List ℕ)) (are : AreRead (map files asked.files) texts) where
    of_texts : (answer : Answer) → IsAssembled asked texts answer → IsAnswer files (Some asked) answer
    of_texts answer is = of_files (map files asked.files) texts (λ read. IsAssembled asked read answer) answer are is

    pub texts_printed : {E : Type 0} (result : Result (Unit {0}) E) (old new : Option (List ℕ))
        → IfOk result (λ end. HasWhole (IsAssembled asked texts) end old new)
        → IfOk result (λ end. HasWhole (IsAnswer files (Some asked)) end old new)
    texts_printed result old new printed =
        all_whole (λ end. end) own_failure false (IsAssembled asked texts) (IsAnswer files (Some asked)) of_texts old new result printed

    pub texts_fail : {T : Type 0} (result : Result T Fault) (old new : Option (List ℕ))
        → IfErr result (λ fault. FailsBy (failure_of fault) (IsAssembled asked texts) fault old new)
        → IfErr result (λ fault. FailsBy (failure_of fault) (IsAnswer files (Some asked)) fault old new)
    texts_fail result old new fails =
        all_fail (λ end. end) own_failure false (IsAssembled asked texts) (IsAnswer files (Some asked)) of_texts old new result fails

  -- files that were not read
  pub files_unread : (fault : Fault) (old new : Option (List ℕ)) → AreUnread (map files asked.files) fault → new ≡ old
      → FailsBy (failure_of fault) (IsAnswer files (Some asked)) fault old new
  files_unread fault old new (inl memory) same = rw memory (inl same)
  files_unread fault old new (inr unread) same =
      subst (λ (f : Fault). FailsBy (failure_of f) (IsAnswer files (Some asked)) f old new) (sym unread.0)
      (unread_is (map files asked.files) (λ texts. IsAssembled asked texts (Err (Own CannotReadAssembly))) unread.1, same)

-- what is said of a fault
pub told_of : (fault : Fault) (status : ℕ) (old new : Option (List ℕ)) → status ≡ status_by is_refusal fault
    → IfSome (text_of (λ f. Some (own_text f)) fault) (λ text. TakesPrefix old new (line text)) → IsTold status_of fault_text fault status old new
told_of fault status old new is written = told is_refusal own_text fault status old new is written

-- The exit status of a command that ended so.
module _ (status : ℕ) (err_old err_new : Option (List ℕ)) where
  pub most : (ended : Result (Unit {0}) Fault) → Concludes ended status err_old err_new → status ≤ 3
  most (Ok end) is = rw is.0 (omega arith)
  most (Err fault) is = told_most is_refusal own_text fault status err_old err_new is

  pub quiet : (ended : Result (Unit {0}) Fault) → Concludes ended status err_old err_new → status ≡ 0 → err_new ≡ err_old
  quiet (Ok end) is none = is.1
  quiet (Err fault) is none = told_some is_refusal own_text fault status err_old err_new is none

  pub nothing : (ended : Result (Unit {0}) Fault) → Concludes ended status err_old err_new
      → (ended ≡ Err Usage) ⊎ (ended ≡ Err no_memory) → (status ≡ 2) ⊎ (status ≡ 3)
  nothing ended is (inl usage) = let told = rw usage at is in inl told.0
  nothing ended is (inr memory) = let told = rw memory at is in inr told.0

  module _ (files : KnownFiles) (request : Option AsmAsked) (old new : Option (List ℕ)) where
    pub whole : (ended : Result (Unit {0}) Fault) → Concludes ended status err_old err_new
        → IfOk ended (λ end. HasWhole (IsAnswer files request) end old new) → status ≡ 0 → HasWhole (IsAnswer files request) tt old new
    whole (Ok end) is printed none = printed
    whole (Err fault) is printed none = told_some is_refusal own_text fault status err_old err_new is none

    pub failed : (ended : Result (Unit {0}) Fault) → Concludes ended status err_old err_new
        → IfErr ended (λ fault. FailsBy (failure_of fault) (IsAnswer files request) fault old new)
        → status ≢ 0 → FailsWith files request status old new err_old err_new
    failed (Ok end) is fails some = absurd (some is.0)
    failed (Err fault) is fails some =
        told_ends is_refusal own_text fault status err_old err_new
        (λ f. FailsBy (failure_of f) (IsAnswer files request) f old new) fails is

-- arguments that ask for nothing
pub none_answers : (files : KnownFiles) (request : Option AsmAsked) → request ≡ None → IsAnswer files request (Err Usage)
none_answers files request is = rw is refl

-- arguments that ask for this
pub asked_printed : {E : Type 0} (files : KnownFiles) (request : Option AsmAsked) (asked : AsmAsked) (result : Result (Unit {0}) E)
    (old new : Option (List ℕ)) → request ≡ Some asked
    → IfOk result (λ end. HasWhole (IsAnswer files (Some asked)) end old new)
    → IfOk result (λ end. HasWhole (IsAnswer files request) end old new)
asked_printed files request asked result old new is printed = rw is printed

pub asked_fails : {T : Type 0} (files : KnownFiles) (request : Option AsmAsked) (asked : AsmAsked) (result : Result T Fault)
    (old new : Option (List ℕ)) → request ≡ Some asked
    → IfErr result (λ fault. FailsBy (failure_of fault) (IsAnswer files (Some asked)) fault old new)
    → IfErr result (λ fault. FailsBy (failure_of fault) (IsAnswer files request) fault old new)
asked_fails files request asked result old new is fails = rw is fails

pub asked_fault : (files : KnownFiles) (request : Option AsmAsked) (asked : AsmAsked) (fault : Fault) (old new : Option (List ℕ))
    → request ≡ Some asked → FailsBy (failure_of fault) (IsAnswer files (Some asked)) fault old new
    → FailsBy (failure_of fault) (IsAnswer files request) fault old new
asked_fault files request asked fault old new is fails =
    subst (λ (r : Option AsmAsked). FailsBy (failure_of fault) (IsAnswer files r) fault old new) (sym is) fails

-- so they do not ask for nothing
pub asked_something : {A : Type 0} (request : Option AsmAsked) (asked : AsmAsked) → request ≡ Some asked → request ≡ None → A
asked_something request asked is none = absurd cc

-- all of the program's endings
pub ruleset endings = (told_of, most, quiet, nothing)
