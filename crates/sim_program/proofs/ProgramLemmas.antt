-- What the commands write, as endings of their requests.
use Rattle.std.proofs.Common.{◌≡◌, ◌≢◌, ◌≤◌, arith, sym, ap, ℕ, Bool, true, false, List, Option, Some, None, Ok, Err, Result, refl, inl, inr}
use Rattle.std.specs.Prelude.{◌⊎◌, IfErr, IfOk, IfSome}
use Rattle.std.specs.Io.KnownBytes.{Appends}
use Rattle.cheri_model.specs.runs.Image.{ImageParts}
use Rattle.report_lines.specs.Texts.{line}
use Rattle.sinks.specs.Sinks.{TakesPrefix}
use Rattle.command_line.specs.Requests.{Asked, Check, Run, Race, Bounds, Decode}
use Rattle.command_line.specs.declared.faults.CommandFault.{CommandFault}
use Rattle.command_line.specs.declared.faults.CommandFault.TheVariants as commands
use Rattle.command_line.specs.declared.found.Format.{Format}
use Rattle.inputs.specs.Files.{KnownFiles, AreBytesOf}
use Rattle.inputs.specs.Reading.{AreTextsUnread, IsImageRefused, MeansImage}
use Rattle.inputs.specs.declared.fault.InputFault.{InputFault}
use Rattle.inputs.proofs.InputLemmas.{image_fails, of_image, texts_fail}
use Rattle.number_lines.specs.Numbers.{IsNumberFault}
use Rattle.number_lines.specs.declared.numbers.NumberFault.{NumberFault}
use Rattle.number_lines.specs.declared.numbers.NumberFault.TheVariants as numbers
use Rattle.printing.specs.Endings.{HasWhole}
use Rattle.program_io.specs.Endings.{IsTold}
use Rattle.program_io.specs.Faults.{command_fault, no_memory, text_of, status_of as status_by}
use Rattle.program_io.specs.declared.fault.Fault.TheVariants.{Usage, Input, CannotWrite, Own}
use Rattle.program_io.proofs.EndingLemmas.{told, told_ends, told_most, told_some}
use Rattle.program_io.proofs.FaultLemmas.{command_fails as words_fail, reported}
use Rattle.sim_program.specs.declared.ended.Ended.{Ended}
use Rattle.sim_program.specs.declared.ended.Ended.TheVariants as ended
use Rattle.sim_program.specs.declared.faults.OwnFault.TheVariants.{Step}
use Rattle.sim_program.specs.Answers.{check_line}
use Rattle.sim_program.specs.Endings.{Answer, Fails, stop_of}
use Rattle.sim_program.specs.Faults.{Fault, failure_of, fault_text, is_refusal, number_fault, own_failure, own_text, status_of}
use Rattle.sim_program.specs.Program.{Concludes, FailsWith, IsAnswer, IsEndOf, IsNumbersAnswer, StderrGets}
use Rattle.sim_program.specs.Program.{answer_of_numbers, is_in_pieces, unread}
use Rattle.sim_program.specs.Races.{IsRaceAnswer, looks_text}
use Rattle.sim_program.specs.Runs.{IsRunAnswer}

-- a listing whose line is printed
abbrev IsLineOf : Answer → ImageParts → Type 0
IsLineOf answer image = answer ≡ Ok (check_line image, None)

pub check_unread : (files : KnownFiles) (listing : List ℕ) (fault : InputFault) (old new : Option (List ℕ)) →
    IsImageRefused (files listing) fault → new ≡ old →
    Fails (IsAnswer files (Some (Check listing))) false (Input fault) old new
check_unread files listing fault old new is same =
    image_fails (λ f. Input f) (failure_of false) false (reported own_failure false) old new IsLineOf (files listing) fault is same

check_answer : (files : KnownFiles) (listing : List ℕ) (image : ImageParts) (text : List ℕ) → MeansImage (files listing) image →
    text ≡ check_line image → IsAnswer files (Some (Check listing)) (Ok (text, None))
check_answer files listing image text means same =
    of_image (files listing) unread (IsLineOf (shown text)) (shown text) image means (ap shown same)
  where
    shown : List ℕ → Answer
    shown line = Ok (line, None)

pub check_written : (files : KnownFiles) (listing : List ℕ) (image : ImageParts) (text : List ℕ) (old new : Option (List ℕ)) →
    MeansImage (files listing) image → text ≡ check_line image → Appends old new text →
    HasWhole (IsAnswer files (Some (Check listing))) None old new
check_written files listing image text old new means same grown = (text, check_answer files listing image text means same, grown)

pub check_unwritten : (files : KnownFiles) (listing : List ℕ) (image : ImageParts) (text : List ℕ) (old new : Option (List ℕ)) →
    MeansImage (files listing) image → text ≡ check_line image → TakesPrefix old new text →
    Fails (IsAnswer files (Some (Check listing))) false CannotWrite old new
check_unwritten files listing image text old new means same begun =
    (text, None, check_answer files listing image text means same, begun)

pub ruleset check_answers = (check_unread, check_written, check_unwritten)

-- what is so of the files' texts, and of the image that a file's text means
pub runs_files : (files : KnownFiles) (listing order : List ℕ) (form : Format) (first second : List ℕ) →
    AreBytesOf (files listing) first → AreBytesOf (files order) second → (answer : Answer) → IsRunAnswer form first second answer →
    IsAnswer files (Some (Run listing order form)) answer
runs_files files listing order form first second first_are second_are answer is = inr (first, first_are, inr (second, second_are, is))

pub races_image : (files : KnownFiles) (listing : List ℕ) (turns : ℕ) (watch : Bool) (image : ImageParts) → MeansImage (files listing) image →
    (answer : Answer) → IsRaceAnswer image turns answer → IsAnswer files (Some (Race listing turns watch)) answer
races_image files listing turns watch image means answer is =
    of_image (files listing) unread (λ image. IsRaceAnswer image turns answer) answer image means is

-- texts that were not read
pub run_unread : (files : KnownFiles) (listing order : List ℕ) (form : Format) (fault : InputFault) (old new : Option (List ℕ)) →
    AreTextsUnread (files listing) (files order) fault → new ≡ old →
    Fails (IsAnswer files (Some (Run listing order form))) true (Input fault) old new
run_unread files listing order form fault old new is same =
    texts_fail (λ f. Input f) (failure_of true) true (reported own_failure true) old new
    (λ answer first second. IsRunAnswer form first second answer) (files listing) (files order) fault is same

-- a listing whose harts are not raced
pub race_unread : (files : KnownFiles) (listing : List ℕ) (turns : ℕ) (watch : Bool) (fault : InputFault) (old new : Option (List ℕ)) →
    IsImageRefused (files listing) fault → new ≡ old →
    Fails (IsAnswer files (Some (Race listing turns watch))) true (Input fault) old new
race_unread files listing turns watch fault old new is same =
    image_fails (λ f. Input f) (failure_of true) true (reported own_failure true) old new
    (λ answer image. IsRaceAnswer image turns answer) (files listing) fault is same

-- arguments that ask for nothing
pub none_answers : (files : KnownFiles) (request : Option Asked) → request ≡ None → IsAnswer files request (Err Usage)
none_answers files request is = rw is refl

pub command_fails : {X : Type 0} (files : KnownFiles) (request : Option Asked) (result : Result X CommandFault)
    (refused : CommandFault) (old new : Option (List ℕ)) → result ≡ Err refused →
    (result ≡ Err commands.Usage → request ≡ None) → new ≡ old →
    Fails (IsAnswer files request) (is_in_pieces request) (command_fault refused) old new
command_fails files request result refused old new is nothing same =
    words_fail own_failure (is_in_pieces request) (IsAnswer files request) old new result refused is
    (λ usage. none_answers files request (nothing usage)) same

-- the line that answers numbers, and arguments that are none
module _ (found : Option (List ℕ)) (old new : Option (List ℕ)) where
  pub numbers_refused : (refused : NumberFault) → IsNumberFault found refused → new ≡ old →
      Fails (IsNumbersAnswer found) false (number_fault refused) old new
  numbers_refused numbers.NoMemory is same = inl same
  numbers_refused numbers.BadNumber is same = (sym (ap answer_of_numbers is), same)

  pub numbers_written : (text : List ℕ) → found ≡ Some text → Appends old new text → HasWhole (IsNumbersAnswer found) None old new
  numbers_written text is grown = (text, sym (ap answer_of_numbers is), grown)

  pub numbers_unwritten : (text : List ℕ) → found ≡ Some text → TakesPrefix old new text →
      Fails (IsNumbersAnswer found) false CannotWrite old new
  numbers_unwritten text is begun = (text, None, sym (ap answer_of_numbers is), begun)

pub ruleset number_answers = (numbers_refused, numbers_written, numbers_unwritten)

-- what is said of a fault
pub told_of : (fault : Fault) (status : ℕ) (old new : Option (List ℕ)) → status ≡ status_by is_refusal fault
    → IfSome (text_of (λ f. Some (own_text f)) fault) (λ text. TakesPrefix old new (line text)) → IsTold status_of fault_text fault status old new
told_of fault status old new is written = told is_refusal own_text fault status old new is written

-- a command that nobody watches tells nothing where it is done
no_looks : (request : Option Asked) (looks : ℕ) (old new : Option (List ℕ)) → IsEndOf request (ended.Watched looks)
    → TakesPrefix old new (line (looks_text looks)) → StderrGets request old new
no_looks None looks old new is told = absurd is
no_looks (Some (Check listing)) looks old new is told = absurd is
no_looks (Some (Run listing order form)) looks old new is told = absurd is
no_looks (Some (Race listing turns true)) looks old new is told = record { looks = looks; most = is; told = told }
no_looks (Some (Race listing turns false)) looks old new is told = absurd is
no_looks (Some (Bounds base len)) looks old new is told = absurd is
no_looks (Some (Decode word)) looks old new is told = absurd is

no_line : (request : Option Asked) (old new : Option (List ℕ)) → IsEndOf request ended.Done → new ≡ old → StderrGets request old new
no_line None old new is same = same
no_line (Some (Check listing)) old new is same = same
no_line (Some (Run listing order form)) old new is same = same
no_line (Some (Race listing turns true)) old new is same = absurd is
no_line (Some (Race listing turns false)) old new is same = same
no_line (Some (Bounds base len)) old new is same = same
no_line (Some (Decode word)) old new is same = same

-- The exit status of a command that ended so.
module _ (status : ℕ) (err_old err_new : Option (List ℕ)) where
  pub most : (end : Result Ended Fault) → Concludes end status err_old err_new → status ≤ 3
  most (Ok ended.Done) is = rw is.0 (omega arith)
  most (Ok (ended.Watched looks)) is = rw is.0 (omega arith)
  most (Ok (ended.Stopped place fault)) is = told_most is_refusal own_text (Own (Step place fault)) status err_old err_new is
  most (Err fault) is = told_most is_refusal own_text fault status err_old err_new is

  pub nothing : (end : Result Ended Fault) → Concludes end status err_old err_new
      → (end ≡ Err Usage) ⊎ (end ≡ Err no_memory) → (status ≡ 2) ⊎ (status ≡ 3)
  nothing end is (inl usage) = let told = rw usage at is in inl told.0
  nothing end is (inr memory) = let told = rw memory at is in inr told.0

  pub stderr : (request : Option Asked) (end : Result Ended Fault) → Concludes end status err_old err_new → IfOk end (IsEndOf request)
      → status ≡ 0 → StderrGets request err_old err_new
  stderr request (Ok ended.Done) is so none = no_line request err_old err_new so is.1
  stderr request (Ok (ended.Watched looks)) is so none = no_looks request looks err_old err_new so is.1
  stderr request (Ok (ended.Stopped place fault)) is so none =
      told_some is_refusal own_text (Own (Step place fault)) status err_old err_new is none
  stderr request (Err fault) is so none = told_some is_refusal own_text fault status err_old err_new is none

  module _ (files : KnownFiles) (request : Option Asked) (old new : Option (List ℕ)) where
    pub whole : (end : Result Ended Fault) → Concludes end status err_old err_new
        → IfOk end (λ e. HasWhole (IsAnswer files request) (stop_of e) old new) → status ≡ 0 → HasWhole (IsAnswer files request) None old new
    whole (Ok ended.Done) is printed none = printed
    whole (Ok (ended.Watched looks)) is printed none = printed
    whole (Ok (ended.Stopped place fault)) is printed none =
        told_some is_refusal own_text (Own (Step place fault)) status err_old err_new is none
    whole (Err fault) is printed none = told_some is_refusal own_text fault status err_old err_new is none

    pub failed : (end : Result Ended Fault) → Concludes end status err_old err_new
        → IfOk end (λ e. HasWhole (IsAnswer files request) (stop_of e) old new)
        → IfErr end (λ fault. Fails (IsAnswer files request) (is_in_pieces request) fault old new)
        → status ≢ 0 → FailsWith files request status old new err_old err_new
    failed (Ok ended.Done) is printed fails some = absurd (some is.0)
    failed (Ok (ended.Watched looks)) is printed fails some = absurd (some is.0)
    failed (Ok (ended.Stopped place fault)) is printed fails some =
        told_ends is_refusal own_text (Own (Step place fault)) status err_old err_new
        (λ f. Fails (IsAnswer files request) (is_in_pieces request) f old new) printed is
    failed (Err fault) is printed fails some =
        told_ends is_refusal own_text fault status err_old err_new
        (λ f. Fails (IsAnswer files request) (is_in_pieces request) f old new) fails is

-- all of the program's endings
pub ruleset endings = (check_answers, number_answers, run_unread, race_unread, command_fails, told_of)
