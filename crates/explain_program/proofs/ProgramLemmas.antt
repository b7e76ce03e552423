-- What the program prints, as the ending of a request.
use Rattle.std.proofs.Common.{◌≡◌, ◌≢◌, ◌≤◌, arith, ℕ, List, refl, inl, inr, true, subst, sym}
use Rattle.cheri_model.specs.runs.Image.{ImageParts}
use Rattle.asm_map_reader.specs.Reading.{map_meaning}
use Rattle.asm_map_reader.specs.Sources.{SourceParts}
use Rattle.printing.proofs.EndingLemmas.{IsEarly, early}
use Rattle.std.specs.Prelude.{◌⊎◌, IfErr, IfOk, IfSome, Option, Some, None, option_map, Result, Ok, Err}
use Rattle.report_lines.specs.Texts.{line}
use Rattle.sinks.specs.Sinks.{TakesPrefix}
use Rattle.cores.specs.Runs.{Stop}
use Rattle.printing.specs.Endings.{FailsBy, HasWhole}
use Rattle.inputs.specs.Files.{KnownFiles, AreBytesOf}
use Rattle.inputs.specs.Reading.{AreTextsUnread, image_meant}
use Rattle.inputs.specs.declared.fault.InputFault.{InputFault}
use Rattle.inputs.proofs.InputLemmas.{texts_fail}
use Rattle.explain_line.specs.Requests.{ExplainAsked}
use Rattle.program_io.specs.Endings.{IsTold}
use Rattle.program_io.specs.Faults.{no_memory, text_of, status_of as status_by}
use Rattle.program_io.specs.declared.fault.Fault.TheVariants.{Usage, Input, Own}
use Rattle.program_io.proofs.EndingLemmas.{told, told_ends, told_most, told_some}
use Rattle.program_io.proofs.FaultLemmas.{reported}
use Rattle.explain_program.specs.declared.faults.OwnFault.TheVariants.{Map, Step}
use Rattle.explain_program.specs.Faults.{Fault, failure_of, fault_text, is_refusal, own_failure, own_text, status_of}
use Rattle.explain_program.specs.Explaining.{Answer, IsExplained}
use Rattle.explain_program.specs.Mapped.{IsMapUnread, OfSources, shown_by, shown_of, shown_sources}
use Rattle.explain_program.specs.Program.{Concludes, FailsWith, IsAnswer, IsMapAnswer, IsMapped}

module _ (files : KnownFiles) (asked : ExplainAsked) where
  -- the answers of two texts are those of their files
  pub of_files : (listing order : List ℕ) → AreBytesOf (files asked.listing) listing → AreBytesOf (files asked.order) order
      → (answer : Answer) → IsMapAnswer (option_map files asked.map) asked listing order answer → IsAnswer files (Some asked) answer
  of_files listing order first second answer is = inr (listing, first, inr (order, second, is))

  -- files that were not read
  pub texts_unread : (old new : Option (List ℕ)) (fault : InputFault) → AreTextsUnread (files asked.listing) (files asked.order) fault
      → new ≡ old → FailsBy (failure_of (Input fault)) (IsAnswer files (Some asked)) (Input fault) old new
  texts_unread old new fault is same =
      texts_fail (λ f. Input f) failure_of true (reported own_failure true) old new
      (λ answer first second. IsMapAnswer (option_map files asked.map) asked first second answer) (files asked.listing) (files asked.order) fault is same

-- ---- a map

of_line : (meaning : Result (List SourceParts) ℕ) (fault : Fault) → shown_of meaning ≡ Err fault → IsEarly (failure_of fault)
of_line (Ok sources) fault is = absurd cc
of_line (Err line) fault is =
    let same : Own (Map line) ≡ fault = cc in
    subst (λ (f : Fault). IsEarly (failure_of f)) same tt

of_image : (bytes : List ℕ) (meaning : Result ImageParts InputFault) (fault : Fault) → shown_by bytes meaning ≡ Err fault → IsEarly (failure_of fault)
of_image bytes (Ok image) fault is = of_line (map_meaning _ bytes) fault is
of_image bytes (Err refused) fault is =
    let same : Input refused ≡ fault = cc in
    subst (λ (f : Fault). IsEarly (failure_of f)) same ((reported own_failure true).early refused)

module _ (asked : ExplainAsked) (bytes listing order : List ℕ) (old new : Option (List ℕ)) where
  -- a listing or a map that is wrong
  pub map_fails : (fault : Fault) → (fault ≡ no_memory) ⊎ (shown_sources listing bytes ≡ Err fault) → new ≡ old
      → FailsBy (failure_of fault) (IsMapped bytes asked listing order) fault old new
  unfolding shown_sources
  map_fails fault (inl none) same =
      subst (λ (f : Fault). FailsBy (failure_of f) (IsMapped bytes asked listing order) f old new) (sym none) (inl same)
  map_fails fault (inr is) same =
      early (IsMapped bytes asked listing order) (failure_of fault) fault old new (of_image bytes (image_meant listing) fault is)
      (subst (λ (r : Result (List (List ℕ)) Fault). OfSources {A = Answer} (λ f. Err f) r
      (λ sources. IsExplained asked.form (Some sources) asked.first asked.last listing order (Err fault)) (Err fault)) (sym is) refl)
      same

-- what a map says is an answer
pub of_map : (asked : ExplainAsked) (bytes listing order : List ℕ) (sources : List (List ℕ)) → shown_sources listing bytes ≡ Ok sources
    → (answer : Answer) → IsExplained asked.form (Some sources) asked.first asked.last listing order answer → IsMapped bytes asked listing order answer
of_map asked bytes listing order sources is answer so =
    subst (λ (r : Result (List (List ℕ)) Fault). OfSources {A = Answer} (λ f. Err f) r
    (λ s. IsExplained asked.form (Some s) asked.first asked.last listing order answer) answer) (sym is) so

module _ (file : Option (List ℕ)) (asked : ExplainAsked) (listing order : List ℕ) where
  -- a map that was read answers for its file
  pub of_map_file : (bytes : List ℕ) → AreBytesOf file bytes → (answer : Answer)
      → IsMapped bytes asked listing order answer → IsMapAnswer (Some file) asked listing order answer
  of_map_file bytes are answer so = inr (bytes, are, so)

  -- a map's file that was not read
  pub map_unread : (old new : Option (List ℕ)) (fault : Fault) → IsMapUnread file fault → new ≡ old
      → FailsBy (failure_of fault) (IsMapAnswer (Some file) asked listing order) fault old new
  map_unread old new fault (inl none) same =
      subst (λ (f : Fault). FailsBy (failure_of f) (IsMapAnswer (Some file) asked listing order) f old new) (sym none) (inl same)
  map_unread old new fault (inr is) same =
      subst (λ (f : Fault). FailsBy (failure_of f) (IsMapAnswer (Some file) asked listing order) f old new) (sym is.0)
      (inl (is.1, refl), same)

-- a request that names no map
pub of_no_map : (files : KnownFiles) (asked : ExplainAsked) (listing order : List ℕ) → asked.map ≡ None → (answer : Answer)
    → IsExplained asked.form None asked.first asked.last listing order answer
    → IsMapAnswer (option_map files asked.map) asked listing order answer
of_no_map files asked listing order is answer so =
    subst (λ (m : Option (List ℕ)). IsMapAnswer (option_map files m) asked listing order answer) (sym is) so

-- a request that names one
module _ (files : KnownFiles) (asked : ExplainAsked) (name listing order : List ℕ) (is : asked.map ≡ Some name) where
  pub of_named_map : (bytes : List ℕ) → AreBytesOf (files name) bytes → (answer : Answer)
      → IsMapped bytes asked listing order answer → IsMapAnswer (option_map files asked.map) asked listing order answer
  of_named_map bytes are answer so =
      subst (λ (m : Option (List ℕ)). IsMapAnswer (option_map files m) asked listing order answer) (sym is)
      (of_map_file (files name) asked listing order bytes are answer so)

  pub named_map_unread : (old new : Option (List ℕ)) (fault : Fault) → IsMapUnread (files name) fault → new ≡ old
      → FailsBy (failure_of fault) (IsMapAnswer (option_map files asked.map) asked listing order) fault old new
  named_map_unread old new fault unread same =
      subst (λ (m : Option (List ℕ)). FailsBy (failure_of fault) (IsMapAnswer (option_map files m) asked listing order) fault old new)
      (sym is) (map_unread (files name) asked listing order old new fault unread same)

-- what is said of a fault
pub told_of : (fault : Fault) (status : ℕ) (old new : Option (List ℕ)) → status ≡ status_by is_refusal fault
    → IfSome (text_of (λ f. Some (own_text f)) fault) (λ text. TakesPrefix old new (line text)) → IsTold status_of fault_text fault status old new
told_of fault status old new is written = told is_refusal own_text fault status old new is written

-- The exit status of a command that ended so.
module _ (status : ℕ) (err_old err_new : Option (List ℕ)) where
  pub most : (ended : Result (Option Stop) Fault) → Concludes ended status err_old err_new → status ≤ 3
  most (Ok None) is = rw is.0 (omega arith)
  most (Ok (Some stop)) is = told_most is_refusal own_text (Own (Step stop.0 stop.1)) status err_old err_new is
  most (Err fault) is = told_most is_refusal own_text fault status err_old err_new is

  pub quiet : (ended : Result (Option Stop) Fault) → Concludes ended status err_old err_new → status ≡ 0 → err_new ≡ err_old
  quiet (Ok None) is none = is.1
  quiet (Ok (Some stop)) is none = told_some is_refusal own_text (Own (Step stop.0 stop.1)) status err_old err_new is none
  quiet (Err fault) is none = told_some is_refusal own_text fault status err_old err_new is none

  pub nothing : (ended : Result (Option Stop) Fault) → Concludes ended status err_old err_new
      → (ended ≡ Err Usage) ⊎ (ended ≡ Err no_memory) → (status ≡ 2) ⊎ (status ≡ 3)
  nothing ended is (inl usage) = let told = rw usage at is in inl told.0
  nothing ended is (inr memory) = let told = rw memory at is in inr told.0

  module _ (files : KnownFiles) (request : Option ExplainAsked) (old new : Option (List ℕ)) where
    pub whole : (ended : Result (Option Stop) Fault) → Concludes ended status err_old err_new
        → IfOk ended (λ stop. HasWhole (IsAnswer files request) stop old new) → status ≡ 0 → HasWhole (IsAnswer files request) None old new
    whole (Ok None) is printed none = printed
    whole (Ok (Some stop)) is printed none = told_some is_refusal own_text (Own (Step stop.0 stop.1)) status err_old err_new is none
    whole (Err fault) is printed none = told_some is_refusal own_text fault status err_old err_new is none

    pub failed : (ended : Result (Option Stop) Fault) → Concludes ended status err_old err_new
        → IfOk ended (λ stop. HasWhole (IsAnswer files request) stop old new)
        → IfErr ended (λ fault. FailsBy (failure_of fault) (IsAnswer files request) fault old new)
        → status ≢ 0 → FailsWith files request status old new err_old err_new
    failed (Ok None) is printed fails some = absurd (some is.0)
    failed (Ok (Some stop)) is printed fails some =
        told_ends is_refusal own_text (Own (Step stop.0 stop.1)) status err_old err_new
        (λ fault. FailsBy (failure_of fault) (IsAnswer files request) fault old new) printed is
    failed (Err fault) is printed fails some =
        told_ends is_refusal own_text fault status err_old err_new
        (λ fault. FailsBy (failure_of fault) (IsAnswer files request) fault old new) fails is

-- arguments that ask for nothing
pub none_answers : (files : KnownFiles) (request : Option ExplainAsked) → request ≡ None → IsAnswer files request (Err Usage)
none_answers files request is = rw is refl

-- arguments that ask for this
pub asked_printed : {E : Type 0} (files : KnownFiles) (request : Option ExplainAsked) (asked : ExplainAsked) (result : Result (Option Stop) E)
    (old new : Option (List ℕ)) → request ≡ Some asked
    → IfOk result (λ stop. HasWhole (IsAnswer files (Some asked)) stop old new)
    → IfOk result (λ stop. HasWhole (IsAnswer files request) stop old new)
asked_printed files request asked result old new is printed = rw is printed

pub asked_fails : {T : Type 0} (files : KnownFiles) (request : Option ExplainAsked) (asked : ExplainAsked) (result : Result T Fault)
    (old new : Option (List ℕ)) → request ≡ Some asked
    → IfErr result (λ fault. FailsBy (failure_of fault) (IsAnswer files (Some asked)) fault old new)
    → IfErr result (λ fault. FailsBy (failure_of fault) (IsAnswer files request) fault old new)
asked_fails files request asked result old new is fails = rw is fails

-- so they do not ask for nothing
pub asked_something : {A : Type 0} (request : Option ExplainAsked) (asked : ExplainAsked) → request ≡ Some asked → request ≡ None → A
asked_something request asked is none = absurd cc

-- all of the program's endings
pub ruleset endings = (texts_unread, map_fails, told_of)
