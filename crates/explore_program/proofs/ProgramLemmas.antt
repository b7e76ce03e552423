-- What the program answers, as the ending of its command line.
use Rattle.std.proofs.Common.{◌≡◌, ℕ, List, map, false, Option, Some, None, Result, Ok, Err, refl, sym, subst, inl, inr}
use Rattle.std.specs.Prelude.{◌⊎◌, IfErr, IfOk, IfSome, option_map}
use Rattle.asm_map_reader.specs.Sources.{SourceParts}
use Rattle.cheri_model.specs.runs.Image.{ImageParts}
use Rattle.explore_line.specs.Requests.{ExploreAsked, SearchAsked, AskedQuestion}
use Rattle.schedules.specs.declared.ranges.SweepRange.{SweepRange}
use Rattle.shown_states.specs.declared.form.Format.{Format}
use Rattle.states.specs.Searches.{SearchParts}
use Rattle.explore_program.specs.Questions.{IsSaidTo, format_of, range_of}
use Rattle.inputs.specs.Files.{KnownFiles}
use Rattle.grammar.specs.Labels.{LabelParts, labels_of}
use Rattle.inputs.specs.Files.{AreBytesOf}
use Rattle.inputs.specs.Reading.{IsListingUnread, image_meant}
use Rattle.explained_orders.specs.ExplainedOrders.{Sources}
use Rattle.listing_maps.specs.Reading.{sources_of}
use Rattle.printing.proofs.EndingLemmas.{IsEarly, early}
use Rattle.inputs.specs.declared.fault.InputFault.{InputFault}
use Rattle.inputs.specs.declared.fault.InputFault.TheVariants as faults
use Rattle.inputs.proofs.InputLemmas.{input_fails}
use Rattle.printing.specs.Endings.{Answer, HasWhole, FailsBy}
use Rattle.program_io.proofs.EndingLemmas.{all_fail, all_whole, told, told_ends}
use Rattle.program_io.proofs.FaultLemmas.{reported}
use Rattle.program_io.specs.Endings.{IsTold}
use Rattle.program_io.specs.Faults.{no_memory, text_of, status_of as status_by}
use Rattle.program_io.specs.declared.fault.Fault.TheVariants.{Usage, Input, Own}
use Rattle.report_lines.specs.Texts.{line}
use Rattle.sinks.specs.Sinks.{TakesPrefix}
use Rattle.shown_states.specs.declared.form.Ending.{Ending}
use Rattle.explore_program.specs.Faults.{Fault, failure_of, fault_text, is_refusal, own_failure, own_text, status_of}
use Rattle.explore_program.specs.Listings.{ListedParts, MappedParts, IsMapUnread, mapped_image_of, of_listing, of_map, of_sources, sources_meant}
use Rattle.explore_program.specs.Program.{Concludes, Ends, IsAnswer, IsMapAnswer, IsRequestAnswer, IsSearched, IsTextsAnswer, OfMapped, is_violation, keeps_asked, search_asked}
use Rattle.explore_program.specs.declared.faults.OwnFault.TheVariants.{Map, Violated}
use Rattle.shown_states.specs.Endings as endings
use Rattle.shown_states.specs.declared.form.Ending.TheVariants as kinds

-- a listing that was not read
pub listing_unread : (files : KnownFiles) (asked : SearchAsked) (refused : InputFault) (old new : Option (List ℕ))
    → IsListingUnread (files asked.listing) refused → new ≡ old
    → FailsBy (failure_of (Input refused)) (IsSearched files asked) (Input refused) old new
listing_unread files asked faults.NoMemory old new is same = inl same
listing_unread files asked faults.CannotReadListing old new is same =
    input_fails (λ f. Input f) failure_of false (reported own_failure false) old new (IsSearched files asked) faults.CannotReadListing
    (inl (is, refl)) same
listing_unread files asked faults.CannotReadOrder old new is same = absurd is
listing_unread files asked (faults.Listing listed) old new is same = absurd is
listing_unread files asked (faults.Order ordered) old new is same = absurd is

-- a listing that was read
pub of_listing_file : (files : KnownFiles) (asked : SearchAsked) (text : List ℕ) → AreBytesOf (files asked.listing) text
    → (answer : Answer Ending Fault) → IsMapAnswer (option_map files asked.map) text asked answer → IsSearched files asked answer
of_listing_file files asked text are answer so = inr (text, are, so)

-- ---- a map

module _ (file : Option (List ℕ)) (text : List ℕ) (asked : SearchAsked) where
  -- a map that was read answers for its file
  pub of_map_file : (map : List ℕ) → AreBytesOf file map → (answer : Answer Ending Fault) → IsTextsAnswer text (Some map) asked answer
      → IsMapAnswer (Some file) text asked answer
  of_map_file map are answer so = inr (map, are, so)

  -- a map's file that was not read
  pub map_unread : (old new : Option (List ℕ)) (fault : Fault) → IsMapUnread file fault → new ≡ old
      → FailsBy (failure_of fault) (IsMapAnswer (Some file) text asked) fault old new
  map_unread old new fault (inl none) same =
      subst (λ (f : Fault). FailsBy (failure_of f) (IsMapAnswer (Some file) text asked) f old new) (sym none) (inl same)
  map_unread old new fault (inr is) same =
      subst (λ (f : Fault). FailsBy (failure_of f) (IsMapAnswer (Some file) text asked) f old new) (sym is.0)
      (inl (is.1, refl), same)

-- texts that are wrong are refused before anything is printed
early_map : (meaning : Result (List SourceParts) ℕ) (fault : Fault) → of_map meaning ≡ Err fault → IsEarly (failure_of fault)
early_map (Ok sources) fault is = absurd cc
early_map (Err line) fault is =
    let same : Own (Map line) ≡ fault = cc in
    subst (λ (f : Fault). IsEarly (failure_of f)) same tt

early_sources : (image : ImageParts) (map : Option (List ℕ)) (fault : Fault) → sources_meant image map ≡ Err fault → IsEarly (failure_of fault)
early_sources image None fault is = absurd cc
early_sources image (Some map) fault is = early_map (sources_of image map) fault is

early_mapped : (image : ImageParts) (meaning : Result Sources Fault) (fault : Fault)
    → ((f : Fault) → meaning ≡ Err f → IsEarly (failure_of f)) → of_sources image meaning ≡ Err fault → IsEarly (failure_of fault)
early_mapped image (Ok sources) fault are is = absurd cc
early_mapped image (Err refused) fault are is =
    let same : refused ≡ fault = cc in
    subst (λ (f : Fault). IsEarly (failure_of f)) same (are refused refl)

early_texts : (map : Option (List ℕ)) (meaning : Result ImageParts InputFault) (fault : Fault) → of_listing map meaning ≡ Err fault
    → IsEarly (failure_of fault)
early_texts map (Ok image) fault is = early_mapped image (sources_meant image map) fault (early_sources image map) is
early_texts map (Err refused) fault is =
    let same : Input refused ≡ fault = cc in
    subst (λ (f : Fault). IsEarly (failure_of f)) same ((reported own_failure false).early refused)

module _ (text : List ℕ) (map : Option (List ℕ)) (asked : SearchAsked) where
  -- what is so of the meaning of both texts
  abbrev IsMeantAnswer : Answer Ending Fault → Result MappedParts Fault → Type 0
  IsMeantAnswer answer meaning =
      OfMapped {A = Answer Ending Fault} meaning (λ f. Err f)
      (λ mapped. IsRequestAnswer (labels_of text) (record { text = text; sources = mapped.sources }) mapped.image asked answer) answer

  -- a listing or a map that is wrong
  pub texts_fail : (fault : Fault) (old new : Option (List ℕ)) → (fault ≡ no_memory) ⊎ (mapped_image_of text map ≡ Err fault) → new ≡ old
      → FailsBy (failure_of fault) (IsTextsAnswer text map asked) fault old new
  unfolding mapped_image_of
  texts_fail fault old new (inl none) same =
      subst (λ (f : Fault). FailsBy (failure_of f) (IsTextsAnswer text map asked) f old new) (sym none) (inl same)
  texts_fail fault old new (inr is) same =
      early (IsTextsAnswer text map asked) (failure_of fault) fault old new (early_texts map (image_meant text) fault is)
      (subst (IsMeantAnswer (Err fault)) (sym is) refl) same

  -- what is answered to a request about the listing is an answer
  pub of_request : (mapped : MappedParts) (sources : Sources) → mapped_image_of text map ≡ Ok mapped → sources ≡ mapped.sources
      → (answer : Answer Ending Fault)
      → IsRequestAnswer (labels_of text) (record { text = text; sources = sources }) mapped.image asked answer
      → IsTextsAnswer text map asked answer
  of_request mapped sources is same answer said =
      subst (IsMeantAnswer answer) (sym is)
      (subst (λ (s : Sources). IsRequestAnswer (labels_of text) (record { text = text; sources = s }) mapped.image asked answer) same said)

-- what is answered to the question is answered to the request
module _ (asked : SearchAsked) (image : ImageParts) (question : AskedQuestion) (labels : LabelParts) (listed : ListedParts)
    (sweeps : List SweepRange) (format : Format) (question_is : question ≡ asked.question)
    (sweeps_are : sweeps ≡ map range_of asked.sweeps) (format_is : format ≡ format_of asked.form) where
  -- the search, with these sweeps
  abbrev searched : SearchParts
  searched = record { image = image; sweeps = sweeps; every_step = asked.every_step; limit = asked.states }

  of_question : (answer : Answer Ending Fault) → IsSaidTo question labels listed searched format asked.explained (keeps_asked asked) answer → IsRequestAnswer labels listed image asked answer
  of_question answer said =
      subst (λ (q : AskedQuestion). IsSaidTo q labels listed (search_asked image asked) (format_of asked.form) asked.explained (keeps_asked asked) answer) question_is
      (subst (λ (f : Format). IsSaidTo question labels listed (search_asked image asked) f asked.explained (keeps_asked asked) answer) format_is
      (subst (λ (ss : List SweepRange). IsSaidTo question labels listed
      (record { image = image; sweeps = ss; every_step = asked.every_step; limit = asked.states }) format asked.explained (keeps_asked asked) answer) sweeps_are said))

  pub question_printed : {E : Type 0} (result : Result Ending E) (old new : Option (List ℕ))
      → IfOk result (λ ending. HasWhole (IsSaidTo question labels listed searched format asked.explained (keeps_asked asked)) ending old new)
      → IfOk result (λ ending. HasWhole (IsRequestAnswer labels listed image asked) ending old new)
  question_printed result old new printed =
      all_whole (λ ending. ending) own_failure false (IsSaidTo question labels listed searched format asked.explained (keeps_asked asked)) (IsRequestAnswer labels listed image asked)
      of_question old new result printed

  pub question_fails : {T : Type 0} (result : Result T Fault) (old new : Option (List ℕ))
      → IfErr result (λ f. FailsBy (failure_of f) (IsSaidTo question labels listed searched format asked.explained (keeps_asked asked)) f old new)
      → IfErr result (λ f. FailsBy (failure_of f) (IsRequestAnswer labels listed image asked) f old new)
  question_fails result old new fails =
      all_fail (λ ending. ending) own_failure false (IsSaidTo question labels listed searched format asked.explained (keeps_asked asked)) (IsRequestAnswer labels listed image asked)
      of_question old new result fails

-- the same, of labels that are these
module _ (asked : SearchAsked) (listed : ListedParts) (image : ImageParts) (labels known : LabelParts) (are : labels ≡ known) where
  pub known_printed : {E : Type 0} (result : Result Ending E) (old new : Option (List ℕ))
      → IfOk result (λ ending. HasWhole (IsRequestAnswer labels listed image asked) ending old new)
      → IfOk result (λ ending. HasWhole (IsRequestAnswer known listed image asked) ending old new)
  known_printed result old new printed =
      subst (λ (ls : LabelParts). IfOk result (λ ending. HasWhole (IsRequestAnswer ls listed image asked) ending old new)) are printed

  pub known_fails : {T : Type 0} (result : Result T Fault) (old new : Option (List ℕ))
      → IfErr result (λ f. FailsBy (failure_of f) (IsRequestAnswer labels listed image asked) f old new)
      → IfErr result (λ f. FailsBy (failure_of f) (IsRequestAnswer known listed image asked) f old new)
  known_fails result old new fails =
      subst (λ (ls : LabelParts). IfErr result (λ f. FailsBy (failure_of f) (IsRequestAnswer ls listed image asked) f old new)) are fails

-- arguments that ask for nothing
pub none_answers : (files : KnownFiles) (request : Option ExploreAsked) → request ≡ None → IsAnswer files request (Err Usage)
none_answers files request is = rw is refl

-- arguments that ask for this
pub asked_printed : {E : Type 0} (files : KnownFiles) (request : Option ExploreAsked) (asked : ExploreAsked) (result : Result Ending E)
    (old new : Option (List ℕ)) → request ≡ Some asked
    → IfOk result (λ ending. HasWhole (IsAnswer files (Some asked)) ending old new)
    → IfOk result (λ ending. HasWhole (IsAnswer files request) ending old new)
asked_printed files request asked result old new is printed = rw is printed

pub asked_fails : {T : Type 0} (files : KnownFiles) (request : Option ExploreAsked) (asked : ExploreAsked) (result : Result T Fault)
    (old new : Option (List ℕ)) → request ≡ Some asked
    → IfErr result (λ f. FailsBy (failure_of f) (IsAnswer files (Some asked)) f old new)
    → IfErr result (λ f. FailsBy (failure_of f) (IsAnswer files request) f old new)
asked_fails files request asked result old new is fails = rw is fails

-- what is said of a fault
pub told_of : (fault : Fault) (status : ℕ) (old new : Option (List ℕ)) → status ≡ status_by is_refusal fault
    → IfSome (text_of (λ f. Some (own_text f)) fault) (λ text. TakesPrefix old new (line text)) → IsTold status_of fault_text fault status old new
told_of fault status old new is written = told is_refusal own_text fault status old new is written

-- how a command ends, whose answer ended so
module _ {Terminal : Type 0} (terminal : Option Terminal) (files : KnownFiles) (request : Option ExploreAsked) (status : ℕ)
    (old new err_old err_now err_new : Option (List ℕ)) (silent : terminal ≡ None → err_now ≡ err_old) where
  good_ends : (ending : Ending) → is_violation ending ≡ false → (status ≡ endings.status_of ending) × (err_new ≡ err_now)
      → HasWhole (IsAnswer files request) ending old new → Ends terminal files request status old new err_old err_new
  good_ends ending good is printed = record {
    err_now = err_now;
    silent = silent;
    ends = inl (record { ended = ending; good = good; status_is = is.0; printed = printed; stderr = is.1 });
  }

  fault_ends : (fault : Fault) → IsTold status_of fault_text fault status err_now err_new
      → FailsBy (failure_of fault) (IsAnswer files request) fault old new → Ends terminal files request status old new err_old err_new
  fault_ends fault is fails = record {
    err_now = err_now;
    silent = silent;
    ends =
        inr (told_ends is_refusal own_text fault status err_now err_new
        (λ f. FailsBy (failure_of f) (IsAnswer files request) f old new) fails is);
  }

  pub ends : (ended : Result Ending Fault) → Concludes ended status err_now err_new
      → IfOk ended (λ ending. HasWhole (IsAnswer files request) ending old new)
      → IfErr ended (λ fault. FailsBy (failure_of fault) (IsAnswer files request) fault old new)
      → Ends terminal files request status old new err_old err_new
  ends (Ok kinds.Done) is printed fails = good_ends kinds.Done refl is printed
  ends (Ok kinds.Unfinished) is printed fails = good_ends kinds.Unfinished refl is printed
  ends (Ok kinds.Nowhere) is printed fails = good_ends kinds.Nowhere refl is printed
  ends (Ok (kinds.Violated line)) is printed fails = fault_ends (Own (Violated line)) is printed
  ends (Err fault) is printed fails = fault_ends fault is fails
