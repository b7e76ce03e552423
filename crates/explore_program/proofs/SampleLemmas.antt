-- What was made of an answer of `sample`, before it is printed.
use Rattle.std.proofs.Common.{◌≡◌, ◌∙◌, ℕ, ◌∷◌, [], List, Option, Result, Ok, Err, refl, sym, subst, ap, inl, inr, false, length}
use Rattle.std.proofs.lemmas.List.{length-map}
use Rattle.std.specs.Prelude.{◌⊎◌, IfErr, IfOk, string_bytes}
use Rattle.cheri_model.specs.runs.Image.{ImageParts}
use Rattle.condition_texts.specs.Items.{GivesItems}
use Rattle.condition_texts.specs.declared.fault.TextFault.{TextFault}
use Rattle.condition_texts.specs.declared.fault.TextFault.TheVariants as texts
use Rattle.conditions.specs.Items.{ItemList}
use Rattle.explore_properties.specs.Properties.{PropertiesParts, PropertyParts}
use Rattle.explore_properties.specs.Reading.{GivesPlace}
use Rattle.explore_properties.specs.declared.fault.PropertyFault.{PropertyFault}
use Rattle.explore_properties.specs.declared.fault.PropertyFault.TheVariants as properties
use Rattle.explore_properties.specs.declared.fault.PropertyPlace.{PropertyPlace}
use Rattle.inputs.specs.Files.{AreBytesOf}
use Rattle.inputs.specs.Faults.{listing_fault}
use Rattle.inputs.specs.Reading.{IsListingUnread, OfFile, OfMeant, image_meant, image_of_meaning}
use Rattle.listings.specs.Faults.{no_memory as listing_no_memory}
use Rattle.listings.specs.Meaning.{listing_meaning}
use Rattle.listings.specs.declared.fault.ListingFault.{ListingFault}
use Rattle.inputs.specs.declared.fault.InputFault.{InputFault}
use Rattle.inputs.specs.declared.fault.InputFault.TheVariants as inputs
use Rattle.printing.proofs.EndingLemmas.{IsEarly, early, fails_more}
use Rattle.printing.specs.Endings.{Answer, FailsBy, HasWhole}
use Rattle.program_io.proofs.FaultLemmas.{reported}
use Rattle.program_io.specs.Faults.{no_memory, written_fault}
use Rattle.shown_states.specs.Endings.{IsUnwritten}
use Rattle.sinks.specs.declared.fault.WriteFault.{WriteFault}
use Rattle.sinks.specs.declared.fault.WriteFault.TheVariants as written
use Rattle.program_io.specs.declared.fault.Fault.TheVariants.{Input, Own}
use Rattle.sample_merges.specs.Merged.{AreMerged, FirstRefused, MergedParts}
use Rattle.sample_slices.specs.Slices.{ListingParts}
use Rattle.sample_slices.specs.declared.fault.SliceError.{SliceError}
use Rattle.sample_slices.specs.declared.fault.SliceError.TheVariants as errors
use Rattle.shown_states.specs.declared.answer.Answer.{Answer as Whole}
use Rattle.shown_states.specs.declared.form.Ending.{Ending}
use Rattle.shown_states.specs.declared.form.Format.{Format}
use Rattle.explore_line.specs.Samples.{MergeAsked, SampleAsked}
use Rattle.explore_program.specs.Faults.{Fault, failure_of, own_failure, property_fault, refused_properties, refused_slices, text_fault}
use Rattle.explore_program.specs.Merges.{AreSlicesSaid, AreSlicesTold, IsMergeTold, IsSlicesUnread}
use Rattle.explore_program.specs.Program.{IsPut}
use Rattle.explore_program.specs.Questions.{format_of}
use Rattle.explore_program.specs.Samples.{IsItemsSampled, IsSampleAnswer, IsSampleTold, Makes, OfText, SamplingParts, place_fault, span_asked}
use Rattle.explore_program.specs.declared.faults.OwnFault.TheVariants.{CannotReadSlices, Slice}
use Rattle.sample_checks.specs.Checks.{decided_in, decided_of}
use Rattle.sample_draws.specs.Drawings.{DrawingParts}
use Rattle.sample_tallies.specs.Tallies.{TallyParts, numbers_from, tally}
use Rattle.sample_tallies.specs.declared.seen.Seen.{Seen}
use Rattle.sample_texts.specs.declared.spans.Span.{Span}

-- what was made of some answers was made of more
pub makes_more : (IsSome IsMore : Answer Ending Fault → Type 0) → ((answer : Answer Ending Fault) → IsSome answer → IsMore answer)
    → (made : Result Whole Fault) → Makes IsSome made → Makes IsMore made
makes_more IsSome IsMore more (Ok made) is = more (Ok (string_bytes made.text, made.ending)) is
makes_more IsSome IsMore more (Err fault) is = λ old. fails_more IsSome IsMore more old old (failure_of fault) fault (is old)

-- memory ran out
pub memory_made : (IsAnswer : Answer Ending Fault → Type 0) (fault : Fault) → fault ≡ no_memory → Makes IsAnswer (Err fault)
memory_made IsAnswer fault is = subst (λ (f : Fault). Makes IsAnswer (Err f)) (sym is) (λ old. inl refl)

-- an answer that is a fault
pub refused_made : (IsAnswer : Answer Ending Fault → Type 0) (fault : Fault) → IsEarly (failure_of fault) → IsAnswer (Err fault)
    → Makes IsAnswer (Err fault)
refused_made IsAnswer fault is answer = λ old. early IsAnswer (failure_of fault) fault old old is answer refl

-- ---- texts

-- what a text means is so
pub of_text : {X E : Type 0} (fault : E → Fault) (IsSo : X → Answer Ending Fault → Type 0) (meaning : Result X E) (x : X)
    → meaning ≡ Ok x → (answer : Answer Ending Fault) → IsSo x answer → OfText fault IsSo meaning answer
of_text {X} {E} fault IsSo meaning x is answer so =
    subst (λ (m : Result X E). OfText fault IsSo m answer) (sym is) so

text_refused : {X E : Type 0} (fault : E → Fault) (IsSo : X → Answer Ending Fault → Type 0) (meaning : Result X E) (e : E)
    → meaning ≡ Err e → OfText fault IsSo meaning (Err (fault e))
text_refused {X} {E} fault IsSo meaning e is =
    subst (λ (m : Result X E). OfText fault IsSo m (Err (fault e))) (sym is) refl

pub items_refused : (IsSo : ItemList → Answer Ending Fault → Type 0) (meaning : Result ItemList ℕ) (fault : TextFault)
    → GivesItems (Err fault) meaning → Makes (OfText place_fault IsSo meaning) (Err (text_fault fault))
items_refused IsSo meaning (texts.Place byte) is =
    refused_made (OfText place_fault IsSo meaning) (place_fault byte) tt (text_refused place_fault IsSo meaning byte is)
items_refused IsSo meaning (texts.Condition byte) is = absurd is
items_refused IsSo meaning texts.NoMemory is = memory_made (OfText place_fault IsSo meaning) no_memory refl

pub properties_refused : (IsSo : PropertiesParts → Answer Ending Fault → Type 0) (meaning : Result PropertiesParts PropertyPlace)
    (fault : PropertyFault) → GivesPlace (Err fault) meaning → Makes (OfText property_fault IsSo meaning) (Err (refused_properties fault))
properties_refused IsSo meaning (properties.Place place) is =
    refused_made (OfText property_fault IsSo meaning) (property_fault place) tt (text_refused property_fault IsSo meaning place is)
properties_refused IsSo meaning properties.NoMemory is = memory_made (OfText property_fault IsSo meaning) no_memory refl

-- ---- what is told

-- what the runs that are asked for give
abbrev sum_asked : SampleAsked → SamplingParts → TallyParts
sum_asked asked s = tally s.image s.drawing (numbers_from asked.first asked.orders)

abbrev decided_asked : SampleAsked → SamplingParts → List (Option Seen)
decided_asked asked s = decided_in s.image s.drawing s.properties (numbers_from asked.first asked.orders)

pub as_many_decided : (image : ImageParts) (drawing : DrawingParts) (list : List PropertyParts) (numbers : List ℕ)
    (decided : List (Option Seen)) → decided ≡ decided_in image drawing list numbers → length decided ≡ length list
unfolding decided_in
as_many_decided image drawing list numbers decided is = ap length is ∙ length-map list (decided_of image drawing numbers)

-- runs that are asked for, and what they gave
pub told_asked : (asked : SampleAsked) (sampling : SamplingParts) (format : Format) (numbers : List Span) (sum : TallyParts)
    (decided : List (Option Seen)) (text : List ℕ) (ending : Ending) → format ≡ format_of asked.form → numbers ≡ span_asked asked ∷ []
    → sum ≡ tally sampling.image sampling.drawing (numbers_from asked.first asked.orders)
    → decided ≡ decided_in sampling.image sampling.drawing sampling.properties (numbers_from asked.first asked.orders)
    → IsSampleTold format sampling numbers sum decided text ending → IsSampleAnswer asked sampling text ending
told_asked asked sampling format numbers sum decided text ending format_is numbers_are sum_is decided_is told =
    let by_decided : IsSampleTold format sampling numbers sum (decided_asked asked sampling) text ending =
    subst (λ (ds : List (Option Seen)). IsSampleTold format sampling numbers sum ds text ending) decided_is told in
    let by_sum : IsSampleTold format sampling numbers (sum_asked asked sampling) (decided_asked asked sampling) text ending =
    subst (λ (t : TallyParts). IsSampleTold format sampling numbers t (decided_asked asked sampling) text ending) sum_is by_decided in
    let by_numbers : IsSampleTold format sampling (span_asked asked ∷ []) (sum_asked asked sampling) (decided_asked asked sampling) text ending =
    subst (λ (ns : List Span). IsSampleTold format sampling ns (sum_asked asked sampling) (decided_asked asked sampling) text ending) numbers_are by_sum in
    subst (λ (f : Format). IsSampleTold f sampling (span_asked asked ∷ []) (sum_asked asked sampling) (decided_asked asked sampling) text ending)
    format_is by_numbers

-- with these sweeps and properties, which are those
pub of_items : (asked : SampleAsked) (image : ImageParts) (drawing drawn : DrawingParts) (list known : List PropertyParts)
    (show : Option (List ℕ)) → drawing ≡ drawn → list ≡ known → (answer : Answer Ending Fault)
    → IsItemsSampled asked image drawing list show answer → IsItemsSampled asked image drawn known show answer
of_items asked image drawing drawn list known show drawing_is list_is answer so =
    subst (λ (d : DrawingParts). IsItemsSampled asked image d known show answer) drawing_is
    (subst (λ (ps : List PropertyParts). IsItemsSampled asked image drawing ps show answer) list_is so)

-- the same of what was made
pub all_told : {E : Type 0} (asked : SampleAsked) (sampling : SamplingParts) (format : Format) (numbers : List Span) (sum : TallyParts)
    (decided : List (Option Seen)) (result : Result Whole E) → format ≡ format_of asked.form → numbers ≡ span_asked asked ∷ []
    → sum ≡ tally sampling.image sampling.drawing (numbers_from asked.first asked.orders)
    → decided ≡ decided_in sampling.image sampling.drawing sampling.properties (numbers_from asked.first asked.orders)
    → IfOk result (λ answer. IsSampleTold format sampling numbers sum decided (string_bytes answer.text) answer.ending)
    → IfOk result (λ answer. IsSampleAnswer asked sampling (string_bytes answer.text) answer.ending)
all_told asked sampling format numbers sum decided (Ok answer) format_is numbers_are sum_is decided_is told =
    told_asked asked sampling format numbers sum decided (string_bytes answer.text) answer.ending format_is numbers_are sum_is decided_is told
all_told asked sampling format numbers sum decided (Err fault) format_is numbers_are sum_is decided_is told = tt

-- ---- the listing

-- of what a listing means
module _ (text : List ℕ) (IsSo : ImageParts → Answer Ending Fault → Type 0) where
  abbrev OfImage : Result ImageParts InputFault → Answer Ending Fault → Type 0
  OfImage meaning answer = OfMeant {A = Answer Ending Fault} meaning (λ f. Err (Input f)) (λ i. IsSo i answer) answer

  pub of_meant : (image : ImageParts) → listing_meaning text ≡ Ok image → (answer : Answer Ending Fault) → IsSo image answer
      → OfImage (image_meant text) answer
  of_meant image means answer so =
      subst (λ (m : Result ImageParts ListingFault). OfImage (image_of_meaning m) answer) (sym means) so

  pub listing_refused_made : (fault : ListingFault) (told : InputFault) → told ≡ listing_fault fault
      → (fault ≡ listing_no_memory) ⊎ (listing_meaning text ≡ Err fault) → Makes (OfImage (image_meant text)) (Err (Input told))
  listing_refused_made fault told is (inl none) =
      memory_made (OfImage (image_meant text)) (Input told) (ap (λ (f : InputFault). Input f) (is ∙ ap listing_fault none))
  listing_refused_made fault told is (inr meaning) =
      refused_made (OfImage (image_meant text)) (Input told) ((reported own_failure false).early told)
      (subst (λ (m : Result ImageParts ListingFault). OfImage (image_of_meaning m) (Err (Input told))) (sym meaning)
      (ap (λ (f : InputFault). Err (Input f)) is))

-- its file
module _ (file : Option (List ℕ)) (IsSo : List ℕ → Answer Ending Fault → Type 0) where
  abbrev OfListing : Answer Ending Fault → Type 0
  OfListing answer = OfFile file (Err (Input inputs.CannotReadListing)) (λ text. IsSo text answer) answer

  pub of_listing : (text : List ℕ) → AreBytesOf file text → (answer : Answer Ending Fault) → IsSo text answer → OfListing answer
  of_listing text are answer so = inr (text, are, so)

  pub listing_unread_made : (refused : InputFault) → IsListingUnread file refused → Makes OfListing (Err (Input refused))
  listing_unread_made inputs.NoMemory is = memory_made OfListing no_memory refl
  listing_unread_made inputs.CannotReadListing is = refused_made OfListing (Input inputs.CannotReadListing) tt (inl (is, refl))
  listing_unread_made inputs.CannotReadOrder is = absurd is
  listing_unread_made (inputs.Listing listed) is = absurd is
  listing_unread_made (inputs.Order ordered) is = absurd is

-- ---- what was made was put

-- it was not written whole
pub unwritten_put : (made : Whole) (fault : WriteFault) (old new : Option (List ℕ)) → IsUnwritten (λ text. text ≡ string_bytes made.text) old new fault
    → IsPut (Ok made) (Err (written_fault fault)) old new
unwritten_put made written.Write old new begun = inr (refl, rw begun.1 at begun.2)
unwritten_put made written.NoMemory old new same = inl (refl, same)

pub put_whole : (IsAnswer : Answer Ending Fault → Type 0) (made : Result Whole Fault) (ended : Result Ending Fault)
    (old new : Option (List ℕ)) → Makes IsAnswer made → IsPut made ended old new → IfOk ended (λ ending. HasWhole IsAnswer ending old new)
put_whole IsAnswer (Ok made) (Ok ending) old new is (same, grown) =
    subst (λ (e : Ending). HasWhole IsAnswer e old new) (sym same) (string_bytes made.text, is, grown)
put_whole IsAnswer (Ok made) (Err fault) old new is put = tt
put_whole IsAnswer (Err fault) (Ok ending) old new is (ended, same) = absurd cc
put_whole IsAnswer (Err fault) (Err other) old new is put = tt

pub put_fails : (IsAnswer : Answer Ending Fault → Type 0) (made : Result Whole Fault) (ended : Result Ending Fault)
    (old new : Option (List ℕ)) → Makes IsAnswer made → IsPut made ended old new
    → IfErr ended (λ fault. FailsBy (failure_of fault) IsAnswer fault old new)
put_fails IsAnswer (Ok made) (Ok ending) old new is put = tt
put_fails IsAnswer (Ok made) (Err fault) old new is (inl (none, same)) =
    subst (λ (f : Fault). FailsBy (failure_of f) IsAnswer f old new) (sym none) (inl same)
put_fails IsAnswer (Ok made) (Err fault) old new is (inr (unwritten, begun)) =
    subst (λ (f : Fault). FailsBy (failure_of f) IsAnswer f old new) (sym unwritten)
    (string_bytes made.text, made.ending, is, begun)
put_fails IsAnswer (Err fault) (Ok ending) old new is put = tt
put_fails IsAnswer (Err fault) (Err other) old new is (ended, same) =
    let refused : other ≡ fault = cc in
    subst (λ (f : Fault). FailsBy (failure_of f) IsAnswer f old new) (sym refused)
    (subst (λ (w : Option (List ℕ)). FailsBy (failure_of fault) IsAnswer fault old w) (sym same) (is old))

-- ---- slices

-- the file of slices
module _ (file : Option (List ℕ)) (IsSo : List ℕ → Answer Ending Fault → Type 0) where
  abbrev pub OfSlices : Answer Ending Fault → Type 0
  OfSlices answer = OfFile file (Err (Own CannotReadSlices)) (λ text. IsSo text answer) answer

  pub of_slices : (text : List ℕ) → AreBytesOf file text → (answer : Answer Ending Fault) → IsSo text answer → OfSlices answer
  of_slices text are answer so = inr (text, are, so)

  pub slices_unread_made : (fault : Fault) → IsSlicesUnread file fault → Makes OfSlices (Err fault)
  slices_unread_made fault (inl none) = memory_made OfSlices fault none
  slices_unread_made fault (inr is) =
      subst (λ (f : Fault). Makes OfSlices (Err f)) (sym is.0) (refused_made OfSlices (Own CannotReadSlices) tt (inl (is.1, refl)))

-- a line that was refused
pub slices_refused : (asked : MergeAsked) (listing : ListingParts) (lines : List (List ℕ)) (refused : SliceError)
    → FirstRefused listing lines refused → Makes (AreSlicesSaid asked listing lines) (Err (refused_slices refused))
slices_refused asked listing lines (errors.Slice slice) is =
    refused_made (AreSlicesSaid asked listing lines) (Own (Slice slice)) tt (record { slice = slice; is = refl; refused = is })
slices_refused asked listing lines errors.NoMemory is = memory_made (AreSlicesSaid asked listing lines) no_memory refl

-- what is told of their sum
pub slices_told : (asked : MergeAsked) (listing : ListingParts) (lines : List (List ℕ)) (merged : MergedParts) (format : Format)
    (text : List ℕ) (ending : Ending) → format ≡ format_of asked.form → AreMerged listing lines merged.whole
    → merged.listing ≡ listing → IsMergeTold format merged text ending → AreSlicesTold asked listing lines text ending
slices_told asked listing lines merged format text ending format_is are same told = record {
  whole = merged.whole;
  are_merged = are;
  told =
      subst (λ (f : Format). IsMergeTold f (record { listing = listing; whole = merged.whole }) text ending) format_is
      (subst (λ (l : ListingParts). IsMergeTold format (record { listing = l; whole = merged.whole }) text ending) same told);
}
