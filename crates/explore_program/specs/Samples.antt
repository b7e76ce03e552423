-- What is answered to `sample`: what runs in drawn orders of a listing's image gave.
use Rattle.std.specs.Prelude.{◌≡◌, ℕ, ◌+◌, ◌-◌, Bool, true, false, List, [], ◌∷◌, map}
use Rattle.std.specs.Prelude.{Option, Some, None, Result, Ok, Err}
use Rattle.std.specs.Prelude.{string_bytes}
use Rattle.std.specs.Borrow.{Bor}
use Rattle.cheri_model.specs.runs.Image.{ImageParts}
use Rattle.condition_texts.specs.Items.{items_of}
use Rattle.condition_texts.specs.declared.fault.TextFault.TheVariants.{Place}
use Rattle.conditions.specs.Items.{ItemList, list_of}
use Rattle.conditions.specs.declared.items.Items.{Items}
use Rattle.explore_line.specs.Samples.{SampleAsked}
use Rattle.explore_properties.specs.Properties.{PropertyParts}
use Rattle.explore_properties.specs.Reading.{properties_of}
use Rattle.grammar.specs.Labels.{LabelParts, labels_of}
use Rattle.inputs.specs.Files.{KnownFiles}
use Rattle.inputs.specs.Reading.{OfFile, OfMeant, image_meant}
use Rattle.inputs.specs.declared.fault.InputFault.TheVariants.{CannotReadListing}
use Rattle.listing_maps.specs.Names.{named}
use Rattle.printing.specs.Endings.{Answer, FailsBy}
use Rattle.program_io.specs.declared.fault.Fault.TheVariants.{Input}
use Rattle.sample_checks.specs.Checks.{decided_in}
use Rattle.sample_checks.specs.Told.{property_of, tell_all, told_in}
use Rattle.sample_draws.specs.Drawings.{DrawingParts}
use Rattle.sample_slices.specs.Sweeps.{united}
use Rattle.sample_tallies.specs.Tallies.{TallyParts, numbers_from, tally}
use Rattle.sample_tallies.specs.declared.seen.Seen.{Seen}
use Rattle.sample_texts.specs.PropertyTexts.{sample_ending}
use Rattle.sample_texts.specs.SampleData.{sample_text}
use Rattle.sample_checks.specs.declared.told.PropertySeen.{PropertySeen}
use Rattle.sample_texts.specs.declared.spans.Span.{Span}
use Rattle.schedules.specs.declared.ranges.SweepRange.{SweepRange}
use Rattle.shown_states.specs.declared.answer.Answer.{Answer as Whole}
use Rattle.shown_states.specs.declared.form.Ending.{Ending}
use Rattle.shown_states.specs.declared.form.Format.{Format}
use Rattle.explore_program.specs.Faults.{Fault, failure_of, property_fault, text_fault}
use Rattle.explore_program.specs.Questions.{IsSaid, format_of, range_of}
use Rattle.explore_program.specs.declared.sampling.Sampling.{Sampling}

-- ---- what is told

-- What is sampled: an image, how its orders are drawn, the properties that are looked at, and the
-- items that are shown, if they are.
pub record SamplingParts : Type 0 where
  pub image : ImageParts
  pub drawing : DrawingParts
  pub properties : List PropertyParts
  pub items : Option ItemList

abbrev pub items_in : Option (Bor Items) → Option ItemList
items_in None = None
items_in (Some items) = Some (list_of items.now)

abbrev pub sampling_of : Sampling → Option (Bor Items) → SamplingParts
sampling_of sampling items = record {
  image = sampling.image.now;
  drawing = sampling.drawing.now;
  properties = sampling.properties.now;
  items = items_in items;
}

-- A text tells what runs with these numbers gave, and which of them decide each property.
pub record IsSampleTold (format : Format) (sampling : SamplingParts) (numbers : List Span)
    (sum : TallyParts) (decided : List (Option Seen)) (text : List ℕ) (ending : Ending)
    : Type 0 where
  pub told : List PropertySeen
  pub are_these : map property_of told ≡ sampling.properties
  pub are_decided :
      map told_in told ≡ tell_all sampling.image sampling.drawing sampling.properties decided
  pub text_is : text ≡ sample_text format (record {
    image = sampling.image;
    drawing = sampling.drawing;
    items = sampling.items;
    numbers = numbers;
    sum = sum;
    properties = told;
  })
  pub ending_is : ending ≡ sample_ending told

-- the runs that are asked for
abbrev pub span_asked : SampleAsked → Span
span_asked asked = record { first = asked.first; last = asked.first + asked.orders - 1 }

-- a text that answers `sample`, and how it ends
abbrev pub IsSampleAnswer : SampleAsked → SamplingParts → List ℕ → Ending → Type 0
IsSampleAnswer asked sampling text ending =
    IsSampleTold (format_of asked.form) sampling (span_asked asked ∷ [])
    (tally sampling.image sampling.drawing (numbers_from asked.first asked.orders))
    (decided_in sampling.image sampling.drawing sampling.properties
    (numbers_from asked.first asked.orders)) text ending

-- ---- what is sampled

-- how orders are drawn with these sweeps
abbrev pub drawing_asked : SampleAsked → List SweepRange → DrawingParts
drawing_asked asked sweeps = record {
  seed = asked.seed;
  length = asked.length;
  depth = asked.depth;
  sweeps = sweeps;
}

-- what is so of what a text means, or that text's fault
abbrev pub OfText : {X E : Type 0} → (E → Fault) → (X → Answer Ending Fault → Type 0) → Result X E
    → Answer Ending Fault → Type 0
OfText fault IsSo (Ok x) answer = IsSo x answer
OfText fault IsSo (Err e) answer = answer ≡ Err (fault e)

abbrev pub place_fault : ℕ → Fault
place_fault byte = text_fault (Place byte)

-- with the items that a text writes
abbrev pub IsShownSampled : SampleAsked → ImageParts → DrawingParts → List PropertyParts → List ℕ
    → Answer Ending Fault → Type 0
IsShownSampled asked image drawing properties text answer =
    OfText place_fault (λ list. IsSaid (IsSampleAnswer asked (record {
      image = image;
      drawing = drawing;
      properties = properties;
      items = Some list;
    }))) (items_of image text) answer

-- if there is one
abbrev pub IsItemsSampled : SampleAsked → ImageParts → DrawingParts → List PropertyParts
    → Option (List ℕ) → Answer Ending Fault → Type 0
IsItemsSampled asked image drawing properties None answer =
    IsSaid (IsSampleAnswer asked (record {
      image = image;
      drawing = drawing;
      properties = properties;
      items = None;
    })) answer
IsItemsSampled asked image drawing properties (Some text) answer =
    IsShownSampled asked image drawing properties text answer

-- with the properties of the listing that has this text and these labels, and its sweeps: those of
-- the command line first, each once
abbrev pub AreLabelledSampled : SampleAsked → LabelParts → List ℕ → ImageParts
    → Answer Ending Fault → Type 0
AreLabelledSampled asked labels text image answer =
    OfText property_fault (λ read. IsItemsSampled asked image
    (drawing_asked asked (united (map range_of asked.sweeps) (map range_of read.sweeps)))
    read.properties asked.show)
    (properties_of (named labels None) image text) answer

-- with properties, where they are asked for
abbrev pub ArePropertiesSampled : SampleAsked → List ℕ → ImageParts → Bool → Answer Ending Fault
    → Type 0
ArePropertiesSampled asked text image false answer =
    IsItemsSampled asked image (drawing_asked asked (map range_of asked.sweeps)) [] asked.show
    answer
ArePropertiesSampled asked text image true answer =
    AreLabelledSampled asked (labels_of text) text image answer

-- of the listing that has this text
abbrev pub IsListingSampled : SampleAsked → List ℕ → Answer Ending Fault → Type 0
IsListingSampled asked text answer =
    OfMeant (image_meant text) (λ fault. Err (Input fault))
    (λ image. ArePropertiesSampled asked text image asked.is_checked answer) answer

-- The answers to `sample`: the listing is read and judged, then its properties, then the items.
abbrev pub IsSampled : KnownFiles → SampleAsked → Answer Ending Fault → Type 0
IsSampled files asked answer =
    OfFile (files asked.listing) (Err (Input CannotReadListing))
    (λ text. IsListingSampled asked text answer) answer

-- ---- answers

-- An answer was made, and nothing of it is printed yet: its text and how it ends, or its fault.
abbrev pub Makes : (Answer Ending Fault → Type 0) → Result Whole Fault → Type 0
Makes IsAnswer (Ok made) = IsAnswer (Ok (string_bytes made.text, made.ending))
Makes IsAnswer (Err fault) =
    (old : Option (List ℕ)) → FailsBy (failure_of fault) IsAnswer fault old old
