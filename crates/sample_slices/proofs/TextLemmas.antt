-- A slice has one text.
use Rattle.std.proofs.Common.{◌≡◌, ◌∙◌, ℕ, List, [], ◌∷◌, map, refl, sym, ap}
use Rattle.std.specs.Prelude.{Option, Some, None, codes, if◌then◌else◌}
use Rattle.cheri_model.specs.declared.operation.Op.{Op}
use Rattle.cheri_model.specs.runs.Image.{ImageParts}
use Rattle.conditions.specs.Items.{ItemList}
use Rattle.explore_properties.specs.Properties.{PropertyParts}
use Rattle.order_texts.specs.OrderTexts.{order_text}
use Rattle.report_lines.specs.Texts.{line}
use Rattle.report_lines.specs.ValueData.{count}
use Rattle.sample_checks.specs.Checks.{CheckedParts, either_each}
use Rattle.sample_checks.specs.Told.{parts_of, property_of, tell_all, told_in}
use Rattle.sample_checks.specs.declared.told.Decided.{Decided}
use Rattle.sample_checks.specs.declared.told.PropertySeen.{PropertySeen}
use Rattle.sample_draws.specs.Drawings.{DrawingParts}
use Rattle.sample_tallies.specs.Tallies.{TallyParts, add}
use Rattle.sample_tallies.specs.declared.seen.Seen.{Seen}
use Rattle.sample_texts.specs.PropertyTexts.{answer_data, may_hold, property_data, unseen_data}
use Rattle.sample_texts.specs.SampleData.{properties_member, sample_data, sample_text}
use Rattle.sample_texts.specs.SampleParts.{SampledParts}
use Rattle.serde_json.specs.Data.{Data, Members, array, member, no_members, object, string}
use Rattle.serde_json.specs.View.{items_of}
use Rattle.serde_json.specs.Written.{compact_text}
use Rattle.sample_texts.specs.declared.spans.Span.{Span}
use Rattle.shown_states.specs.declared.form.Format.{Format}
use Rattle.shown_states.specs.declared.form.Format.TheVariants.{Json}
use Rattle.sample_slices.specs.Slices.{IsTextOf, QuestionParts, SliceParts, items_shown, plus, slice_of}

-- ---- what is told of a property, by its parts

held : PropertyParts → Seen × List Op → Data
held property told = object
    (member (codes "answer") (string (codes "holds"))
    (member (codes "first") (count told.0.first)
    (member (codes "line") (count property.line)
    (member (codes "order") (string (order_text told.1))
    (member (codes "property") (string property.text) no_members)))))

violated : PropertyParts → Seen × List Op → Data
violated property told = object
    (member (codes "answer") (string (codes "violated"))
    (member (codes "first") (count told.0.first)
    (member (codes "line") (count property.line)
    (member (codes "order") (string (order_text told.1))
    (member (codes "property") (string property.text)
    (member (codes "runs") (count told.0.runs) no_members))))))

told_data : PropertyParts → Option (Seen × List Op) → Data
told_data property None = unseen_data property
told_data property (Some told) = if may_hold property.claim then held property told else violated property told

data_by_parts : (property : PropertyParts) (decided : Option Decided)
    → answer_data property (may_hold property.claim) decided ≡ told_data property (parts_of decided)
unfolding told_data held violated
data_by_parts property None = refl
data_by_parts property (Some decided) = refl

of_parts : (told : PropertySeen) → property_data told ≡ told_data (property_of told) (told_in told)
unfolding property_data
of_parts told = data_by_parts told.property.now told.decided

all_data : List PropertyParts → List (Option (Seen × List Op)) → List Data
all_data [] told = []
all_data (property ∷ properties) [] = []
all_data (property ∷ properties) (one ∷ told) = told_data property one ∷ all_data properties told

all_by_parts : (told : List PropertySeen) → map property_data told ≡ all_data (map property_of told) (map told_in told)
unfolding all_data
all_by_parts [] = refl
all_by_parts (one ∷ told) = rw (of_parts one, all_by_parts told) refl

-- ---- the member of properties

member_of : List Data → Members → Members
member_of [] rest = rest
member_of (one ∷ more) rest = member (codes "properties") (array (items_of (one ∷ more))) rest

member_by_data : (told : List PropertySeen) (rest : Members) → properties_member told rest ≡ member_of (map property_data told) rest
unfolding member_of
member_by_data [] rest = refl
member_by_data (one ∷ told) rest = refl

same_member : (told other : List PropertySeen) (rest : Members) → map property_of told ≡ map property_of other
    → map told_in told ≡ map told_in other → properties_member told rest ≡ properties_member other rest
same_member told other rest same also =
    member_by_data told rest
    ∙ ap (λ (ds : List Data). member_of ds rest)
    (all_by_parts told ∙ (ap (λ (ps : List PropertyParts). all_data ps (map told_in told)) same
    ∙ (ap (λ (ts : List (Option (Seen × List Op))). all_data (map property_of other) ts) also ∙ sym (all_by_parts other))))
    ∙ sym (member_by_data other rest)

same_data : (s : SampledParts) (told other : List PropertySeen) → map property_of told ≡ map property_of other
    → map told_in told ≡ map told_in other → sample_data (record s { properties = told }) ≡ sample_data (record s { properties = other })
unfolding sample_data
same_data s told other same also = rw (same_member told other _ same also) refl

-- ---- texts

pub same_text : (image : ImageParts) (properties : List PropertyParts) (slice : SliceParts) (text other : List ℕ)
    → IsTextOf image properties slice Json text → IsTextOf image properties slice Json other → text ≡ other
same_text image properties slice text other one another =
    one.text_is
    ∙ ap (λ (d : Data). line (compact_text d)) (same_data (record {
      image = image;
      drawing = slice.drawing;
      items = items_shown image slice.items;
      numbers = slice.numbers;
      sum = slice.sum;
      properties = one.told;
    }) one.told another.told (one.are_told.are_these ∙ sym another.are_told.are_these)
    (one.are_told.are_decided ∙ sym another.are_told.are_decided))
    ∙ sym another.text_is

-- what was told of a slice's own parts is its text
pub is_text : (image image' : ImageParts) (properties properties' : List PropertyParts) (slice : SliceParts) (drawing : DrawingParts)
    (decided : List (Option Seen)) (items : Option ItemList) (numbers : List Span) (sum : TallyParts) (told told' : List PropertySeen)
    (format : Format) (text : List ℕ) → image' ≡ image → properties' ≡ properties → drawing ≡ slice.drawing
    → decided ≡ slice.decided → items ≡ items_shown image slice.items → numbers ≡ slice.numbers → sum ≡ slice.sum → told' ≡ told
    → map property_of told ≡ properties' → map told_in told ≡ tell_all image' drawing properties' decided
    → text ≡ sample_text format (record {
      image = image';
      drawing = drawing;
      items = items;
      numbers = numbers;
      sum = sum;
      properties = told';
    }) → IsTextOf image properties slice format text
is_text image image' properties properties' slice drawing decided items numbers sum told told' format text i p d c x n s t these decides is =
    record {
      told = told;
      are_told = record {
        are_these = these ∙ p;
        are_decided = rw (i, d, p, c) at decides;
      };
      text_is = rw (i, d, x, n, s, t) at is;
    }

-- ---- sums

pub plus_is : (slice other : SliceParts) (question beside : QuestionParts) (old more numbers : List Span) (mine theirs both : CheckedParts)
    → slice_of question old mine ≡ slice → slice_of beside more theirs ≡ other → both.sum ≡ add mine.sum theirs.sum
    → both.decided ≡ either_each mine.decided theirs.decided → both.harts ≡ mine.harts → both.granules ≡ mine.granules
    → slice_of question numbers both ≡ plus slice other numbers
unfolding plus
plus_is slice other question beside old more numbers mine theirs both is also s d h g = rw (← is, ← also, h, g, s, d) refl
