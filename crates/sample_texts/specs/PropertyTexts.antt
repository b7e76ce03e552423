-- What is told of properties.
use Rattle.std.specs.Prelude.{ℕ, Bool, true, false, if◌then◌else◌, List, [], ◌∷◌, codes, decimal}
use Rattle.std.specs.Prelude.{Option, Some, None}
use Rattle.serde_json.specs.Data.{Data, string, object, no_members, member}
use Rattle.explore_properties.specs.Properties.{PropertyParts}
use Rattle.explore_properties.specs.declared.claims.Claim.{Claim}
use Rattle.explore_properties.specs.declared.claims.Claim.TheVariants as claims
use Rattle.explore_properties.specs.declared.claims.When.{When}
use Rattle.explore_properties.specs.declared.claims.When.TheVariants.{Never, Always, Sometimes}
use Rattle.explore_properties.specs.declared.claims.When.TheVariants.{Finally}
use Rattle.order_texts.specs.OrderTexts.{order_text}
use Rattle.report_lines.specs.Texts.{◌+++◌, line}
use Rattle.report_lines.specs.ValueData.{count}
use Rattle.sample_checks.specs.declared.told.Decided.{Decided}
use Rattle.sample_checks.specs.declared.told.PropertySeen.{PropertySeen}
use Rattle.shown_states.specs.declared.form.Ending.{Ending}
use Rattle.shown_states.specs.declared.form.Ending.TheVariants.{Done, Violated}

-- a run that decides it shows that it holds; all other properties are violated by such a run
abbrev pub may_hold_when : When → Bool
may_hold_when Never = false
may_hold_when Always = false
may_hold_when Sometimes = true
may_hold_when Finally = false

abbrev pub may_hold : Claim → Bool
may_hold (claims.Holds when condition) = may_hold_when when
may_hold claims.Ends = false
may_hold claims.EndsFairly = false

-- ---- as text

abbrev pub order_words : Decided → List ℕ
order_words decided =
    codes " first=" +++ decimal decided.seen.first
    +++ codes " order=" +++ order_text decided.order.items

abbrev pub held_words : Decided → List ℕ
held_words decided = codes "holds" +++ order_words decided

abbrev pub violated_words : Decided → List ℕ
violated_words decided =
    codes "violated runs=" +++ decimal decided.seen.runs +++ order_words decided

abbrev pub answer_words : Bool → Option Decided → List ℕ
answer_words holds None = codes "not seen"
answer_words holds (Some decided) =
    if holds then held_words decided else violated_words decided

unfoldable pub property_line : PropertySeen → List ℕ
property_line told =
    line (codes "line " +++ decimal told.property.now.line +++ codes " "
    +++ answer_words (may_hold told.property.now.claim) told.decided +++ codes " | "
    +++ told.property.now.text)

-- ---- in JSON

abbrev pub unseen_data : PropertyParts → Data
unseen_data property = object
    (member (codes "answer") (string (codes "not seen"))
    (member (codes "line") (count property.line)
    (member (codes "property") (string property.text) no_members)))

abbrev pub held_data : PropertyParts → Decided → Data
held_data property decided = object
    (member (codes "answer") (string (codes "holds"))
    (member (codes "first") (count decided.seen.first)
    (member (codes "line") (count property.line)
    (member (codes "order") (string (order_text decided.order.items))
    (member (codes "property") (string property.text) no_members)))))

abbrev pub violated_data : PropertyParts → Decided → Data
violated_data property decided = object
    (member (codes "answer") (string (codes "violated"))
    (member (codes "first") (count decided.seen.first)
    (member (codes "line") (count property.line)
    (member (codes "order") (string (order_text decided.order.items))
    (member (codes "property") (string property.text)
    (member (codes "runs") (count decided.seen.runs) no_members))))))

abbrev pub answer_data : PropertyParts → Bool → Option Decided → Data
answer_data property holds None = unseen_data property
answer_data property holds (Some decided) =
    if holds then held_data property decided else violated_data property decided

unfoldable pub property_data : PropertySeen → Data
property_data told =
    answer_data told.property.now (may_hold told.property.now.claim) told.decided

-- ---- how an answer ends

abbrev pub is_violated : Bool → Option Decided → Bool
is_violated holds None = false
is_violated holds (Some decided) = if holds then false else true

-- by the first property that is violated
unfoldable pub sample_ending : List PropertySeen → Ending
sample_ending [] = Done
sample_ending (told ∷ rest) =
    if is_violated (may_hold told.property.now.claim) told.decided
    then Violated told.property.now.line
    else sample_ending rest
