-- What is said of properties.
use Rattle.std.specs.Prelude.{ℕ, Bool, List, codes, decimal, map}
use Rattle.serde_json.specs.Data.{Data, string, boolean, array, object, no_members, member}
use Rattle.serde_json.specs.View.{items_of}
use Rattle.serde_json.specs.Written.{compact_text}
use Rattle.cheri_model.specs.declared.operation.Op.{Op}
use Rattle.cheri_model.specs.runs.Image.{ImageParts}
use Rattle.explore_properties.specs.Properties.{PropertyParts}
use Rattle.explore_verdicts.specs.declared.verdict.PropertyVerdict.{PropertyVerdict}
use Rattle.explore_verdicts.specs.declared.verdict.Verdict.{Verdict}
use Rattle.explore_verdicts.specs.declared.verdict.Verdict.TheVariants.{Holds, HoldsAfter, Violated}
use Rattle.explore_verdicts.specs.declared.verdict.Verdict.TheVariants.{ViolatedAfter, ViolatedBy}
use Rattle.explore_verdicts.specs.declared.verdict.Verdict.TheVariants.{Unknown}
use Rattle.order_texts.specs.OrderTexts.{order_text}
use Rattle.report_lines.specs.EventData.{image_data}
use Rattle.report_lines.specs.Lines.{image_line}
use Rattle.report_lines.specs.Texts.{◌+++◌, line, numbered}
use Rattle.report_lines.specs.ValueData.{count}
use Rattle.shown_states.specs.StateTexts.{states_line}
use Rattle.shown_states.specs.declared.form.Format.{Format}
use Rattle.shown_states.specs.declared.form.Format.TheVariants.{Text, Json}

abbrev pub verdict_word : Verdict → List ℕ
verdict_word Holds = codes "holds"
verdict_word (HoldsAfter order) = codes "holds"
verdict_word Violated = codes "violated"
verdict_word (ViolatedAfter order) = codes "violated"
verdict_word (ViolatedBy lasso) = codes "violated"
verdict_word Unknown = codes "unknown"

-- ---- as text

-- the order that leads to the state which decides; and with the loop of that state
abbrev pub order_words : List Op → List ℕ
order_words order = codes " order=" +++ order_text order

abbrev pub lasso_words : List Op → List Op → List ℕ
lasso_words order cycle = order_words order +++ codes " loop=" +++ order_text cycle

abbrev pub run_words : Verdict → List ℕ
run_words Holds = codes ""
run_words (HoldsAfter order) = order_words order.items
run_words Violated = codes ""
run_words (ViolatedAfter order) = order_words order.items
run_words (ViolatedBy lasso) = lasso_words lasso.order.items lasso.cycle.items
run_words Unknown = codes ""

unfoldable pub property_line : PropertyVerdict → List ℕ
property_line told =
    line (codes "line " +++ decimal told.property.now.line +++ codes " "
    +++ verdict_word told.verdict +++ run_words told.verdict +++ codes " | "
    +++ told.property.now.text)

-- whatever its number is
abbrev pub line_of : ℕ → PropertyVerdict → List ℕ
line_of number told = property_line told

unfoldable pub check_text : Bool → ImageParts → ℕ → List PropertyVerdict → List ℕ
check_text complete image states verdicts =
    line (codes "cheri-sim check 1") +++ image_line image +++ states_line complete states
    +++ numbered line_of 0 verdicts +++ line (codes "end")

-- ---- in JSON

abbrev pub order_data : List Op → Data
order_data order = string (order_text order)

-- a property without a run; with the order that leads to the state which decides; and with the loop
-- of that state
abbrev pub plain_data : List ℕ → PropertyParts → Data
plain_data word property = object
    (member (codes "answer") (string word)
    (member (codes "line") (count property.line)
    (member (codes "property") (string property.text) no_members)))

abbrev pub ordered_data : List ℕ → PropertyParts → List Op → Data
ordered_data word property order = object
    (member (codes "answer") (string word)
    (member (codes "line") (count property.line)
    (member (codes "order") (order_data order)
    (member (codes "property") (string property.text) no_members))))

abbrev pub lasso_data : List ℕ → PropertyParts → List Op → List Op → Data
lasso_data word property order cycle = object
    (member (codes "answer") (string word)
    (member (codes "line") (count property.line)
    (member (codes "loop") (order_data cycle)
    (member (codes "order") (order_data order)
    (member (codes "property") (string property.text) no_members)))))

abbrev pub verdict_data : PropertyParts → Verdict → Data
verdict_data property Holds = plain_data (codes "holds") property
verdict_data property (HoldsAfter order) = ordered_data (codes "holds") property order.items
verdict_data property Violated = plain_data (codes "violated") property
verdict_data property (ViolatedAfter order) =
    ordered_data (codes "violated") property order.items
verdict_data property (ViolatedBy lasso) =
    lasso_data (codes "violated") property lasso.order.items lasso.cycle.items
verdict_data property Unknown = plain_data (codes "unknown") property

unfoldable pub property_data : PropertyVerdict → Data
property_data told = verdict_data told.property.now told.verdict

unfoldable pub check_data : Bool → ImageParts → ℕ → List PropertyVerdict → Data
check_data complete image states verdicts = object
    (member (codes "complete") (boolean complete)
    (member (codes "explore") (count 1)
    (member (codes "image") (image_data image)
    (member (codes "properties") (array (items_of (map property_data verdicts)))
    (member (codes "states") (count states) no_members)))))

abbrev pub checked : Format → Bool → ImageParts → ℕ → List PropertyVerdict → List ℕ
checked Text complete image states verdicts = check_text complete image states verdicts
checked Json complete image states verdicts =
    line (compact_text (check_data complete image states verdicts))
