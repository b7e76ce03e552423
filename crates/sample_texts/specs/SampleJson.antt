-- An answer of `sample` in the parts in which it is written.
use Rattle.std.specs.Prelude.{ℕ, nat_lt, List, [], ◌∷◌, codes, decimal, Option, Some, None}
use Rattle.serde_json.specs.Data.{string}
use Rattle.serde_json.specs.Written.{comma_if, compact_text}
use Rattle.cheri_model.specs.runs.Machine.{MachineState}
use Rattle.conditions.specs.Items.{ItemList}
use Rattle.outcomes.specs.declared.items.ItemValue.{ItemValue}
use Rattle.report_lines.specs.EventData.{image_data}
use Rattle.report_lines.specs.JsonText.{item_text}
use Rattle.report_lines.specs.Texts.{◌+++◌, numbered}
use Rattle.sample_draws.specs.Drawings.{DrawingParts}
use Rattle.sample_tallies.specs.declared.seen.TrapPlace.{TrapPlace}
use Rattle.sample_tallies.specs.Sums.{traps_in_order, ends_in_order}
use Rattle.sample_tallies.specs.Tables.{Entry}
use Rattle.sample_tallies.specs.Tallies.{TallyParts}
use Rattle.sample_checks.specs.declared.told.PropertySeen.{PropertySeen}
use Rattle.sample_texts.specs.declared.spans.Span.{Span}
use Rattle.sample_texts.specs.PropertyTexts.{property_line, property_data}
use Rattle.sample_texts.specs.SampleData.{order_data, row_data, runs_data, span_data, sweep_data}
use Rattle.sample_texts.specs.SampleData.{trap_data}
use Rattle.sample_texts.specs.SampleParts.{Drawn, SampledParts, drawn_of}
use Rattle.sample_texts.specs.SampleTexts.{outcome_lines, row_line, span_words, sweep_words}
use Rattle.sample_texts.specs.SampleTexts.{sample_lines, trap_line}
use Rattle.sample_texts.specs.ShownRows.{shown_rows}
use Rattle.schedules.specs.declared.ranges.SweepRange.{SweepRange}
use Rattle.shown_states.specs.StateTexts.{state_members}
use Rattle.shown_states.specs.declared.form.Format.{Format}
use Rattle.shown_states.specs.declared.form.Format.TheVariants.{Text, Json}

-- ---- an item of a list, by its place there, in a form

abbrev pub sweep_part : Format → ℕ → SweepRange → List ℕ
sweep_part Text place range = sweep_words place range
sweep_part Json place range = item_text sweep_data place range

abbrev pub span_part : Format → ℕ → Span → List ℕ
span_part Text place span = span_words place span
span_part Json place span = item_text span_data place span

abbrev pub trap_part : Format → Drawn → ℕ → Entry TrapPlace → List ℕ
trap_part Text drawn place trap = trap_line drawn place trap
trap_part Json drawn place trap = item_text (trap_data drawn) place trap

unfoldable pub outcome_json : Drawn → ℕ → Entry MachineState → List ℕ
outcome_json drawn place end =
    comma_if (nat_lt 0 place)
    +++ (codes "{\"first\":" +++ decimal end.seen.first +++ codes ",") +++ state_members end.key
    +++ codes ",\"order\":" +++ compact_text (order_data drawn end.seen)
    +++ codes ",\"runs\":" +++ decimal end.seen.runs +++ codes "}"

abbrev pub outcome_part : Format → Drawn → ℕ → Entry MachineState → List ℕ
outcome_part Text drawn place end = outcome_lines drawn place end
outcome_part Json drawn place end = outcome_json drawn place end

abbrev pub row_part : Format → Drawn → List (List ℕ) → ℕ → Entry (List ItemValue) → List ℕ
row_part Text drawn names place row = row_line drawn names place row
row_part Json drawn names place row = item_text (row_data drawn names) place row

abbrev pub property_part : Format → ℕ → PropertySeen → List ℕ
property_part Text place told = property_line told
property_part Json place told = item_text property_data place told

-- ---- the members

abbrev pub depth_part : Option ℕ → List ℕ
depth_part None = codes ""
depth_part (Some depth) = codes "\"depth\":" +++ decimal depth +++ codes ","

unfoldable pub drawn_json : DrawingParts → List ℕ
drawn_json drawing =
    codes "{" +++ depth_part drawing.depth +++ codes "\"length\":" +++ decimal drawing.length
    +++ codes ",\"seed\":" +++ decimal drawing.seed +++ codes ",\"sweeps\":["
    +++ numbered (sweep_part Json) 0 drawing.sweeps +++ codes "]}"

-- up to the image
unfoldable pub json_head : Drawn → TallyParts → List ℕ
json_head drawn sum =
    codes "{\"cut\":" +++ compact_text (runs_data drawn sum.cut) +++ codes ",\"drawn\":"
    +++ drawn_json drawn.drawing +++ codes ",\"explore\":" +++ decimal 1 +++ codes ",\"hung\":"
    +++ compact_text (runs_data drawn sum.hung) +++ codes ",\"image\":"
    +++ compact_text (image_data drawn.image)

abbrev pub items_json : Option ItemList → List ℕ
items_json None = codes ""
items_json (Some items) =
    codes ",\"items\":[" +++ numbered (item_text string) 0 items.names +++ codes "]"

unfoldable pub numbers_json : ℕ → List Span → List ℕ
numbers_json longest numbers =
    codes ",\"longest\":" +++ decimal longest +++ codes ",\"numbers\":["
    +++ numbered (span_part Json) 0 numbers +++ codes "]"

abbrev pub outcomes_json : Drawn → Option ItemList → List (Entry MachineState) → List ℕ
outcomes_json drawn None ends =
    codes ",\"outcomes\":[" +++ numbered (outcome_part Json drawn) 0 ends +++ codes "]"
outcomes_json drawn (Some items) ends = codes ""

abbrev pub property_list : List PropertySeen → List ℕ
property_list properties =
    codes ",\"properties\":[" +++ numbered (property_part Json) 0 properties +++ codes "]"

abbrev pub properties_json : List PropertySeen → List ℕ
properties_json [] = codes ""
properties_json (told ∷ more) = property_list (told ∷ more)

abbrev pub shown_json : Drawn → Option ItemList → List (Entry MachineState) → List ℕ
shown_json drawn None ends = codes ""
shown_json drawn (Some items) ends =
    codes ",\"shown\":[" +++ numbered (row_part Json drawn items.names) 0
    (shown_rows items.shown ends) +++ codes "]"

unfoldable pub traps_json : Drawn → List (Entry TrapPlace) → List ℕ
traps_json drawn traps =
    codes ",\"traps\":[" +++ numbered (trap_part Json drawn) 0 traps +++ codes "]}\n"

-- ---- the whole

unfoldable pub sample_json : SampledParts → List ℕ
sample_json s =
    json_head (drawn_of s) s.sum +++ items_json s.items +++ numbers_json s.sum.longest s.numbers
    +++ outcomes_json (drawn_of s) s.items (ends_in_order s.sum) +++ properties_json s.properties
    +++ codes ",\"runs\":" +++ decimal s.sum.runs
    +++ shown_json (drawn_of s) s.items (ends_in_order s.sum)
    +++ traps_json (drawn_of s) (traps_in_order s.sum)

abbrev pub sample_whole : Format → SampledParts → List ℕ
sample_whole Text s = sample_lines s
sample_whole Json s = sample_json s
