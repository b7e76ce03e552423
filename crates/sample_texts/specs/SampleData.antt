-- An answer of `sample` in JSON.
use Rattle.std.specs.Prelude.{ℕ, List, [], ◌∷◌, map, codes, Option, Some, None}
use Rattle.serde_json.specs.Data.{Data, Members, string, array, object, no_items, item}
use Rattle.serde_json.specs.Data.{no_members, member}
use Rattle.serde_json.specs.View.{items_of}
use Rattle.serde_json.specs.Written.{compact_text}
use Rattle.cheri_model.specs.runs.Machine.{MachineState}
use Rattle.conditions.specs.Items.{ItemList}
use Rattle.outcomes.specs.ItemTexts.{put_items}
use Rattle.outcomes.specs.declared.items.ItemValue.{ItemValue}
use Rattle.report_lines.specs.EventData.{image_data}
use Rattle.report_lines.specs.Texts.{line}
use Rattle.report_lines.specs.ValueData.{count}
use Rattle.reports.specs.Json.{harts_data, memory_data}
use Rattle.sample_draws.specs.Drawings.{DrawingParts}
use Rattle.sample_tallies.specs.declared.seen.Seen.{Seen}
use Rattle.sample_tallies.specs.declared.seen.TrapPlace.{TrapPlace}
use Rattle.sample_tallies.specs.Sums.{traps_in_order, ends_in_order}
use Rattle.sample_tallies.specs.Tables.{Entry}
use Rattle.sample_checks.specs.declared.told.PropertySeen.{PropertySeen}
use Rattle.sample_texts.specs.declared.spans.Span.{Span}
use Rattle.sample_texts.specs.PropertyTexts.{property_data}
use Rattle.sample_texts.specs.SampleParts.{Drawn, order_of, SampledParts, drawn_of}
use Rattle.sample_texts.specs.SampleTexts.{range_text, sample_lines}
use Rattle.sample_texts.specs.ShownRows.{shown_rows}
use Rattle.schedules.specs.declared.ranges.SweepRange.{SweepRange}
use Rattle.shown_states.specs.declared.form.Format.{Format}
use Rattle.shown_states.specs.declared.form.Format.TheVariants.{Text, Json}

-- ---- the parts

abbrev pub order_data : Drawn → Seen → Data
order_data drawn seen = string (order_of drawn seen.first)

-- runs of which there may be none
abbrev pub runs_data : Drawn → Option Seen → Data
runs_data drawn None = object (member (codes "runs") (count 0) no_members)
runs_data drawn (Some seen) = object
    (member (codes "first") (count seen.first)
    (member (codes "order") (order_data drawn seen)
    (member (codes "runs") (count seen.runs) no_members)))

abbrev pub depth_member : Option ℕ → Members → Members
depth_member None rest = rest
depth_member (Some depth) rest = member (codes "depth") (count depth) rest

abbrev pub sweep_data : SweepRange → Data
sweep_data range = string (range_text range)

unfoldable pub drawn_data : DrawingParts → Data
drawn_data drawing = object
    (depth_member drawing.depth
    (member (codes "length") (count drawing.length)
    (member (codes "seed") (count drawing.seed)
    (member (codes "sweeps") (array (items_of (map sweep_data drawing.sweeps))) no_members))))

abbrev pub span_data : Span → Data
span_data span = array (item (count span.first) (item (count span.last) no_items))

unfoldable pub trap_data : Drawn → Entry TrapPlace → Data
trap_data drawn trap = object
    (member (codes "cause") (count trap.key.cause)
    (member (codes "first") (count trap.seen.first)
    (member (codes "hart") (count trap.key.hart)
    (member (codes "order") (order_data drawn trap.seen)
    (member (codes "runs") (count trap.seen.runs) no_members)))))

unfoldable pub outcome_data : Drawn → Entry MachineState → Data
outcome_data drawn end = object
    (member (codes "first") (count end.seen.first)
    (member (codes "harts") (harts_data end.key.harts)
    (member (codes "mem") (memory_data end.key.memory)
    (member (codes "order") (order_data drawn end.seen)
    (member (codes "runs") (count end.seen.runs) no_members)))))

unfoldable pub row_data : Drawn → List (List ℕ) → Entry (List ItemValue) → Data
row_data drawn names row = object
    (member (codes "first") (count row.seen.first)
    (member (codes "order") (order_data drawn row.seen)
    (member (codes "runs") (count row.seen.runs)
    (member (codes "values") (object (put_items names row.key no_members)) no_members))))

-- ---- members that not every answer has

abbrev pub list_member : {X : Type 0} → List ℕ → (X → Data) → List X → Members → Members
list_member name data_of list rest = member name (array (items_of (map data_of list))) rest

abbrev pub items_member : Option ItemList → Members → Members
items_member None rest = rest
items_member (Some items) rest = list_member (codes "items") string items.names rest

abbrev pub outcomes_member : SampledParts → Option ItemList → Members → Members
outcomes_member s None rest =
    list_member (codes "outcomes") (outcome_data (drawn_of s)) (ends_in_order s.sum) rest
outcomes_member s (Some items) rest = rest

abbrev pub properties_member : List PropertySeen → Members → Members
properties_member [] rest = rest
properties_member (told ∷ more) rest =
    list_member (codes "properties") property_data (told ∷ more) rest

abbrev pub shown_member : SampledParts → Option ItemList → Members → Members
shown_member s None rest = rest
shown_member s (Some items) rest =
    list_member (codes "shown") (row_data (drawn_of s) items.names)
    (shown_rows items.shown (ends_in_order s.sum)) rest

-- ---- the whole

unfoldable pub sample_data : SampledParts → Data
sample_data s = object
    (member (codes "cut") (runs_data (drawn_of s) s.sum.cut)
    (member (codes "drawn") (drawn_data s.drawing)
    (member (codes "explore") (count 1)
    (member (codes "hung") (runs_data (drawn_of s) s.sum.hung)
    (member (codes "image") (image_data s.image)
    (items_member s.items
    (member (codes "longest") (count s.sum.longest)
    (list_member (codes "numbers") span_data s.numbers
    (outcomes_member s s.items
    (properties_member s.properties
    (member (codes "runs") (count s.sum.runs)
    (shown_member s s.items
    (list_member (codes "traps") (trap_data (drawn_of s)) (traps_in_order s.sum)
    no_members)))))))))))))

abbrev pub sample_text : Format → SampledParts → List ℕ
sample_text Text s = sample_lines s
sample_text Json s = line (compact_text (sample_data s))
