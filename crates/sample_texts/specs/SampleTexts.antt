-- The lines of an answer of `sample`.
use Rattle.std.specs.Prelude.{ℕ, nat_lt, List, length, codes, decimal, Option, Some, None}
use Rattle.serde_json.specs.Written.{comma_if}
use Rattle.cheri_model.specs.declared.operation.Op.TheVariants as operation
use Rattle.cheri_model.specs.runs.Machine.{MachineState}
use Rattle.conditions.specs.Items.{ItemList}
use Rattle.order_texts.specs.OrderTexts.{operation_text}
use Rattle.outcomes.specs.ItemTexts.{items_text}
use Rattle.outcomes.specs.declared.items.ItemValue.{ItemValue}
use Rattle.report_lines.specs.Lines.{image_line}
use Rattle.report_lines.specs.Texts.{◌+++◌, line, numbered}
use Rattle.sample_draws.specs.Drawings.{DrawingParts}
use Rattle.sample_tallies.specs.declared.seen.Seen.{Seen}
use Rattle.sample_tallies.specs.declared.seen.TrapPlace.{TrapPlace}
use Rattle.sample_tallies.specs.Sums.{traps_in_order, ends_in_order}
use Rattle.sample_tallies.specs.Tables.{Entry}
use Rattle.sample_tallies.specs.Tallies.{TallyParts}
use Rattle.sample_checks.specs.declared.told.PropertySeen.{PropertySeen}
use Rattle.sample_texts.specs.declared.spans.Span.{Span}
use Rattle.sample_texts.specs.PropertyTexts.{property_line}
use Rattle.sample_texts.specs.SampleParts.{Drawn, order_of, SampledParts, drawn_of}
use Rattle.sample_texts.specs.ShownRows.{shown_rows}
use Rattle.schedules.specs.declared.ranges.SweepRange.{SweepRange}
use Rattle.shown_states.specs.StateTexts.{state_lines}

-- ---- what runs are told

-- how many runs, the first of them, and its order
abbrev pub runs_words : Seen → List ℕ
runs_words seen = codes "runs=" +++ decimal seen.runs +++ codes " first=" +++ decimal seen.first

abbrev pub order_words : Drawn → Seen → List ℕ
order_words drawn seen = codes " order=" +++ order_of drawn seen.first

unfoldable pub seen_words : Drawn → Seen → List ℕ
seen_words drawn seen = runs_words seen +++ order_words drawn seen

-- the same of runs of which there may be none
abbrev pub perhaps_seen : Drawn → Option Seen → List ℕ
perhaps_seen drawn None = codes "runs=0"
perhaps_seen drawn (Some seen) = seen_words drawn seen

-- ---- the parts

abbrev pub depth_text : Option ℕ → List ℕ
depth_text None = codes "-"
depth_text (Some depth) = decimal depth

abbrev pub range_text : SweepRange → List ℕ
range_text range = operation_text (operation.Sweep range.lo range.hi)

abbrev pub sweep_words : ℕ → SweepRange → List ℕ
sweep_words place range = codes " sweep=" +++ range_text range

unfoldable pub drawn_line : DrawingParts → List ℕ
drawn_line drawing =
    codes "drawn seed=" +++ decimal drawing.seed +++ codes " length="
    +++ decimal drawing.length +++ codes " depth=" +++ depth_text drawing.depth
    +++ numbered sweep_words 0 drawing.sweeps +++ codes "\n"

-- each span after a comma, but the first
abbrev pub span_words : ℕ → Span → List ℕ
span_words place span =
    comma_if (nat_lt 0 place) +++ decimal span.first +++ codes ".." +++ decimal span.last

unfoldable pub runs_line : ℕ → List Span → ℕ → List ℕ
runs_line runs numbers longest =
    line (codes "runs " +++ decimal runs +++ codes " numbers=" +++ numbered span_words 0 numbers
    +++ codes " longest=" +++ decimal longest)

unfoldable pub trap_line : Drawn → ℕ → Entry TrapPlace → List ℕ
trap_line drawn place trap =
    line (codes "trap hart=" +++ decimal trap.key.hart +++ codes " cause="
    +++ decimal trap.key.cause +++ codes " " +++ seen_words drawn trap.seen)

unfoldable pub outcome_line : Drawn → ℕ → Seen → List ℕ
outcome_line drawn place seen =
    line (codes "outcome " +++ decimal place +++ codes " " +++ seen_words drawn seen)

unfoldable pub outcome_lines : Drawn → ℕ → Entry MachineState → List ℕ
outcome_lines drawn place end = outcome_line drawn place end.seen +++ state_lines end.key

unfoldable pub row_line : Drawn → List (List ℕ) → ℕ → Entry (List ItemValue) → List ℕ
row_line drawn names place row =
    line (decimal place +++ codes " " +++ runs_words row.seen +++ items_text names row.key
    +++ order_words drawn row.seen)

-- up to the traps
unfoldable pub head_lines : Drawn → List Span → TallyParts → List ℕ
head_lines drawn numbers sum =
    line (codes "cheri-sim sample 1") +++ image_line drawn.image +++ drawn_line drawn.drawing
    +++ runs_line sum.runs numbers sum.longest +++ codes "cut " +++ perhaps_seen drawn sum.cut
    +++ codes "\nhung " +++ perhaps_seen drawn sum.hung +++ codes "\n"

unfoldable pub trap_lines : Drawn → List (Entry TrapPlace) → List ℕ
trap_lines drawn traps =
    codes "traps " +++ decimal (length traps) +++ codes "\n"
    +++ numbered (trap_line drawn) 0 traps

-- outcomes, or rows of values where items are shown
abbrev pub ends_lines : Drawn → Option ItemList → List (Entry MachineState) → List ℕ
ends_lines drawn None ends =
    codes "outcomes " +++ decimal (length ends) +++ codes "\n"
    +++ numbered (outcome_lines drawn) 0 ends
ends_lines drawn (Some items) ends =
    let rows = shown_rows items.shown ends in
    codes "shown " +++ decimal (length rows) +++ codes "\n"
    +++ numbered (row_line drawn items.names) 0 rows

abbrev pub line_of : ℕ → PropertySeen → List ℕ
line_of place told = property_line told

-- ---- the whole

unfoldable pub sample_lines : SampledParts → List ℕ
sample_lines s =
    head_lines (drawn_of s) s.numbers s.sum +++ trap_lines (drawn_of s) (traps_in_order s.sum)
    +++ ends_lines (drawn_of s) s.items (ends_in_order s.sum)
    +++ numbered line_of 0 s.properties +++ line (codes "end")
