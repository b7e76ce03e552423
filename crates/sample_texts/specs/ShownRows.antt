-- The rows of values that items hold in the states in which runs ended.
use Rattle.std.specs.Prelude.{◌≡◌, ◌==◌, Bool, true, false, List, [], map}
use Rattle.cheri_model.specs.runs.Machine.{MachineState}
use Rattle.conditions.specs.declared.parts.Shown.{Shown}
use Rattle.interner.specs.Rows.{Rows}
use Rattle.outcomes.specs.Items.{codes_of, values_of}
use Rattle.outcomes.specs.declared.items.ItemValue.{ItemValue}
use Rattle.outcomes.specs.declared.items.ItemValue.TheVariants.{Number, Running, Halted, Trapped}
use Rattle.sample_tallies.specs.SameStates.{same_lists}
use Rattle.sample_tallies.specs.Tables.{Entry, with_entries}
use Rattle.sample_texts.specs.declared.table.ShownRow.{ShownRow}

unfoldable pub same_item : ItemValue → ItemValue → Bool
same_item (Number number) (Number other) = number == other
same_item Running Running = true
same_item Halted Halted = true
same_item (Trapped cause) (Trapped other) = cause == other
same_item value other = false

abbrev pub same_row : List ItemValue → List ItemValue → Bool
same_row row other = same_lists same_item row other

-- an end by the values that items hold in it
abbrev pub row_of : List Shown → Entry MachineState → Entry (List ItemValue)
row_of shown end = record { key = values_of shown end.key; seen = end.seen }

-- each distinct row of values of these ends once, with the runs of all ends that have it
unfoldable pub shown_rows : List Shown → List (Entry MachineState) → List (Entry (List ItemValue))
shown_rows shown ends = with_entries same_row [] (map (row_of shown) ends)

-- ---- rows in memory

-- a row of them
abbrev pub shown_part : ShownRow → Entry (List ItemValue)
shown_part row = record { key = row.values.items; seen = row.seen }

abbrev pub rows_of : List ShownRow → List (Entry (List ItemValue))
rows_of rows = map shown_part rows

-- a row's number is that of the numbers that stand for its values
abbrev pub AreNumbered : Rows → List ShownRow → Type 0
AreNumbered codes rows = codes.rows ≡ map (λ row. codes_of row.values.items) rows
