-- The meaning of a text as the map of a program: where each of its instructions comes from, or the
-- first line that is none of a map, or not of this program's.
use Rattle.std.specs.Prelude.{◌≡◌, ℕ, ◌+◌, ◌-◌, ◌==◌, nat_lt, nat_le, Bool, true, false, not, ◌&&◌}
use Rattle.std.specs.Prelude.{if◌then◌else◌, List, [], ◌∷◌, ◌++◌, length, slice_index_or, codes}
use Rattle.std.specs.Prelude.{bytes_eq, Option, Some, None, Result, Ok, Err, ⊤}
use Rattle.grammar.specs.Lines.{lines_of}
use Rattle.asm_map_reader.specs.declared.fault.MapFault.{MapFault}
use Rattle.asm_map_reader.specs.declared.fault.MapFault.TheVariants as faults
use Rattle.asm_map_reader.specs.declared.fault.LineFault.{LineFault}
use Rattle.asm_map_reader.specs.declared.fault.LineFault.TheVariants as line_faults
use Rattle.asm_map_reader.specs.declared.draft.Counts.{Counts}
use Rattle.asm_map_reader.specs.declared.draft.Stage.{Stage}
use Rattle.asm_map_reader.specs.declared.draft.Stage.TheVariants.{Head, Body, Ended, Closed}
use Rattle.asm_map_reader.specs.Words.{◌>>=◌}
use Rattle.asm_map_reader.specs.Lines.{LabelParts, LineParts, line_of, file, code, guard, exit}
use Rattle.asm_map_reader.specs.Lines.{symbol, entry, hart}
use Rattle.asm_map_reader.specs.Sources.{SourceParts}
use Rattle.asm_map_reader.specs.Sources as sources

-- What lines say, one after another: how far the text was read, the files' names, where
-- instructions come from, whether there is an entry of the table, and how many harts there are.
pub record DraftParts : Type 0 where
  pub stage : Stage
  pub files : List (List ℕ)
  pub sources : List SourceParts
  pub has_entries : Bool
  pub harts : ℕ

abbrev pub empty_draft : DraftParts
empty_draft = record { stage = Head; files = []; sources = []; has_entries = false; harts = 0 }

-- files are numbered from 1 on, and come before all else
unfoldable pub with_file : DraftParts → ℕ → List ℕ → Option DraftParts
with_file draft number name =
    if (number == length draft.files + 1) && (length draft.sources == 0)
    then Some (record draft { files = draft.files ++ name ∷ [] })
    else None

-- instructions are numbered from 0 on, and there are no more than the program has
unfoldable pub with_source : Counts → DraftParts → ℕ → SourceParts → Option DraftParts
with_source counts draft number source =
    if (number == length draft.sources) && nat_lt number counts.instructions
    then Some (record draft { sources = draft.sources ++ source ∷ [] })
    else None

-- the name of a file, by its number
unfoldable pub file_name : DraftParts → ℕ → Option (List ℕ)
file_name draft number =
    if nat_le 1 number && nat_le number (length draft.files)
    then Some (slice_index_or draft.files (number - 1) [])
    else None

-- a statement's file is one of those before
unfoldable pub with_statement : Counts → DraftParts → ℕ → ℕ → ℕ → Option LabelParts
    → Option DraftParts
with_statement counts draft number place line label = do
  name ← file_name draft place
  with_source counts draft number (sources.statement name line label)

-- whether all instructions are there
abbrev pub has_code : Counts → DraftParts → Bool
has_code counts draft = length draft.sources == counts.instructions

-- symbols come after the instructions
unfoldable pub with_symbol : Counts → DraftParts → Option DraftParts
with_symbol counts draft =
    if has_code counts draft && not draft.has_entries && (draft.harts == 0) then Some draft else None

-- then the entries of the table
unfoldable pub with_entry : Counts → DraftParts → Option DraftParts
with_entry counts draft =
    if has_code counts draft && (draft.harts == 0)
    then Some (record draft { has_entries = true })
    else None

-- and then the harts, numbered from 0 on, no more than the program has
unfoldable pub with_hart : Counts → DraftParts → ℕ → Option DraftParts
with_hart counts draft number =
    if has_code counts draft && (number == draft.harts) && nat_lt number counts.harts
    then Some (record draft { harts = draft.harts + 1 })
    else None

unfoldable pub with_line : Counts → DraftParts → LineParts → Option DraftParts
with_line counts draft (file number name) = with_file draft number name
with_line counts draft (code number place line label) =
    with_statement counts draft number place line label
with_line counts draft (guard number) = with_source counts draft number sources.guard
with_line counts draft (exit number) = with_source counts draft number sources.exit
with_line counts draft (symbol addr size name) = with_symbol counts draft
with_line counts draft (entry addr name) = with_entry counts draft
with_line counts draft (hart number name stack) = with_hart counts draft number

-- the last line comes after all instructions and harts
unfoldable pub with_end : Counts → DraftParts → Option DraftParts
with_end counts draft =
    if has_code counts draft && (draft.harts == counts.harts)
    then Some (record draft { stage = Ended })
    else None

-- a line between the first and the last, or the last
unfoldable pub with_body : Counts → DraftParts → List ℕ → Option DraftParts
with_body counts draft text =
    if bytes_eq text (codes "end") then with_end counts draft
    else (do
      line ← line_of text
      with_line counts draft line)

unfoldable pub with_head : DraftParts → List ℕ → Option DraftParts
with_head draft text =
    if bytes_eq text (codes "cheri-asm map 1") then Some (record draft { stage = Body }) else None

-- after the last line there is nothing, but its newline
unfoldable pub with_rest : DraftParts → List ℕ → Option DraftParts
with_rest draft text =
    if length text == 0 then Some (record draft { stage = Closed }) else None

abbrev pub text_taken : Stage → Counts → DraftParts → List ℕ → Option DraftParts
text_taken Head counts draft text = with_head draft text
text_taken Body counts draft text = with_body counts draft text
text_taken Ended counts draft text = with_rest draft text
text_taken Closed counts draft text = None

unfoldable pub with_text : Counts → DraftParts → List ℕ → Option DraftParts
with_text counts draft text = text_taken draft.stage counts draft text

-- ---- the whole

-- where instructions come from, where the last line was read; else the next line is missing
abbrev pub finished_at : Stage → ℕ → DraftParts → Result (List SourceParts) ℕ
finished_at Ended number draft = Ok draft.sources
finished_at Closed number draft = Ok draft.sources
finished_at _ number draft = Err number

unfoldable pub finished : ℕ → DraftParts → Result (List SourceParts) ℕ
finished number draft = finished_at draft.stage number draft

abbrev pub or_line : {A : Type 0} → ℕ → Option DraftParts → (DraftParts → Result A ℕ) → Result A ℕ
or_line number (Some draft) next = next draft
or_line number None next = Err number

-- what lines make one after another, the first of this number, up to the first that is wrong
unfoldable pub lines_meaning : Counts → ℕ → DraftParts → List (List ℕ)
    → Result (List SourceParts) ℕ
lines_meaning counts number draft [] = finished number draft
lines_meaning counts number draft (text ∷ lines) =
    or_line number (with_text counts draft text)
    (λ next. lines_meaning counts (number + 1) next lines)

-- The meaning of a text as the map of a program of so many instructions and harts.
unfoldable pub map_meaning : Counts → List ℕ → Result (List SourceParts) ℕ
map_meaning counts text =
    lines_meaning counts 1 empty_draft (lines_of text)

-- ---- answers

-- a line was taken as it means, or it is wrong, or out of memory
abbrev pub FillsLine : Result (Unit {0}) LineFault → DraftParts → Option DraftParts → Type 0
FillsLine (Ok done) new meaning = meaning ≡ Some new
FillsLine (Err line_faults.NoMemory) new meaning = ⊤
FillsLine (Err line_faults.Wrong) new meaning = meaning ≡ None

abbrev pub fault_at : ℕ → LineFault → MapFault
fault_at number line_faults.NoMemory = faults.NoMemory
fault_at number line_faults.Wrong = faults.Line number
