-- Facts in words, a line each.
use Rattle.std.specs.Prelude.{ℕ, List, [], ◌∷◌, ◌++◌, codes, decimal, Option, Some, None}
use Rattle.cheri_model.specs.declared.operation.Event.TheVariants as event
use Rattle.cheri_model.specs.instructions.Form.{form_of}
use Rattle.notation.specs.Instructions.{form_text}
use Rattle.report_lines.specs.Texts.{◌+++◌, line}
use Rattle.report_lines.specs.ValueText.{value_text}
use Rattle.report_lines.specs.Names.{cause_name}
use Rattle.report_lines.specs.EventText.{event_text}
use Rattle.origins.specs.declared.place.Place.{Place}
use Rattle.facts.specs.declared.step_facts.NamedValue.{NamedValue}
use Rattle.facts.specs.declared.step_facts.UpToTwo.{UpToTwo}
use Rattle.facts.specs.declared.step_facts.UpToTwo.TheVariants.{Zero, One, Two}
use Rattle.facts.specs.declared.step_facts.Extent.{Extent}
use Rattle.facts.specs.declared.step_facts.Fetched.{Fetched}
use Rattle.facts.specs.declared.step_facts.Trapped.{Trapped}
use Rattle.facts.specs.declared.step_facts.Cleared.{Cleared}
use Rattle.facts.specs.declared.step_facts.StepFacts.{StepFacts}
use Rattle.explanations.specs.InstructionLines.{LineParts, line_of, source_of}
use Rattle.explanations.specs.Names.{spot_name, swept_name, origin_name}
use Rattle.explanations.specs.Reasons.{h64, why_text, trap_why_text}

-- ---- parts that may be absent

abbrev pub if_any : {X : Type 0} → (X → List ℕ) → Option X → List ℕ
if_any text None = []
if_any text (Some x) = text x

abbrev pub up_to_two : {X : Type 0} → (X → List ℕ) → UpToTwo X → List ℕ
up_to_two text Zero = []
up_to_two text (One x) = text x
up_to_two text (Two x y) = text x ++ text y

-- ---- facts

-- a fact is a line that begins with two spaces
abbrev pub fact : List ℕ → List ℕ
fact text = line (codes "  " +++ text)

abbrev pub from_text : Place → List ℕ
from_text origin = codes " from " +++ origin_name origin

-- a place, its value, and where the value is tagged its origin
abbrev pub named_text : NamedValue → List ℕ
named_text named =
    spot_name named.name +++ codes " " +++ value_text named.value +++ if_any from_text named.origin

abbrev pub reads_line : NamedValue → List ℕ
reads_line named = fact (codes "reads " +++ named_text named)

-- the address of an access, and how many bytes it moves
abbrev pub at_line : Extent → List ℕ
at_line extent = fact (codes "at " +++ h64 extent.address +++ codes " " +++ decimal extent.bytes)

abbrev pub finds_line : NamedValue → List ℕ
finds_line named = fact (codes "finds " +++ named_text named)

unfoldable pub traps_line : Trapped → List ℕ
traps_line trapped =
    fact (codes "traps " +++ cause_name trapped.trap.cause
    +++ codes ": " +++ trap_why_text trapped.why)

abbrev pub leaves_line : NamedValue → List ℕ
leaves_line named = fact (codes "leaves " +++ named_text named)

abbrev pub sets_line : NamedValue → List ℕ
sets_line named = fact (codes "sets " +++ named_text named)

unfoldable pub clears_line : Cleared → List ℕ
clears_line cleared =
    fact (codes "clears " +++ spot_name cleared.name +++ codes ": " +++ why_text cleared.why)

abbrev pub swept_line : Place → List ℕ
swept_line place = fact (codes "clears " +++ swept_name place +++ codes ": swept")

-- ---- events

-- what stands before an instruction: what it comes from, if a map says so, else its line
abbrev pub start_text : Option (List ℕ) → ℕ → List ℕ
start_text (Some source) line = codes " | " +++ source +++ codes ": "
start_text None line = codes " | line " +++ decimal line +++ codes ": "

-- an instruction, after that
abbrev pub fetched_text : LineParts → Fetched → List ℕ
fetched_text lines fetched =
    start_text (source_of lines fetched.number) (line_of lines fetched.number)
    +++ form_text (form_of fetched.instr)

-- the report's line of a step, and where its fetch passed the instruction
unfoldable pub step_head : LineParts → ℕ → StepFacts → List ℕ
step_head lines number facts =
    line (event_text number (event.Step facts.entry) +++ if_any (fetched_text lines) facts.fetched)

unfoldable pub step_lines : LineParts → ℕ → StepFacts → List ℕ
step_lines lines number facts =
    step_head lines number facts
    +++ up_to_two reads_line facts.reads
    +++ if_any at_line facts.at
    +++ if_any finds_line facts.finds
    +++ if_any traps_line facts.traps
    +++ if_any leaves_line facts.leaves
    +++ up_to_two sets_line facts.sets
    +++ if_any clears_line facts.clears

-- the lines of places that a sweep cleared
unfoldable pub swept_lines : List Place → List ℕ
swept_lines [] = []
swept_lines (place ∷ places) = swept_line place ++ swept_lines places
