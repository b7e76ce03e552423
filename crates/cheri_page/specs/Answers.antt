-- What a call leaves in the room that it is given, and what its answer says.
use Rattle.std.specs.Prelude.{◌≡◌, ℕ, ◌+◌, ◌-◌, min, nat_lt, if◌then◌else◌, List, [], ◌++◌}
use Rattle.std.specs.Prelude.{length, take, drop, Option, Some, None, ◌⊎◌}
use Rattle.report_lines.specs.Texts.{line}
use Rattle.cheri_page.specs.declared.answer.Answer.{Answer}
use Rattle.cheri_page.specs.declared.fault.Fault.{Fault}
use Rattle.cheri_page.specs.declared.fault.Fault.TheVariants.{NoMemory}
use Rattle.cheri_page.specs.Faults.{status_of, kind_of, place_of, column_of, fault_text}

-- what a call tells: a text, and why there is no more, where there isn't
pub record Told : Type 0 where
  pub text : List ℕ
  pub fault : Option Fault

-- memory may run out at any time
abbrev pub out_of_memory : Told
out_of_memory = record { text = []; fault = Some NoMemory }

-- the line of a fault, or nothing
abbrev pub line_of : Option Fault → List ℕ
line_of None = []
line_of (Some fault) = line (fault_text fault)

-- the answer where there is room for a text and for so many bytes of the fault's line
abbrev pub answer_of : Option Fault → ℕ → ℕ → Answer
answer_of None count said =
    record { status = 0; kind = 0; place = 0; column = 0; length = count; said = said }
answer_of (Some fault) count said =
    record {
      status = status_of fault;
      kind = kind_of fault;
      place = place_of fault;
      column = column_of fault;
      length = count;
      said = said;
    }

-- status 5 where the text is longer than the room, with the count of bytes that it needs
abbrev pub no_room : ℕ → Answer
no_room needed = record { status = 5; kind = 0; place = 0; column = 0; length = needed; said = 0 }

-- how much of the fault's line the room has place for after the text
abbrev pub said_in : ℕ → Told → ℕ
said_in room told = min (length (line_of told.fault)) (room - length told.text)

unfoldable pub answer_in : ℕ → Told → Answer
answer_in room told =
    if nat_lt room (length told.text)
    then no_room (length told.text)
    else answer_of told.fault (length told.text) (said_in room told)

-- the room: the text, the fault's line, and what was there after them; or as it was
unfoldable pub out_after : List ℕ → Told → List ℕ
out_after old told =
    if nat_lt (length old) (length told.text)
    then old
    else told.text ++ (take (said_in (length old) told) (line_of told.fault)
    ++ drop (length told.text + said_in (length old) told) old)

-- a call told what is so
pub record Answers (IsSo : Told → Type 0) (old new : List ℕ) (answer : Answer) : Type 0 where
  pub told : Told
  pub is_so : IsSo told
  pub out : new ≡ out_after old told
  pub said : answer ≡ answer_in (length old) told

-- what is told is this, or memory ran out
abbrev pub IsTold : Told → Told → Type 0
IsTold meant told = (told ≡ out_of_memory) ⊎ (told ≡ meant)
