-- Texts that a call writes into room of the caller.
use Rattle.std.specs.Prelude.{◌≡◌, ◌⊎◌, ℕ, nat_lt, if◌then◌else◌, List, ◌++◌, length, drop}
use Rattle.std.specs.Prelude.{Option, Some, None}
use Rattle.reports.specs.Report.{report}
use Rattle.cores.specs.Cores.{CoreParts}
use Rattle.explanations.specs.ExplainedRuns.{explained_core}
use Rattle.explanations.specs.InstructionLines.{mapped_lines}
use Rattle.explanations.specs.declared.runs.Format.TheVariants as formats
use Rattle.explanations.specs.declared.selection.Filter.TheVariants as filters
use Rattle.cheri_machine.specs.declared.status.TheConstants as status
use Rattle.cheri_machine.specs.declared.structs.CheriText.{CheriText}

-- the report of what a core took
abbrev pub report_of : CoreParts → List ℕ
report_of core = report core.image core.trace core.state

-- what is answered where the room has this length: of a text that is longer how long it is
abbrev pub text_in : ℕ → List ℕ → CheriText
text_in room text =
    if nat_lt room (length text) then record { status = status.NO_ROOM; length = length text }
    else record { status = status.DONE; length = length text }

-- the room after it: a text that fits, and what was there behind it; or as it was
abbrev pub room_after : List ℕ → List ℕ → List ℕ
room_after room text =
    if nat_lt (length room) (length text) then room else text ++ drop (length text) room

-- A call wrote the text of the core that there is; or there is none, or no memory, and then the
-- room is as it was.
abbrev pub IsWritten : (CoreParts → List ℕ) → Option CoreParts → List ℕ → List ℕ → CheriText → Type 0
IsWritten text None old new answer =
    (answer ≡ record { status = status.CLOSED; length = 0 }) × (new ≡ old)
IsWritten text (Some core) old new answer =
    ((answer ≡ record { status = status.NO_MEMORY; length = 0 }) × (new ≡ old))
    ⊎ ((answer ≡ text_in (length old) (text core)) × (new ≡ room_after old (text core)))

-- the explanation of the events of a listing's core that are numbered from `first` to `last`
abbrev pub explained_by : List ℕ → ℕ → ℕ → CoreParts → List ℕ
explained_by listing first last core =
    explained_core formats.Text (mapped_lines None listing)
    (record { first = first; last = last; filter = filters.All }) core

-- a call wrote it, as above: a handle has a listing exactly where it has a core
abbrev pub IsExplained : ℕ → ℕ → Option (List ℕ) → Option CoreParts → List ℕ → List ℕ → CheriText
    → Type 0
IsExplained first last None core old new answer =
    (answer ≡ record { status = status.CLOSED; length = 0 }) × (new ≡ old)
IsExplained first last (Some listing) core old new answer =
    IsWritten (explained_by listing first last) core old new answer
