-- How an answer ends, and what a sink then has of it.
use Rattle.std.specs.Prelude.{◌≡◌, ℕ, Bool, if◌then◌else◌, List, Option, Result, Ok, Err}
use Rattle.std.specs.Io.KnownBytes.{Appends}
use Rattle.shown_states.specs.declared.form.Ending.{Ending}
use Rattle.shown_states.specs.declared.form.Ending.TheVariants.{Done, Unfinished, Nowhere}
use Rattle.shown_states.specs.declared.form.Ending.TheVariants.{Violated}
use Rattle.sinks.specs.Sinks.{TakesPrefix}
use Rattle.sinks.specs.declared.fault.WriteFault.{WriteFault}
use Rattle.sinks.specs.declared.fault.WriteFault.TheVariants.{Write, NoMemory}
use Rattle.sinks.specs.WriteFaults as sinks

-- the exit status
abbrev pub status_of : Ending → ℕ
status_of Done = 0
status_of Unfinished = 4
status_of Nowhere = 5
status_of (Violated line) = 1

-- an answer speaks of all states, or of those that were kept
abbrev pub ending_of : Bool → Ending
ending_of complete = if complete then Done else Unfinished

-- a sink took a whole text that is so
abbrev pub IsWritten : (List ℕ → Type 0) → Option (List ℕ) → Option (List ℕ) → Type 0
IsWritten IsSo old new = (text : List ℕ) × IsSo text × Appends old new text

-- Why it did not: memory ran out, and it took nothing; or it failed after a prefix of a text that
-- is so.
abbrev pub IsUnwritten : (List ℕ → Type 0) → Option (List ℕ) → Option (List ℕ) → WriteFault → Type 0
IsUnwritten IsSo old new NoMemory = new ≡ old
IsUnwritten IsSo old new Write = (text : List ℕ) × IsSo text × TakesPrefix old new text

-- how often the sink failed by an answer: once where the answer is its fault, else never
abbrev pub failures_of : Result Ending WriteFault → ℕ
failures_of (Ok ending) = 0
failures_of (Err fault) = sinks.failures_of (Err fault)
