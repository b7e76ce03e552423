-- The end of an answer.
use Rattle.std.specs.Prelude.{◌≡◌, ◌⊎◌, ℕ, List, Option, Result, Ok, Err}
use Rattle.std.specs.Io.KnownBytes.{Keeps}
use Rattle.report_lines.specs.Texts.{line}
use Rattle.sinks.specs.Sinks.{TakesPrefix}
use Rattle.program_io.specs.declared.fault.Fault.{Fault}
use Rattle.program_io.specs.declared.fault.Fault.TheVariants.{CannotWrite}

-- A command that was answered so ends so. An answer that was written whole is flushed, which writes
-- nothing and may fail; after a fault nothing is done.
abbrev pub IsFlushed : {End T : Type 0} → Result End (Fault T) → Result End (Fault T)
    → Option (List ℕ) → Option (List ℕ) → Type 0
IsFlushed (Ok end) ended old new =
    Keeps old new × ((ended ≡ Ok end) ⊎ (ended ≡ Err CannotWrite))
IsFlushed (Err fault) ended old new = (ended ≡ Err fault) × (new ≡ old)

-- a fault was reported: this is its exit status, and its line, or a prefix of it, was written
abbrev pub IsTold : {T : Type 0} → (T → ℕ) → (T → List ℕ) → T → ℕ
    → Option (List ℕ) → Option (List ℕ) → Type 0
IsTold status_of text_of fault status old new =
    (status ≡ status_of fault) × TakesPrefix old new (line (text_of fault))
