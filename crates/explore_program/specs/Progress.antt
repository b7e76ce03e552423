-- What is said of a search, or of a sample, that goes on.
use Rattle.std.specs.Prelude.{◌≡◌, ℕ, ◌+◌, ◌*◌, ◌≤◌, List, ◌++◌, codes, decimal, Option, Some, None}
use Rattle.std.specs.Time.{instant_nanos}
use Rattle.std.specs.declared.time.Instant.{Instant}
use Rattle.report_lines.specs.Texts.{line}
use Rattle.sinks.specs.Sinks.{TakesPrefix}
use Rattle.explore_program.specs.declared.progress.Counted.{Counted}
use Rattle.explore_program.specs.declared.progress.Counted.TheVariants.{States, Runs}
use Rattle.explore_program.specs.declared.progress.TheConstants.{SILENCE}

abbrev pub counted_word : Counted → List ℕ
counted_word States = codes "states"
counted_word Runs = codes "runs"

abbrev pub progress_text : Counted → ℕ → List ℕ
progress_text counted found = counted_word counted ++ (codes " " ++ decimal found)

-- a report is due at this time: the silence after the last one has passed
abbrev pub IsDue : Option Instant → Instant → Type 0
IsDue None time = ⊥
IsDue (Some last) time = instant_nanos last + SILENCE * 1000000000 ≤ instant_nanos time

-- nothing was reported
abbrev pub IsQuiet : Option Instant → Option Instant → Option (List ℕ) → Option (List ℕ) → Type 0
IsQuiet last now old new = (now ≡ last) × (new ≡ old)

-- the line of how many there are so far was written, or a prefix of it, when it was due, and the
-- time of the last report is now
pub record IsTold (counted : Counted) (found : ℕ) (last now : Option Instant)
    (old new : Option (List ℕ)) : Type 0 where
  pub time : Instant
  pub due : IsDue last time
  pub now_is : now ≡ Some time
  pub told : TakesPrefix old new (line (progress_text counted found))
