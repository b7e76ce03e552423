-- Numbers of runs, as spans.
use Rattle.std.specs.Prelude.{◌≡◌, ℕ, ◌+◌, ◌<◌, ◌≤◌, ◌⊎◌, ◌↔◌, true, List, [], ◌∷◌}
use Rattle.sample_slices.specs.Numbers.{has_number}
use Rattle.sample_texts.specs.declared.spans.Span.{Span}

-- the run of this number is among them
abbrev pub HasRun : List Span → ℕ → Type 0
HasRun spans run = has_number spans run ≡ true

-- No span is empty, they ascend from this number on, and between two of them a number is missing.
unfoldable pub AscendFrom : ℕ → List Span → Type 0
AscendFrom least [] = Unit {0}
AscendFrom least (span ∷ spans) =
    (least ≤ span.first) × (span.first ≤ span.last) × AscendFrom (span.last + 2) spans

-- spans as they are written
abbrev pub AreSpans : List Span → Type 0
AreSpans spans = AscendFrom 0 spans

-- all runs have numbers below this one
abbrev pub AreBelow : List Span → ℕ → Type 0
AreBelow spans number = (run : ℕ) → HasRun spans run → run < number

-- a run is in both
abbrev pub ShareRun : List Span → List Span → Type 0
ShareRun one other = (run : ℕ) × HasRun one run × HasRun other run

-- The spans of the runs of two lists, which have none in common.
pub record IsJoined (one other whole : List Span) : Type 0 where
  pub spans : AreSpans whole
  pub runs : (run : ℕ) → HasRun whole run ↔ (HasRun one run ⊎ HasRun other run)
  pub apart : (run : ℕ) → HasRun one run → HasRun other run → ⊥
