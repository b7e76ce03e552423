-- Which of two lists of spans has the next one.
use Rattle.std.specs.Prelude.{◌≡◌, ℕ, ◌<◌, List, [], ◌∷◌}
use Rattle.sample_merges.specs.Spans.{HasRun, ShareRun}
use Rattle.sample_merges.specs.declared.sooner.Sooner.{Sooner}
use Rattle.sample_merges.specs.declared.sooner.Sooner.TheVariants.{Neither, One, Other, Both}
use Rattle.sample_texts.specs.declared.spans.Span.{Span}

-- a span comes before all runs of a list
abbrev pub IsBefore : Span → List Span → Type 0
IsBefore span spans = (run : ℕ) → HasRun spans run → span.last < run

abbrev pub IsSooner : List Span → List Span → Sooner → Type 0
IsSooner one other Neither = (one ≡ []) × (other ≡ [])
IsSooner one other (One span rest) = (one ≡ span ∷ rest.now) × IsBefore span other
IsSooner one other (Other span rest) = (other ≡ span ∷ rest.now) × IsBefore span one
IsSooner one other Both = ShareRun one other
