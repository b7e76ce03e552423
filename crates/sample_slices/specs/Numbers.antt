-- The numbers of a line's runs.
use Rattle.std.specs.Prelude.{◌≡◌, ◌≤◌, ◌==◌, ◌-◌, ◌+◌, ◌&&◌, ℕ, nat_le, Bool, true, false}
use Rattle.std.specs.Prelude.{if◌then◌else◌, List, [], ◌∷◌, ◌++◌, length, codes}
use Rattle.std.specs.Prelude.{Option, Some, None}
use Rattle.explore_sweeps.specs.Sweeps.{◌>>=◌}
use Rattle.sample_draws.specs.declared.drawing.TheConstants.{MAX_RUN}
use Rattle.sample_texts.specs.declared.spans.Span.{Span}
use Rattle.serde_json.specs.Data.{Data}
use Rattle.sample_slices.specs.Members.{all_steps, list_in, number_at}

-- numbers of runs, and the least that a number after them may have: one apart from the last
pub record NumbersParts : Type 0 where
  pub spans : List Span
  pub least : ℕ

abbrev pub no_numbers : NumbersParts
no_numbers = record { spans = []; least = 0 }

-- two numbers of runs that ascend
abbrev pub ascending : Span → Option Span
ascending span = if nat_le span.first span.last then Some span else None

unfoldable pub span_in : Data → Option Span
span_in value = do
  first ← number_at 0 MAX_RUN value
  last ← number_at 1 MAX_RUN value
  ascending (record { first = first; last = last })

abbrev pub with_span : NumbersParts → Span → Option NumbersParts
with_span numbers span =
    if nat_le numbers.least span.first
    then Some (record { spans = numbers.spans ++ span ∷ []; least = span.last + 2 })
    else None

unfoldable pub span_step : Data → NumbersParts → Option NumbersParts
span_step value numbers = do
  span ← span_in value
  with_span numbers span

-- there is at least one
abbrev pub some_numbers : NumbersParts → Option (List Span)
some_numbers numbers = if length numbers.spans == 0 then None else Some numbers.spans

unfoldable pub numbers_in : Data → Option (List Span)
numbers_in value = do
  list ← list_in (codes "numbers") value
  numbers ← all_steps span_step list no_numbers
  some_numbers numbers

-- how many numbers there are
unfoldable pub count_of : List Span → ℕ
count_of [] = 0
count_of (span ∷ spans) = (span.last + 1 - span.first) + count_of spans

-- a number is among them
unfoldable pub is_in : Span → ℕ → Bool
is_in span number = nat_le span.first number && nat_le number span.last

unfoldable pub has_number : List Span → ℕ → Bool
has_number [] number = false
has_number (span ∷ spans) number = if is_in span number then true else has_number spans number

-- as code keeps them: they are so many, and none is beyond the greatest
pub record AreNumbers (spans : List Span) (least count : ℕ) : Type 0 where
  pub counted : count ≡ count_of spans
  pub few : count ≤ least
  pub within : least ≤ MAX_RUN + 2
