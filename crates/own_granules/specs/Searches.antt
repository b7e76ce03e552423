-- Searches by turns: an edge, and then quiet steps.
use Rattle.std.specs.Prelude.{◌≡◌, ℕ, Bool, true, Option, Some, option_map}
use Rattle.graph_search.specs.Walks.{IsReachable}
use Rattle.own_granules.specs.Rests.{rest_first, rest_after, ways_pass, after_passes}

-- where a label's turn leads
abbrev pub turn_of : {S : Type 0} → (S → ℕ → Option S) → (S → ℕ → S) → (S → ℕ → Bool) → ℕ → ℕ → S
    → ℕ → Option S
turn_of next step quiet most actors s l =
    option_map (rest_after step quiet most actors l) (next s l)

-- What a search by turns has met passes a test: the quiet steps with which it began, each edge from
-- a state that turns reach, and the quiet steps after it.
pub record AreMet {S : Type 0} (next : S → ℕ → Option S) (step : S → ℕ → S)
    (quiet passes : S → ℕ → Bool) (most actors : ℕ) (start : S) : Type 0 where
  pub opening : ways_pass step quiet passes most actors start ≡ true
  pub edges : (s t : S) (l : ℕ) →
      IsReachable (turn_of next step quiet most actors)
      (rest_first step quiet most actors start) s →
      next s l ≡ Some t →
      (passes s l ≡ true) × (after_passes step quiet passes most actors l t ≡ true)
