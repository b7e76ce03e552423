-- The rows of values that outcomes show, and how many outcomes have each.
use Rattle.std.specs.Prelude.{◌≡◌, ◌≢◌, ℕ, ◌+◌, ◌<◌, suc, List, [], ◌∷◌, ◌++◌, length, nat_lt}
use Rattle.std.specs.Prelude.{slice_get, slice_index_or, slice_set, Option, Some, ◌⊎◌}
use Rattle.std.specs.Prelude.{if◌then◌else◌}
use Rattle.cheri_model.specs.runs.Machine.{MachineState}
use Rattle.conditions.specs.declared.parts.Shown.{Shown}
use Rattle.outcomes.specs.declared.items.ItemValue.{ItemValue}
use Rattle.outcomes.specs.declared.rows.Row.{Row}
use Rattle.outcomes.specs.Items.{values_of}
use Rattle.shown_states.specs.Meant.{state_meant}

-- the row of values that items hold in the state of a number
unfoldable pub values_at : (ℕ → Option MachineState) → List Shown → ℕ → List ItemValue
values_at at items number = values_of items (state_meant (at number))

-- just so many of a list are so
abbrev pub IsCount : (ℕ → Type 0) → List ℕ → ℕ → Type 0
IsCount IsSo [] n = n ≡ 0
IsCount IsSo (x ∷ xs) n =
    (IsSo x × ((m : ℕ) × (n ≡ suc m) × IsCount IsSo xs m)) ⊎ ((¬ IsSo x) × IsCount IsSo xs n)

-- A row, where outcomes have these: it is that of its first outcome and of none before it, and just
-- so many outcomes have it.
pub record IsRow {X : Type 0} (value : ℕ → X) (outcomes : List ℕ) (row : Row) : Type 0 where
  pub listed : (k : ℕ) × (slice_get outcomes k ≡ Some row.first)
  pub earlier : (k n : ℕ) → slice_get outcomes k ≡ Some n → n < row.first →
      value n ≢ value row.first
  pub counted : IsCount (λ n. value n ≡ value row.first) outcomes row.states

-- Each outcome has one of the rows, no two rows are the same, and they stand in the order of their
-- first outcomes.
pub record AreRows {X : Type 0} (value : ℕ → X) (outcomes : List ℕ) (rows : List Row)
    : Type 0 where
  pub each : (k : ℕ) (r : Row) → slice_get rows k ≡ Some r → IsRow value outcomes r
  pub all : (j n : ℕ) → slice_get outcomes j ≡ Some n →
      (k : ℕ) × (r : Row) × (slice_get rows k ≡ Some r) × (value r.first ≡ value n)
  pub apart : (j k : ℕ) (a b : Row) → slice_get rows j ≡ Some a → slice_get rows k ≡ Some b →
      value a.first ≡ value b.first → j ≡ k
  pub ordered : (j k : ℕ) (a b : Row) → j < k → slice_get rows j ≡ Some a →
      slice_get rows k ≡ Some b → a.first < b.first

-- ---- how they are counted

-- one outcome more in the row of this number, or in a new one after the last
abbrev pub no_row : Row
no_row = record { first = 0; states = 0 }

abbrev pub one_more : Row → Row
one_more row = record { first = row.first; states = row.states + 1 }

unfoldable pub counted : ℕ → ℕ → List Row → List Row
counted number outcome rows =
    if nat_lt number (length rows)
    then slice_set rows number (one_more (slice_index_or rows number no_row))
    else rows ++ record { first = outcome; states = 1 } ∷ []

-- What is known of rows of codes that were numbered, and of the rows counted by these numbers,
-- where these outcomes were.
pub record IsTable {X : Type 0} (code : ℕ → X) (outcomes : List ℕ) (table : List X)
    (rows : List Row) : Type 0 where
  pub even : length rows ≡ length table
  pub keyed : (k : ℕ) (r : Row) → slice_get rows k ≡ Some r →
      slice_get table k ≡ Some (code r.first)
  pub each : (k : ℕ) (r : Row) → slice_get rows k ≡ Some r → IsRow code outcomes r
  pub all : (j n : ℕ) → slice_get outcomes j ≡ Some n →
      (k : ℕ) × (r : Row) × (slice_get rows k ≡ Some r) × (code r.first ≡ code n)
  pub ordered : (j k : ℕ) (a b : Row) → j < k → slice_get rows j ≡ Some a →
      slice_get rows k ≡ Some b → a.first < b.first
