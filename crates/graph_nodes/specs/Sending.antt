-- Targets, row by row, and where they were sent.
use Rattle.std.specs.Prelude.{◌≡◌, ⊤, ℕ, List, length, slice_get, Option, Some, None}
use Rattle.graph_nodes.specs.declared.parted.Sent.{Sent}

-- The items of two lists belong to one another, one by one.
pub record ArePairs {X Y : Type 0} (belongs : X → Y → Type 0) (xs : List X) (ys : List Y) : Type 0 where
  pub same_count : length xs ≡ length ys
  pub each : (i : ℕ) (x : X) (y : Y) → slice_get xs i ≡ Some x → slice_get ys i ≡ Some y → belongs x y

-- a row was sent just where the target is one
abbrev pub IsTarget : (Sent → List ℕ → Type 0) → Option Sent → Option (List ℕ) → Type 0
IsTarget is_for None None = ⊤
IsTarget is_for (Some sent) (Some row) = is_for sent row
IsTarget is_for None (Some row) = ⊥
IsTarget is_for (Some sent) None = ⊥
