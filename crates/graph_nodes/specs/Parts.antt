-- One part of the nodes.
use Rattle.std.specs.Prelude.{◌≡◌, ℕ, suc, ◌<◌, ◌≤◌, List, length, slice_get, Some}
use Rattle.interner.specs.Rows.{IsRow, IsDistinct}
use Rattle.graph_nodes.specs.declared.parts.Part.{Part}

-- Rows come to a part: each that was there keeps its place, and no number among all nodes changes.
pub record Grows (old new : Part) : Type 0 where
  pub same_width : new.kept.width ≡ old.kept.width
  pub distinct : IsDistinct new.kept
  pub more : (i : ℕ) (row : List ℕ) → IsRow old.kept i row → IsRow new.kept i row
  pub room : length old.numbers.items ≤ length new.numbers.items
  pub numbered : (i n : ℕ) → slice_get old.numbers.items i ≡ Some (suc n) → slice_get new.numbers.items i ≡ Some (suc n)
  pub no_others : (i n : ℕ) → slice_get new.numbers.items i ≡ Some (suc n) → slice_get old.numbers.items i ≡ Some (suc n)

-- The row is at this place of a part, where its number is noted, too.
pub record IsAt (part : Part) (place : ℕ) (row : List ℕ) : Type 0 where
  pub there : IsRow part.kept place row
  pub noted : place < length part.numbers.items
