-- The bitmap of tags where a part of RAM was swept.
use Rattle.std.specs.Prelude.{◌≡◌, ℕ, ◌-◌, ◌<◌, ◌≤◌, List, length}
use Rattle.cap_model.specs.values.CapValue.{tag_of}
use Rattle.cap_model.specs.results.Swept.{swept}
use Rattle.cheri_model.specs.runs.Sweeps.{cleared_in_memory}
use Rattle.tagged_mem.specs.Packed.{tag_at, packed_at, granules_from}

-- how many tags a sweep of the granules from one on, up to another, clears
unfoldable pub cleared_between : ℕ → ℕ → List ℕ → List ℕ → ℕ → ℕ → ℕ
cleared_between lo hi bytes tags from to =
    cleared_in_memory lo hi (granules_from bytes tags from (to - from))

-- What it leaves: these granules have the tags of swept values, and all others the tags that they
-- had.
pub record IsSweptBetween (lo hi : ℕ) (bytes old new : List ℕ) (from to : ℕ) : Type 0 where
  pub size : length new ≡ length old
  pub below : (k : ℕ) → k < from → tag_at new k ≡ tag_at old k
  pub inside : (k : ℕ) → from ≤ k → k < to →
      tag_at new k ≡ tag_of (swept lo hi (packed_at bytes old k))
  pub above : (k : ℕ) → to ≤ k → tag_at new k ≡ tag_at old k
