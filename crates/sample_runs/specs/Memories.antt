-- A memory that can be brought back to what it was: of each granule that a step changed the value
-- is kept that undoes the change.
use Rattle.std.specs.Prelude.{◌≡◌, ◌<◌, Bool, false, List, [], ◌∷◌, length, slice_set, All}
use Rattle.cap_model.specs.values.CapValue.{CapValue}
use Rattle.sample_steps.specs.declared.writes.Change.{Change}

-- The memory before the first step; the memory now; the changes that lead from the one to the
-- other; and whether that is not known, so that the whole memory is to be brought back.
pub record MemoryParts : Type 0 where
  pub opening : List CapValue
  pub now : List CapValue
  pub changes : List Change
  pub whole : Bool

-- a memory with these changes undone, the last one first
unfoldable pub undone : List Change → List CapValue → List CapValue
undone [] memory = memory
undone (change ∷ changes) memory =
    slice_set (undone changes memory) change.granule change.value

-- The memory has as many granules as at first, and the changes undone make it what it was, unless
-- the whole memory is to be brought back.
pub record IsRunMemory (opening now : List CapValue) (changes : List Change) (whole : Bool)
    : Type 0 where
  pub size : length now ≡ length opening
  pub within : All (λ (change : Change). change.granule < length opening) changes
  pub back : whole ≡ false → undone changes now ≡ opening

-- these changes lead from the memory now back to what it was
pub record LeadBack (memory : MemoryParts) (changes : List Change) : Type 0 where
  pub within : All (λ (change : Change). change.granule < length memory.now) changes
  pub back : undone changes memory.now ≡ memory.opening
