-- What is kept beside the numbers of harts and memories, and what it means.
use Rattle.std.specs.Prelude.{◌≡◌, ℕ, ◌≤◌, List, [], length, insert, slice_get, Option, Some}
use Rattle.std.specs.Prelude.{IfSome}
use Rattle.std.specs.Prelude.{IsSome, option_and_then, ◌⊎◌}
use Rattle.cap_model.specs.values.CapValue.{CapValue}
use Rattle.sample_steps.specs.declared.writes.Change.{Change}
use Rattle.sample_runs.specs.Memories.{undone}
use Rattle.state_store.specs.Stores.{Stored, hart_at, memory_at}
use Rattle.sample_tallies.specs.declared.numbering.KnownHart.{KnownHart}
use Rattle.sample_tallies.specs.declared.numbering.KnownMemory.{KnownMemory}

-- a store, and the memory with which runs open, once one has ended
pub record NumberingParts : Type 0 where
  pub store : Stored
  pub opening : Option (List CapValue)

-- the memory with the number of the opening one
abbrev pub opening_of : Stored → Option ℕ → Option (List CapValue)
opening_of store number = option_and_then (memory_at store) number

-- Each hart is kept beside its number, and each memory as the changes that make it of the opening
-- one.
pub record IsNumbering (store : Stored) (opening : Option ℕ) (harts : List KnownHart)
    (memories : List KnownMemory) : Type 0 where
  pub begun : IfSome opening (λ number. IsSome (memory_at store number))
  pub harts_are : (k : ℕ) (known : KnownHart) → slice_get harts k ≡ Some known →
      hart_at store known.number ≡ Some known.hart
  pub memories_are : (k : ℕ) (known : KnownMemory) (first : List CapValue) →
      slice_get memories k ≡ Some known → opening_of store opening ≡ Some first →
      memory_at store known.number ≡ Some (undone known.changed.items first)

-- a change is among others, or one of its granule is there
abbrev pub IsPut : List Change → Change → List Change → Type 0
IsPut old change new =
    ((new ≡ old) × ((k : ℕ) × (other : Change) × (slice_get old k ≡ Some other)
    × (other.granule ≡ change.granule)))
    ⊎ ((place : ℕ) × (place ≤ length old) × (new ≡ insert old place change))

-- each item is this one, or was there
abbrev pub Adds : {A : Type 0} → List A → A → List A → Type 0
Adds {A} old item new = (k : ℕ) (x : A) → slice_get new k ≡ Some x →
    (x ≡ item) ⊎ ((j : ℕ) × (slice_get old j ≡ Some x))

-- each memory is this one, or the opening one, or was there
abbrev pub AddsMemory : ℕ → List KnownMemory → KnownMemory → List KnownMemory → Type 0
AddsMemory opening old item new = (k : ℕ) (x : KnownMemory) → slice_get new k ≡ Some x →
    (x ≡ item) ⊎ ((x.number ≡ opening) × (x.changed.items ≡ []))
    ⊎ ((j : ℕ) × (slice_get old j ≡ Some x))

-- a memory with these changes has this number
abbrev pub IsKnown : List KnownMemory → List Change → ℕ → Type 0
IsKnown memories changed number = (k : ℕ) × (known : KnownMemory)
    × (slice_get memories k ≡ Some known) × (known.number ≡ number)
    × (known.changed.items ≡ changed)
