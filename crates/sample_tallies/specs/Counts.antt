-- What a tally keeps. An end is a row of numbers, and a store says which state that is.
use Rattle.std.specs.Prelude.{◌≡◌, ◌≢◌, ℕ, ◌+◌, List, [], ◌∷◌, ◌++◌, length, All, Some, unwrap_or}
use Rattle.std.specs.Prelude.{Option, IsSome, ◌⊎◌, slice_get, slice_set}
use Rattle.cap_model.specs.values.CapValue.{CapValue}
use Rattle.cheri_model.specs.runs.Machine.{MachineState}
use Rattle.interner.specs.Rows.{Rows, IsRow, with_row}
use Rattle.state_store.specs.Stores.{Stored, state_of}
use Rattle.sample_tallies.specs.declared.seen.Seen.{Seen}
use Rattle.sample_tallies.specs.declared.seen.TrapSeen.{TrapSeen}
use Rattle.sample_tallies.specs.declared.seen.TrapPlace.{TrapPlace}
use Rattle.sample_tallies.specs.Tables.{Entry, both}
use Rattle.sample_tallies.specs.Tallies.{TallyParts}

-- A tally of runs of a machine with so many harts and granules, and the memory with which those
-- that were counted by running opened, once one has ended.
pub record Counted : Type 0 where
  pub harts : ℕ
  pub granules : ℕ
  pub opening : Option (List CapValue)
  pub sum : TallyParts

-- the ends alone
pub record EndsParts : Type 0 where
  pub harts : ℕ
  pub granules : ℕ
  pub opening : Option (List CapValue)
  pub table : List (Entry MachineState)

-- a trap as an entry of a table
abbrev pub entry_of : TrapSeen → Entry TrapPlace
entry_of trap = record { key = trap.place; seen = trap.seen }

-- the state that a row means; past all rows there is none
abbrev pub no_state : MachineState
no_state = record { harts = []; memory = [] }

abbrev pub meant : Stored → List ℕ → MachineState
meant store row = unwrap_or (state_of store row) no_state

-- a row of a machine with so many harts, that means a state
pub record IsEndRow (store : Stored) (harts : ℕ) (row : List ℕ) : Type 0 where
  pub width : length row ≡ harts + 1
  pub state : IsSome (state_of store row)

-- each row means a state, and what was seen of it stands at the same place
pub record AreEnds (store : Stored) (harts : ℕ) (rows : Rows) (seen : List Seen) : Type 0 where
  pub width : rows.width ≡ harts + 1
  pub rows_mean : All (IsEndRow store harts) rows.rows
  pub as_many : length seen ≡ length rows.rows

-- a row that was seen before
pub record IsSeenAgain (rows : Rows) (row : List ℕ) (seen : Seen) (old new : List Seen)
    : Type 0 where
  pub number : ℕ
  pub before : Seen
  pub there : IsRow rows number row
  pub was : slice_get old number ≡ Some before
  pub sum : new ≡ slice_set old number (both before seen)

-- one that was not, and is the last one now
pub record IsSeenFirst (before after : Rows) (row : List ℕ) (seen : Seen) (old new : List Seen)
    : Type 0 where
  pub absent : (i : ℕ) → slice_get before.rows i ≢ Some row
  pub added : after ≡ with_row before row
  pub last : new ≡ old ++ seen ∷ []

-- a row, and what was seen of it, are among the others
abbrev pub IsSeen : Rows → Rows → List ℕ → Seen → List Seen → List Seen → Type 0
IsSeen before after row seen old new =
    (IsSeenAgain before row seen old new × (after ≡ before))
    ⊎ IsSeenFirst before after row seen old new
