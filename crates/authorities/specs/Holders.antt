-- Where the numbers of what a holder has are kept.
use Rattle.std.specs.Prelude.{◌≡◌, ℕ, ◌+◌, ◌<◌, List, length, drop, slice_get, slice_index_or}
use Rattle.std.specs.Prelude.{Option, Some, IsSome, option_map, true}
use Rattle.cap_model.specs.values.CapValue.{CapValue, tag_of}
use Rattle.state_store.specs.Stores.{Stored}
use Rattle.states.specs.Graphs.{GraphParts, state_in}
use Rattle.explore_rights.specs.declared.rights.Rights.{Rights}
use Rattle.authorities.specs.declared.holders.Holder.{Holder}
use Rattle.authorities.specs.declared.holders.Holder.TheVariants as holder
use Rattle.explore_rights.specs.Rights.{rights_of}
use Rattle.explore_rights.specs.Held.{Holds}

-- where its part of a state is in the state's row
abbrev pub place_of : Holder → ℕ
place_of (holder.Hart number) = number + 1
place_of holder.Memory = 0

-- the numbers of the values in a part: of a hart without its status, its first number
unfoldable pub part_numbers : Holder → Stored → ℕ → Option (List ℕ)
part_numbers (holder.Hart number) store part = option_map (drop 1) (slice_get store.harts part)
part_numbers holder.Memory store part = slice_get store.memories part

-- the part in a row
abbrev pub part_in : Holder → List ℕ → ℕ
part_in who row = slice_index_or row (place_of who) 0

-- the row is that of a state, and has a part of this holder
pub record HasPart (graph : GraphParts) (who : Holder) (row : List ℕ) : Type 0 where
  pub state : IsSome (state_in graph row)
  pub place : place_of who < length row

-- a tagged one of the values with these numbers has just these rights
abbrev pub HoldsNumbered : List CapValue → List ℕ → Rights → Type 0
HoldsNumbered values ids rights =
    (k id : ℕ) × (v : CapValue) × (slice_get ids k ≡ Some id) × (slice_get values id ≡ Some v)
    × (tag_of v ≡ true) × (rights_of v ≡ rights)

-- the numbers are those of what is held
pub record AreNumbersOf (values : List CapValue) (ids : List ℕ) (held : List CapValue)
    : Type 0 where
  pub numbered : (r : Rights) → Holds held r → HoldsNumbered values ids r
  pub holding : (r : Rights) → HoldsNumbered values ids r → Holds held r
  pub known : (k id : ℕ) → slice_get ids k ≡ Some id → id < length values
