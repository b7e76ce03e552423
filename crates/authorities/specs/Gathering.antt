-- How the greatest rights are gathered, value by value.
use Rattle.std.specs.Prelude.{◌≡◌, ℕ, ◌<◌, List, [], ◌∷◌, slice_get, slice_index_or, Option, Some}
use Rattle.std.specs.Prelude.{Bool, true, false, not, ◌⊎◌, ◌++◌, filter, if◌then◌else◌}
use Rattle.std.specs.List.{list_any}
use Rattle.cap_model.specs.values.CapValue.{CapValue, tag_of}
use Rattle.cheri_model.specs.runs.Machine.{MachineState}
use Rattle.explore_rights.specs.declared.rights.Rights.{Rights}
use Rattle.authorities.specs.declared.rights.Authority.{Authority}
use Rattle.state_store.specs.Stores.{Stored}
use Rattle.authorities.specs.declared.holders.Holder.{Holder}
use Rattle.authorities.specs.Authorities.{values_of, IsHeld, IsFirst}
use Rattle.explore_rights.specs.Rights.{rights_of, is_within, is_before}
use Rattle.authorities.specs.Holders.{part_numbers, HoldsNumbered}

-- it is one of the list
abbrev pub IsIn : Authority → List Authority → Type 0
IsIn a [] = ⊥
IsIn a (x ∷ xs) = (x ≡ a) ⊎ IsIn a xs

-- the rights lie within some of the list
unfoldable pub IsCovered : List Authority → Rights → Type 0
IsCovered list rights = (a : Authority) × IsIn a list × (is_within rights a.rights ≡ true)

-- each comes before all after it
abbrev pub IsBeforeAll : Authority → List Authority → Type 0
IsBeforeAll a [] = Unit {0}
IsBeforeAll a (x ∷ xs) = (is_before a.rights x.rights ≡ true) × IsBeforeAll a xs

abbrev pub IsSorted : List Authority → Type 0
IsSorted [] = Unit {0}
IsSorted (x ∷ xs) = IsBeforeAll x xs × IsSorted xs

-- none lies within another, and they stand in order
pub record AreApart (list : List Authority) : Type 0 where
  pub apart : (a b : Authority) → IsIn a list → IsIn b list → is_within a.rights b.rights ≡ true →
      a ≡ b
  pub sorted : IsSorted list

-- whether rights stay beside new ones: before these, or after them
unfoldable pub stays : Rights → Bool → Authority → Bool
stays new before a =
    if is_within a.rights new then false
    else (if before then is_before a.rights new else not (is_before a.rights new))

-- whether the rights lie within some of the list
unfoldable pub is_covered : List Authority → Rights → Bool
is_covered list rights = list_any (λ a. is_within rights a.rights) list

-- the list with these rights, first held in this state: as it was where they lie within some of it
unfoldable pub with_rights : List Authority → Rights → ℕ → List Authority
with_rights list rights first =
    if is_covered list rights then list
    else filter (stays rights true) list ++ record { rights = rights; first = first } ∷ []
    ++ filter (stays rights false) list

-- the value with this number, if it is tagged, lies within some of the list
unfoldable pub IsValueCovered : List CapValue → List Authority → ℕ → Type 0
IsValueCovered values list id = (v : CapValue) → slice_get values id ≡ Some v →
    tag_of v ≡ true → IsCovered list (rights_of v)

-- so do all values that are marked; all values of the parts that are marked
unfoldable pub AreMarked : List CapValue → List Authority → List Bool → Type 0
AreMarked values list marks = (id : ℕ) → slice_index_or marks id false ≡ true →
    IsValueCovered values list id

unfoldable pub AreMarkedParts : Holder → Stored → List Authority → List Bool → Type 0
AreMarkedParts who store list marks = (part k id : ℕ) (ids : List ℕ) →
    slice_index_or marks part false ≡ true → part_numbers who store part ≡ Some ids →
    slice_get ids k ≡ Some id → IsValueCovered store.values list id

-- What is gathered of the values with these numbers, held in this state: they are covered, what was
-- covered still is, and what is new was not, and is held.
pub record Gathers (values : List CapValue) (ids : List ℕ) (state : ℕ) (old new : List Authority)
    : Type 0 where
  pub covered : (k id : ℕ) → slice_get ids k ≡ Some id → IsValueCovered values new id
  pub kept : (r : Rights) → IsCovered old r → IsCovered new r
  pub from : (a : Authority) → IsIn a new →
      IsIn a old ⊎ ((a.first ≡ state) × ¬ IsCovered old a.rights
      × HoldsNumbered values ids a.rights)
  pub apart : AreApart new

-- The greatest of what is held in the states before this one.
pub record AreGathered (at : ℕ → Option MachineState) (values : MachineState → List CapValue)
    (state : ℕ) (list : List Authority) : Type 0 where
  pub first : (a : Authority) → IsIn a list → IsFirst at values a
  pub covered : (i : ℕ) (r : Rights) → i < state → IsHeld at values i r → IsCovered list r
  pub apart : AreApart list

-- What is known where the states before this one were gathered.
pub record IsGathering (at : ℕ → Option MachineState) (who : Holder) (store : Stored)
    (list : List Authority) (marks seen : List Bool) (state : ℕ) : Type 0 where
  pub gathered : AreGathered at (values_of who) state list
  pub marked : AreMarked store.values list marks
  pub parts : AreMarkedParts who store list seen
