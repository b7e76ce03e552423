-- The greatest rights that a holder, a hart or memory, has over the states that a search kept.
use Rattle.std.specs.Prelude.{◌≡◌, ℕ, ◌<◌, List, slice_get, Option, Some, true}
use Rattle.cap_model.specs.values.CapValue.{CapValue}
use Rattle.cheri_model.specs.runs.Machine.{MachineState, hart_at}
use Rattle.explore_rights.specs.declared.rights.Rights.{Rights}
use Rattle.explore_rights.specs.Rights.{is_within, is_before}
use Rattle.explore_rights.specs.Held.{Holds, held_by}
use Rattle.authorities.specs.declared.rights.Authority.{Authority}
use Rattle.authorities.specs.declared.holders.Holder.{Holder}
use Rattle.authorities.specs.declared.holders.Holder.TheVariants as holder

-- what is held by a hart, in its PCC and registers, and in memory
abbrev pub hart_values : ℕ → MachineState → List CapValue
hart_values number state = held_by (hart_at state number)

abbrev pub memory_values : MachineState → List CapValue
memory_values state = state.memory

abbrev pub values_of : Holder → MachineState → List CapValue
values_of (holder.Hart number) = hart_values number
values_of holder.Memory = memory_values

-- these rights are held in this state
unfoldable pub IsHeld : (ℕ → Option MachineState) → (MachineState → List CapValue) → ℕ → Rights
    → Type 0
IsHeld at values i rights = (s : MachineState) × (at i ≡ Some s) × Holds (values s) rights

-- the state is the first in which just these rights are held
pub record IsFirst (at : ℕ → Option MachineState) (values : MachineState → List CapValue)
    (authority : Authority) : Type 0 where
  pub held : IsHeld at values authority.first authority.rights
  pub earlier : (i : ℕ) → i < authority.first → ¬ IsHeld at values i authority.rights

-- The greatest rights: each is held, what is held in any state lies within one of them, none lies
-- within another, and they stand in order.
pub record AreGreatest (at : ℕ → Option MachineState) (values : MachineState → List CapValue)
    (list : List Authority) : Type 0 where
  pub first : (k : ℕ) (a : Authority) → slice_get list k ≡ Some a → IsFirst at values a
  pub bounded : (i : ℕ) (r : Rights) → IsHeld at values i r →
      (k : ℕ) × (a : Authority) × (slice_get list k ≡ Some a) × (is_within r a.rights ≡ true)
  pub apart : (j k : ℕ) (a b : Authority) → slice_get list j ≡ Some a → slice_get list k ≡ Some b →
      is_within a.rights b.rights ≡ true → j ≡ k
  pub ordered : (j k : ℕ) (a b : Authority) → j < k → slice_get list j ≡ Some a →
      slice_get list k ≡ Some b → is_before a.rights b.rights ≡ true
