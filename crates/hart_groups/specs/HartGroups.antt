-- Harts that are the same to a question, and their groups.
use Rattle.std.specs.Prelude.{◌≡◌, ◌≢◌, ◌<◌, ◌≤◌, ◌+◌, ◌==◌, ℕ, Bool, true, false, not}
use Rattle.std.specs.Prelude.{List, length, slice_get}
use Rattle.std.specs.List.{list_any}
use Rattle.cheri_model.specs.declared.image.HartImage.{HartImage}
use Rattle.hart_order.specs.Arrangements.{group_of, are_grouped}
use Rattle.named_harts.specs.NamedHarts.{has}

-- two harts of an image are the same: the question names neither, and their images are equal
pub record AreSame (harts : List HartImage) (named : List Bool) (one other : ℕ) : Type 0 where
  pub inside : one < length harts
  pub free : has named one ≡ false
  pub other_free : has named other ≡ false
  pub alike : slice_get harts one ≡ slice_get harts other

-- another hart is the same
abbrev pub HasTwin : List HartImage → List Bool → ℕ → Type 0
HasTwin harts named hart = (other : ℕ) × (other ≢ hart) × AreSame harts named hart other

-- the group of a hart: 0 for one that no other is like, and otherwise 1 more than the number of the
-- first that is like it
pub record IsGroup (harts : List HartImage) (named : List Bool) (hart group : ℕ) : Type 0 where
  pub alone : group ≡ 0 → HasTwin harts named hart → ⊥
  pub twin : (first : ℕ) → group ≡ first + 1 → HasTwin harts named hart
  pub same : (first : ℕ) → group ≡ first + 1 → AreSame harts named hart first
  pub least : (first other : ℕ) → group ≡ first + 1 → AreSame harts named hart other → first ≤ other

-- the groups of the harts of an image
pub record AreGroups (harts : List HartImage) (named : List Bool) (groups : List ℕ) : Type 0 where
  -- what is named is of no group, nor is a number that is no hart's
  pub free : (hart : ℕ) → has named hart ≡ true → group_of groups hart ≡ 0
  pub beyond : (hart : ℕ) → length harts ≤ hart → group_of groups hart ≡ 0
  -- harts of one group have equal images
  pub equal : (one other : ℕ) → are_grouped groups one other ≡ true →
      slice_get harts one ≡ slice_get harts other
  -- all that are the same are of one group
  pub all : (one other : ℕ) → one ≢ other → AreSame harts named one other →
      are_grouped groups one other ≡ true
  -- no hart is alone in a group
  pub shared : (hart : ℕ) → group_of groups hart ≢ 0 →
      (other : ℕ) × (other ≢ hart) × (are_grouped groups hart other ≡ true)
  -- a group has the number of its first hart and 1 more
  pub first : (hart number : ℕ) → group_of groups hart ≡ number + 1 →
      (group_of groups number ≡ number + 1)
      × ((other : ℕ) → group_of groups other ≡ number + 1 → number ≤ other)

-- some hart is of a group
abbrev pub any_grouped : List ℕ → Bool
any_grouped groups = list_any (λ group. not (group == 0)) groups
