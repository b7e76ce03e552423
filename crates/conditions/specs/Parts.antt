-- The parts of a condition, by its last node.
use Rattle.std.specs.Prelude.{◌≡◌, ◌<◌, ◌≤◌, ◌-◌, ℕ, List, length, take, drop, Option, Some, None}
use Rattle.conditions.specs.declared.parts.Joint.{Joint}
use Rattle.conditions.specs.declared.entries.Entry.{Entry}
use Rattle.std.specs.Borrow.{Bor}
use Rattle.conditions.specs.declared.formulas.Parts.{Parts}
use Rattle.conditions.specs.declared.formulas.Parts.TheVariants as parts
use Rattle.conditions.specs.Formulas.{Formula, says, deny, enclosed, join, counted}
use Rattle.conditions.specs.Entries.{entries_of}

-- these are a condition's parts
unfoldable pub IsParted : Formula → Option Parts → Type 0
IsParted (says a) (Some (parts.Says b)) = b.now ≡ a
IsParted (deny f) (Some (parts.Not entries)) = entries.now ≡ entries_of f
IsParted (enclosed f) (Some (parts.Enclosed entries)) = entries.now ≡ entries_of f
IsParted (join j f g) (Some (parts.Joined joint first second)) =
    (joint ≡ j) × (first.now ≡ entries_of f) × (second.now ≡ entries_of g)
IsParted (counted f c n) (Some (parts.Counted entries comparison number)) =
    (entries.now ≡ entries_of f) × (comparison ≡ c) × (number ≡ n)
IsParted _ _ = ⊥

-- each part has fewer entries than this
abbrev pub AreShorter : Parts → ℕ → Type 0
AreShorter (parts.Says a) limit = Unit {0}
AreShorter (parts.Not entries) limit = length entries.now < limit
AreShorter (parts.Enclosed entries) limit = length entries.now < limit
AreShorter (parts.Joined joint first second) limit =
    (length first.now < limit) × (length second.now < limit)
AreShorter (parts.Counted entries comparison number) limit = length entries.now < limit

-- the two parts of entries, of which the second has so many
unfoldable pub AreTwo : List Entry → Joint → ℕ → Option Parts → Type 0
AreTwo entries joint second None = length entries < second
AreTwo entries joint second (Some (parts.Joined j one other)) =
    (second ≤ length entries) × (j ≡ joint) × (one.now ≡ take (length entries - second) entries)
    × (other.now ≡ drop (length entries - second) entries)
AreTwo entries joint second _ = ⊥

-- these are the two parts of a condition that is joined; there are none of another
unfoldable pub IsJoined : Formula → Option (Joint × Bor (List Entry) × Bor (List Entry)) → Type 0
IsJoined (join j f g) (Some parts) =
    (parts.0 ≡ j) × (parts.1.now ≡ entries_of f) × (parts.2.now ≡ entries_of g)
IsJoined (join j f g) None = ⊥
IsJoined _ (Some parts) = ⊥
IsJoined _ None = Unit {0}
