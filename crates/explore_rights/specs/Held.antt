-- What rights are held, and whether a step keeps them.
use Rattle.std.specs.Prelude.{◌≡◌, ℕ, List, ◌∷◌, slice_get, Some, Bool, true, ◌&&◌, if◌then◌else◌}
use Rattle.std.specs.List.{list_all, list_any}
use Rattle.cap_model.specs.values.CapValue.{CapValue, tag_of}
use Rattle.cheri_model.specs.steps.Hart.{HartState}
use Rattle.explore_rights.specs.declared.rights.Rights.{Rights}
use Rattle.explore_rights.specs.Rights.{rights_of, is_within}

-- what a hart holds, in its PCC and registers
abbrev pub held_by : HartState → List CapValue
held_by hart = hart.pcc ∷ hart.regs

-- a tagged one of the values has just these rights
abbrev pub Holds : List CapValue → Rights → Type 0
Holds values rights =
    (k : ℕ) × (v : CapValue) × (slice_get values k ≡ Some v) × (tag_of v ≡ true)
    × (rights_of v ≡ rights)

-- a tagged value, within the rights of which others lie
unfoldable pub bounds : Rights → CapValue → Bool
bounds rights v = tag_of v && is_within rights (rights_of v)

-- the value is untagged, or its rights lie within those of a tagged one of the others
unfoldable pub is_kept : List CapValue → CapValue → Bool
is_kept others v = if tag_of v then list_any (bounds (rights_of v)) others else true

-- each right that the hart held before lies within one that it holds after
unfoldable pub keeps_rights : HartState → HartState → Bool
keeps_rights before after = list_all (is_kept (held_by after)) (held_by before)
