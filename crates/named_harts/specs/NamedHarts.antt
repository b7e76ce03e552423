-- Sets of the harts that the parts of a condition name.
use Rattle.std.specs.Prelude.{◌≡◌, ℕ, ◌<◌, Bool, true, false, List, [], ◌∷◌, slice_index_or}
use Rattle.conditions.specs.Formulas.{Formula}
use Rattle.hart_symmetry.specs.Named.{formula_names}
use Rattle.named_harts.specs.declared.named.Part.{Part}

-- a set says of each hart, by its number, whether it is in the set
abbrev pub has : List Bool → ℕ → Bool
has set hart = slice_index_or set hart false

-- the harts that are named, of as many as a machine has
abbrev pub IsSetOf : (ℕ → Bool) → List Bool → Type 0
IsSetOf names set = (hart : ℕ) → hart < 8 → has set hart ≡ names hart

-- what a part of a condition names outside of all counts, and within one
unfoldable pub Tells : Part → Formula → Type 0
Tells part formula =
    IsSetOf (formula_names false formula) part.outside
    × IsSetOf (formula_names true formula) part.within

-- a part for each part of the condition that waits for its node, the last one first
unfoldable pub AreSetsOf : List Formula → List Part → Type 0
AreSetsOf [] [] = Unit {0}
AreSetsOf (formula ∷ formulas) (part ∷ parts) = Tells part formula × AreSetsOf formulas parts
AreSetsOf [] (part ∷ parts) = ⊥
AreSetsOf (formula ∷ formulas) [] = ⊥
