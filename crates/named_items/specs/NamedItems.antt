-- The harts that items name by their numbers.
use Rattle.std.specs.Prelude.{ℕ, ◌==◌, Bool, false, List}
use Rattle.std.specs.List.{list_any}
use Rattle.conditions.specs.declared.parts.Place.TheVariants as place
use Rattle.conditions.specs.declared.parts.Shown.{Shown}
use Rattle.conditions.specs.declared.parts.Shown.TheVariants as shown
use Rattle.hart_symmetry.specs.Named.{holder_names}

-- a hart is named where its register, its PCC or its status is shown
unfoldable pub item_names : Shown → ℕ → Bool
item_names (shown.Number (place.Value held read)) hart = holder_names held hart
item_names (shown.Number (place.Data addr width)) hart = false
item_names (shown.Status named) hart = hart == named

-- what items name
unfoldable pub items_name : List Shown → ℕ → Bool
items_name items hart = list_any (λ item. item_names item hart) items
