-- Lists of items.
use Rattle.std.specs.Prelude.{ℕ, List, map}
use Rattle.conditions.specs.declared.parts.Shown.{Shown}
use Rattle.conditions.specs.declared.items.Items.{Items}

-- the items of a list: their texts, and what each shows
pub record ItemList : Type 0 where
  pub names : List (List ℕ)
  pub shown : List Shown

-- a list of items in memory
abbrev pub list_of : Items → ItemList
list_of items =
    record { names = map (λ name. name.now) items.names.items; shown = items.shown.items }
