-- A name for `unfolding(..)` that opens what a file's functions need.
use Rattle.std.specs.Prelude.{Bool, ℕ}
use Rattle.conditions.specs.declared.parts.Holder.{Holder}
use Rattle.hart_symmetry.specs.Named.{holder_names}
use Rattle.named_items.specs.NamedItems.{item_names}

unfoldable pub named : Holder → ℕ → Bool
unfolding holder_names item_names
named holder hart = holder_names holder hart
