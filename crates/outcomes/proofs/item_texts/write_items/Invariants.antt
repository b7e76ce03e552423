-- the items so far are written
use Rattle.std.proofs.Common.{◌≡◌, ◌++◌, drop, map, string_bytes}
use Rattle.outcomes.specs.ItemTexts.{items_text}
use Rattle.outcomes.proofs.item_texts.write_items.Given as goal

abbrev pub invariant-loop-place : goal.invariant-loop-place
invariant-loop-place l =
    string_bytes l.out ++ items_text (map (λ name. name.now) (drop l.place l.names)) (drop l.place l.values)
    ≡ string_bytes l.initial.out ++ items_text (map (λ name. name.now) l.names) l.values
