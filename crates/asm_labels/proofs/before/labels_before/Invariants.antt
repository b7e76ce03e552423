-- the labels so far, and the last one
use Rattle.std.proofs.Common.{◌≡◌, ◌<◌, ◌+◌, ℕ, None, length, get_or, map}
use Rattle.asm_symbols.specs.Definitions.{definition_parts}
use Rattle.asm_places.specs.Places.{places_parts}
use Rattle.asm_labels.specs.Before.{last_label}
use Rattle.asm_labels.proofs.before.labels_before.Given as goal

abbrev pub invariant-loop-number : goal.invariant-loop-number
invariant-loop-number l =
    (length l.labels.items ≡ l.number)
    × (l.before ≡ last_label (places_parts l.places) (map definition_parts l.symbols) l.number)
    × ((n : ℕ) → n < l.number →
    get_or l.labels.items n None ≡ last_label (places_parts l.places) (map definition_parts l.symbols) (n + 1))
