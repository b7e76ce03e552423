-- the labels so far, and then those of the symbols that are left
use Rattle.std.proofs.Common.{◌≡◌, ◌<◌, ℕ, None, length, drop, get_or, map}
use Rattle.asm_symbols.specs.Definitions.{definition_parts}
use Rattle.asm_symbols.specs.Names.{first_of}
use Rattle.asm_places.specs.Places.{places_parts}
use Rattle.asm_labels.specs.Labels.{first_label}
use Rattle.asm_labels.proofs.labels.first_labels.Given as goal

abbrev pub invariant-loop-number : goal.invariant-loop-number
invariant-loop-number l =
    (length l.firsts.items ≡ l.count)
    × ((n : ℕ) → n < l.count →
    first_of (get_or l.firsts.items n None) (first_label (places_parts l.places) n l.number (map definition_parts (drop l.number l.symbols)))
    ≡ first_label (places_parts l.places) n 0 (map definition_parts l.symbols))
