-- Places in a file: lines and columns from 1, columns in bytes.
use Rattle.std.specs.Prelude.{ℕ, ◌+◌, ◌==◌, if◌then◌else◌, List, fold}
use Rattle.asm_tokens.specs.declared.place.Place.{Place}

abbrev pub start : Place
start = record { line = 1; column = 1 }

-- the place after a byte
abbrev pub after_byte : Place → ℕ → Place
after_byte place b =
    if b == 0x0A then record { line = place.line + 1; column = 1 }
    else record { line = place.line; column = place.column + 1 }

-- the place after these bytes
unfoldable pub place_after : Place → List ℕ → Place
place_after place bytes = fold after_byte place bytes
