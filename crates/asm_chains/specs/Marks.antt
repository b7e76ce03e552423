-- Symbols that were met.
use Rattle.std.specs.Prelude.{◌≡◌, ℕ, ◌<◌, Bool, true, false, ◌==◌, List, length}
use Rattle.std.specs.Prelude.{slice_index_or, slice_set}
use Rattle.std.specs.List.{list_any}
use Rattle.asm_chains.specs.Scenes.{SceneParts}

-- a mark for each symbol, which says whether it was met
abbrev pub is_marked : List Bool → ℕ → Bool
is_marked met symbol = slice_index_or met symbol true

-- a symbol that is there and wasn't met is marked
abbrev pub Meets : Bool → List Bool → List Bool → ℕ → Type 0
Meets true old new symbol = (is_marked old symbol ≡ false) × (new ≡ slice_set old symbol true)
Meets false old new symbol = is_marked old symbol ≡ true

-- just those on the way are marked, and what isn't there
abbrev pub IsMarked : SceneParts → List ℕ → List Bool → Type 0
IsMarked scene way met =
    (length met ≡ length scene.symbols)
    × ((symbol : ℕ) → symbol < length scene.symbols
    → is_marked met symbol ≡ list_any (λ n. n == symbol) way)
