-- A name for `unfolding(..)` that opens what its own line names.
use Rattle.std.specs.Prelude.{ℕ, List, [], ◌∷◌}
use Rattle.listing_faults.specs.Lines.{stand_in, text_of, without}

unfoldable pub lines : ℕ → List (List ℕ) → List ℕ
unfolding stand_in text_of without
lines number all = text_of (without number number (stand_in (text_of all) ∷ []))
