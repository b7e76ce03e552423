-- The order of chunks: section by section, and in each in the order of the files.
use Rattle.std.specs.Prelude.{ℕ, zero, suc, List, [], ◌∷◌, ◌++◌, slice_index_or}
use Rattle.std.specs.Prelude.{Option, Some, None, Vec}
use Rattle.std.specs.Global.{Global}

-- the chunks of a file by their sections
abbrev pub row_items : Vec (Option ℕ) Global → List (Option ℕ)
row_items row = row.items

-- a number or none
abbrev pub if_some : Option ℕ → List ℕ
if_some (Some number) = number ∷ []
if_some None = []

-- the chunks of a section, in the order of the files, of which each has a row of its chunks
unfoldable pub of_section : ℕ → List (List (Option ℕ)) → List ℕ
of_section section [] = []
of_section section (row ∷ rows) =
    if_some (slice_index_or row section None) ++ of_section section rows

-- the chunks of so many sections, in the order of these
unfoldable pub section_order : ℕ → List (List (Option ℕ)) → List ℕ
section_order zero rows = []
section_order (suc section) rows = section_order section rows ++ of_section section rows
