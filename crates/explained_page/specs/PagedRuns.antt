-- The page of the run of two texts.
use Rattle.std.specs.Prelude.{◌≡◌, ℕ, Bool, true, false, List, length, Option}
use Rattle.std.specs.Io.KnownBytes.{Appends}
use Rattle.cheri_model.specs.runs.Replay.{operations_of}
use Rattle.listings.specs.LineNumbers.{instruction_lines_of}
use Rattle.cores.specs.Cores.{CoreParts}
use Rattle.cores.specs.Runs.{Run}
use Rattle.explanations.specs.declared.selection.Selection.{Selection}
use Rattle.explanations.specs.declared.selection.Filter.TheVariants.{All}
use Rattle.explained_page.specs.Page.{page_of, is_too_long}
use Rattle.explained_page.specs.declared.runs.PageEnd.{PageEnd}
use Rattle.explained_page.specs.declared.runs.PageEnd.TheVariants.{Written, TooLong}

-- each event of a range
abbrev pub range : ℕ → ℕ → Selection
range first last = record { first = first; last = last; filter = All }

-- the page of what a core of a listing took, from event `first` to `last`
unfoldable pub core_page : List ℕ → ℕ → ℕ → CoreParts → List ℕ
core_page listing first last core =
    page_of core.image listing (instruction_lines_of listing) (range first last)
    (operations_of core.trace)

-- of a run: its core took the longest good prefix of the order
abbrev pub paged : List ℕ → ℕ → ℕ → Run → List ℕ
paged listing first last run = core_page listing first last run.0

abbrev pub is_unpaged : ℕ → ℕ → Run → Bool
is_unpaged first last run = is_too_long first last (length run.0.trace)

-- the page of a run was written, which ended so; or it has too many events, and nothing was
abbrev pub IsPageEnd : List ℕ → ℕ → ℕ → Run → Option (List ℕ) → Option (List ℕ) → PageEnd → Type 0
IsPageEnd listing first last run old new (Written stop) =
    (is_unpaged first last run ≡ false) × (run.1 ≡ stop)
    × Appends old new (paged listing first last run)
IsPageEnd listing first last run old new TooLong =
    (is_unpaged first last run ≡ true) × (new ≡ old)
