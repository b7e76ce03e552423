-- The faulty lines of a listing, each with its fault.
use Rattle.std.specs.Prelude.{ℕ, ◌==◌, Bool, true, false, if◌then◌else◌, List, [], ◌∷◌, ◌++◌}
use Rattle.std.specs.Prelude.{zero, suc, Option, Some, None, Result, Ok, Err}
use Rattle.cheri_model.specs.runs.Image.{ImageParts}
use Rattle.grammar.specs.Lines.{lines_of}
use Rattle.grammar.specs.declared.fault.ListingFaultKind.{ListingFaultKind}
use Rattle.grammar.specs.declared.fault.ListingFaultKind.TheVariants.{NoMemory}
use Rattle.listings.specs.Meaning.{listing_meaning}
use Rattle.listings.specs.declared.fault.ListingFault.{ListingFault}
use Rattle.listing_faults.specs.declared.faults.TheConstants.{MOST_READINGS}
use Rattle.listing_faults.specs.Lines.{text_of, without}

-- out of memory, which says nothing of a listing
abbrev pub is_no_memory : ListingFaultKind → Bool
is_no_memory NoMemory = true
is_no_memory _ = false

-- the fault of a line that a listing has
abbrev pub line_fault : Result ImageParts ListingFault → Option ListingFault
line_fault (Ok image) = None
line_fault (Err fault) = if fault.line == 0 then None else Some fault

-- a line is told once
abbrev pub told : ℕ → ListingFault → List ListingFault
told last fault = if fault.line == last then [] else fault ∷ []

-- a fault, and those that are found after it
abbrev pub and_more : ℕ → (ℕ → List ListingFault) → Option ListingFault → List ListingFault
and_more last more None = []
and_more last more (Some fault) = told last fault ++ more fault.line

-- what at most so many readings find in lines, where the line of this number was told last
unfoldable pub faults_from : ℕ → ℕ → List (List ℕ) → List ListingFault
faults_from zero last lines = []
faults_from (suc most) last lines =
    and_more last (λ number. faults_from most number (without last number lines))
    (line_fault (listing_meaning (text_of lines)))

-- Each faulty line of a listing with its fault, as far as so many readings find it: the first, and
-- those of the listing in which something else stands for each line that was told.
abbrev pub faults_of : List ℕ → List ListingFault
faults_of text = faults_from MOST_READINGS 0 (lines_of text)
