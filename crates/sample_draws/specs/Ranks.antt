-- The ranks of harts: the least goes first. A rank has a place for each hart that an image may
-- have; those past the image's harts are never looked at.
use Rattle.std.specs.Prelude.{ℕ, ◌+◌, ◌==◌, nat_lt, zero, suc, Bool, false, if◌then◌else◌, List, []}
use Rattle.std.specs.Prelude.{◌∷◌, fold, replicate, slice_index, slice_index_or, slice_set, swap}
use Rattle.std.specs.Prelude.{Option, Some, None, unwrap_or}
use Rattle.cheri_model.specs.declared.image.TheConstants.{MAX_HARTS}
use Rattle.sample_draws.specs.Words.{drawn}

-- at first each hart has its number as its rank
abbrev pub first_ranks : List ℕ
first_ranks = 0 ∷ 1 ∷ 2 ∷ 3 ∷ 4 ∷ 5 ∷ 6 ∷ 7 ∷ []

-- The ranks at the places from this one down to 1 are exchanged, each with that of a place that is
-- drawn from those up to it.
unfoldable pub shuffled : ℕ → List ℕ → List ℕ → List ℕ × List ℕ
shuffled zero ranks words = (ranks, words)
shuffled (suc place) ranks words =
    let other = drawn (suc place + 1) words in
    shuffled place (swap ranks (suc place) other.0) other.1

-- so many numbers below `length`, and the generator after them
unfoldable pub drawn_places : ℕ → ℕ → List ℕ → List ℕ × List ℕ
drawn_places zero length words = ([], words)
drawn_places (suc count) length words =
    let place = drawn length words in
    let more = drawn_places count length place.1 in
    (place.0 ∷ more.0, more.1)

-- nobody waits
abbrev pub nobody : List Bool
nobody = replicate MAX_HARTS false

-- of a hart and the best so far, the one of lesser rank; a hart that waits is passed over
abbrev pub better_of : List ℕ → Option ℕ → ℕ → Option ℕ
better_of ranks None hart = Some hart
better_of ranks (Some best) hart =
    if nat_lt (slice_index ranks hart) (slice_index ranks best) then Some hart else Some best

abbrev pub better : List ℕ → List Bool → Option ℕ → ℕ → Option ℕ
better ranks waiting best hart =
    if slice_index_or waiting hart false then best else better_of ranks best hart

-- the hart of the least rank among those that don't wait
unfoldable pub least : List ℕ → List Bool → List ℕ → Option ℕ
least ranks waiting harts = fold (better ranks waiting) None harts

abbrev pub or_least : Option ℕ → List ℕ → List ℕ → ℕ
or_least (Some hart) ranks harts = hart
or_least None ranks harts = unwrap_or (least ranks nobody harts) 0

-- the hart that steps: of those that run and don't wait; where all wait, of those that run
unfoldable pub first : List ℕ → List Bool → List ℕ → ℕ
first ranks waiting running = or_least (least ranks waiting running) ranks running

-- The ranks after the change points, the first of which has this number: at each that is the place
-- of this step, the hart that would step gets a rank past those of all harts.
unfoldable pub changed_ranks : ℕ → ℕ → List Bool → List ℕ → ℕ → List ℕ → List ℕ → List ℕ
changed_ranks steps harts waiting running number [] ranks = ranks
changed_ranks steps harts waiting running number (place ∷ places) ranks =
    changed_ranks steps harts waiting running (number + 1) places
    (if place == steps then slice_set ranks (first ranks waiting running) (harts + number)
    else ranks)
