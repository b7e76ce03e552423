-- Walks by turns with each of their steps.
use Rattle.std.specs.Prelude.{ℕ, zero, suc, nat_lt, Bool, List, [], ◌∷◌, ◌++◌, replicate}
use Rattle.std.specs.Prelude.{Option, Some, None, unwrap_or, if◌then◌else◌}
use Rattle.own_granules.specs.Rests.{come, rest_first, rest_after, steps_to_rest}

-- so many, where a way comes to an end, and none where its actor rests where it is
abbrev pub if_it_ends : {S : Type 0} → Option S → ℕ → ℕ
if_it_ends None count = 0
if_it_ends (Some s) count = count

-- the labels of the quiet steps that bring an actor to its rest
unfoldable pub way_labels : {S : Type 0} → (S → ℕ → S) → (S → ℕ → Bool) → ℕ → ℕ → S → List ℕ
way_labels step quiet most actor s =
    replicate
    (if_it_ends (come step quiet actor most s) (steps_to_rest step quiet actor most s)) actor

-- those that bring the first actors there
unfoldable pub rest_labels : {S : Type 0} → (S → ℕ → S) → (S → ℕ → Bool) → ℕ → ℕ → S → List ℕ
rest_labels step quiet most zero s = []
rest_labels step quiet most (suc i) s =
    rest_labels step quiet most i s
    ++ way_labels step quiet most i (rest_first step quiet most i s)

-- those after a label's edge
unfoldable pub after_labels : {S : Type 0} → (S → ℕ → S) → (S → ℕ → Bool) → ℕ → ℕ → ℕ → S → List ℕ
after_labels step quiet most actors label s =
    if nat_lt label actors then way_labels step quiet most label s
    else rest_labels step quiet most actors s

-- the labels of turns, each followed by those of its quiet steps
unfoldable pub turn_labels : {S : Type 0} → (S → ℕ → Option S) → (S → ℕ → S) → (S → ℕ → Bool) → ℕ
    → ℕ → S → List ℕ → List ℕ
turn_labels next step quiet most actors s [] = []
turn_labels next step quiet most actors s (l ∷ ls) =
    let t = unwrap_or (next s l) s in
    l ∷ (after_labels step quiet most actors l t
    ++ turn_labels next step quiet most actors (rest_after step quiet most actors l t) ls)
