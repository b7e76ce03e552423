-- Quiet steps of actors, in any graph where an actor has one step in a state. Which steps are quiet
-- is a test of the state and the actor. Labels below the number of actors are theirs.
use Rattle.std.specs.Prelude.{ℕ, zero, suc, nat_lt, Bool, true, ◌&&◌, if◌then◌else◌}
use Rattle.std.specs.Prelude.{Option, Some, None, unwrap_or}

-- where at most so many quiet steps of an actor lead, if it has no more of them
unfoldable pub come : {S : Type 0} → (S → ℕ → S) → (S → ℕ → Bool) → ℕ → ℕ → S → Option S
come step quiet actor zero s = if quiet s actor then None else Some s
come step quiet actor (suc k) s =
    if quiet s actor then come step quiet actor k (step s actor) else Some s

-- The state with an actor at its rest: after its quiet steps, where there are at most so many.
-- Where there are more, it rests where it is.
unfoldable pub rest_one : {S : Type 0} → (S → ℕ → S) → (S → ℕ → Bool) → ℕ → ℕ → S → S
rest_one step quiet most actor s = unwrap_or (come step quiet actor most s) s

-- the state with the first actors at their rest: each goes there from where the one before left
unfoldable pub rest_first : {S : Type 0} → (S → ℕ → S) → (S → ℕ → Bool) → ℕ → ℕ → S → S
rest_first step quiet most zero s = s
rest_first step quiet most (suc i) s =
    rest_one step quiet most i (rest_first step quiet most i s)

-- the state with those at their rest that a label's edge may have taken from there: its actor, or
-- all where it is of none
unfoldable pub rest_after : {S : Type 0} → (S → ℕ → S) → (S → ℕ → Bool) → ℕ → ℕ → ℕ → S → S
rest_after step quiet most actors label s =
    if nat_lt label actors then rest_one step quiet most label s
    else rest_first step quiet most actors s

-- how many quiet steps an actor has, and at most so many
unfoldable pub steps_to_rest : {S : Type 0} → (S → ℕ → S) → (S → ℕ → Bool) → ℕ → ℕ → S → ℕ
steps_to_rest step quiet actor zero s = 0
steps_to_rest step quiet actor (suc k) s =
    if quiet s actor then suc (steps_to_rest step quiet actor k (step s actor)) else 0

-- each quiet step of an actor passes a test: so many, and the one after them
unfoldable pub way_passes : {S : Type 0} → (S → ℕ → S) → (S → ℕ → Bool) → (S → ℕ → Bool) → ℕ → ℕ → S
    → Bool
way_passes step quiet passes actor zero s = if quiet s actor then passes s actor else true
way_passes step quiet passes actor (suc k) s =
    if quiet s actor
    then passes s actor && way_passes step quiet passes actor k (step s actor) else true

-- so do those of the first actors on the way to their rest
unfoldable pub ways_pass : {S : Type 0} → (S → ℕ → S) → (S → ℕ → Bool) → (S → ℕ → Bool) → ℕ → ℕ → S
    → Bool
ways_pass step quiet passes most zero s = true
ways_pass step quiet passes most (suc i) s =
    ways_pass step quiet passes most i s
    && way_passes step quiet passes i most (rest_first step quiet most i s)

-- so do those after a label's edge
unfoldable pub after_passes : {S : Type 0} → (S → ℕ → S) → (S → ℕ → Bool) → (S → ℕ → Bool) → ℕ → ℕ
    → ℕ → S → Bool
after_passes step quiet passes most actors label s =
    if nat_lt label actors then way_passes step quiet passes label most s
    else ways_pass step quiet passes most actors s

-- both tests
abbrev pub together : {S : Type 0} → (S → ℕ → Bool) → (S → ℕ → Bool) → S → ℕ → Bool
together one two s actor = one s actor && two s actor

-- the edges whose state and label pass a test
unfoldable pub passing_next : {S : Type 0} → (S → ℕ → Option S) → (S → ℕ → Bool) → S → ℕ → Option S
passing_next next passes s l = if passes s l then next s l else None
