-- What is chosen may be taken: a step of a hart that runs, or a sweep of a range.
use Rattle.std.proofs.Common.{◌≡◌, ℕ, ◌+◌, ◌*◌, ◌^◌, ◌<◌, ◌≤◌, nat_lt, zero, suc, Bool, true, false, cond, List, [], ◌∷◌, length, get_or, drop, fold, Option, Some, None, refl, inl, inr, arith, rules}
use Rattle.std.proofs.lemmas.Bool.{and_parts, and_from, cases_lt, false≢true}
use Rattle.std.proofs.lemmas.Bool.Decides.{nat_tests}
use Rattle.std.proofs.lemmas.List.{at_drop_more, at_drop_all}
use Rattle.std.proofs.lemmas.Nat.{div_below}
use Rattle.cheri_model.specs.runs.Machine.{MachineState, may_take, hart_at, is_running, no_hart}
use Rattle.cheri_model.specs.runs.Sweeps.{is_range}
use Rattle.cheri_model.specs.declared.operation.Op.{Op}
use Rattle.cheri_model.specs.declared.operation.Op.TheVariants as operation
use Rattle.schedules.specs.declared.ranges.SweepRange.{SweepRange}
use Rattle.schedules.specs.Schedules.{sweep_of}
use Rattle.sample_draws.specs.Words.{next_word, share}
use Rattle.sample_draws.specs.Drawings.{are_ranges}
use Rattle.sample_draws.specs.Ranks.{nobody, better_of, better, least, or_least, first}
use Rattle.sample_draws.specs.Priorities.{PriorityParts, after_changes, first_of}
use Rattle.sample_draws.specs.Draws.{DrawParts, operation_word, needs_word, is_sweep_word, no_range, swept_range, stepping, chosen_by, chosen}
use Rattle.sample_draws.specs.Orders.{running_from, running_harts, is_over}

-- a number below a count that a word draws
pub share_below : (word count : ℕ) → word < 2 ^ 64 → 0 < count → share word count < count
unfolding share
share_below word count h some =
    div_below (word * count) (2 ^ 64) count (omega arith) (grind arith)

pub word_below : (words : List ℕ) → (next_word words).0 < 2 ^ 64
unfolding next_word
word_below words = omega arith

pub operation_word_below : (sweeps : List SweepRange) (draws : DrawParts)
    → (operation_word sweeps draws).0 < 2 ^ 64
unfolding operation_word
operation_word_below sweeps draws =
    elim (needs_word sweeps draws.priorities) as (λ b. (cond b (next_word draws.words) (0, draws.words)).0 < 2 ^ 64) [
      | true ↦ word_below draws.words
      | false ↦ omega arith
    ]

-- what holds of each number of a list
pub Each : (ℕ → Type 0) → List ℕ → Type 0
Each P [] = Unit {0}
Each P (x ∷ xs) = P x × Each P xs

pub each_at : (P : ℕ → Type 0) (xs : List ℕ) (k : ℕ) → Each P xs → k < length xs → P (get_or xs k 0)
unfolding Each
each_at P [] k each h = absurd (omega arith)
each_at P (x ∷ xs) zero each h = each.0
each_at P (x ∷ xs) (suc k) each h = each_at P xs k each.1 (omega arith)

-- a step of a hart may be taken
pub MayStep : MachineState → ℕ → Type 0
MayStep state hart = may_take state (operation.Step hart) ≡ true

may_step : (state : MachineState) (hart : ℕ) → hart < length state.harts
    → is_running (get_or state.harts hart no_hart).status ≡ true → MayStep state hart
unfolding MayStep may_take hart_at
may_step state hart h runs = and_from _ _ (grind (arith, nat_tests)) runs

running_one : (P : ℕ → Type 0) (b : Bool) (i : ℕ) (rest : List ℕ) → (b ≡ true → P i) → Each P rest
    → Each P (cond b (i ∷ rest) rest)
unfolding Each
running_one P true i rest here each = (here refl, each)
running_one P false i rest here each = each

running_each : (state : MachineState) (left i : ℕ) → length state.harts ≤ i + left
    → Each (MayStep state) (running_from i (drop i state.harts))
unfolding running_from Each
running_each state zero i h =
    rw (at_drop_all (running_from i) state.harts i (omega arith)) tt
running_each state (suc left) i h =
    elim (cases_lt i (length state.harts)) [
      | inl below ↦
          rw (at_drop_more (running_from i) state.harts i no_hart below)
          (running_one (MayStep state) (is_running (get_or state.harts i no_hart).status) i
          (running_from (i + 1) (drop (i + 1) state.harts))
          (may_step state i below) (running_each state left (i + 1) (omega arith)))
      | inr past ↦ rw (at_drop_all (running_from i) state.harts i past) tt
    ]

-- each of the harts that run may step
pub running_may_step : (state : MachineState) → Each (MayStep state) (running_harts state)
unfolding running_harts
running_may_step state = running_each state (length state.harts) 0 (omega arith)

-- a hart is found, and this holds of it
Holds : (ℕ → Type 0) → Option ℕ → Type 0
Holds P None = ⊥
Holds P (Some hart) = P hart

-- if one is found, this holds of it
Held : (ℕ → Type 0) → Option ℕ → Type 0
Held P None = Unit {0}
Held P (Some hart) = P hart

better_holds : (P : ℕ → Type 0) (b : Bool) (x best : ℕ) → P x → P best → Holds P (cond b (Some x) (Some best))
unfolding Holds
better_holds P true x best here there = here
better_holds P false x best here there = there

nobody_waits : (x : ℕ) → get_or nobody x false ≡ false
nobody_waits x = search rules

-- among harts of which nobody waits one is found
found_holds : (P : ℕ → Type 0) (ranks xs : List ℕ) (best : ℕ) → P best → Each P xs
    → Holds P (fold (better ranks nobody) (Some best) xs)
unfolding Each Holds
found_holds P ranks [] best there each = there
found_holds P ranks (x ∷ xs) best there each =
    rw (nobody_waits x)
    (elim (nat_lt (get_or ranks x 0) (get_or ranks best 0)) as (λ b. Holds P (fold (better ranks nobody) (cond b (Some x) (Some best)) xs)) [
      | true ↦ found_holds P ranks xs x each.0 each.1
      | false ↦ found_holds P ranks xs best there each.1
    ])

least_holds : (P : ℕ → Type 0) (ranks xs : List ℕ) → 0 < length xs → Each P xs → Holds P (least ranks nobody xs)
unfolding least Each
least_holds P ranks [] h each = absurd (omega arith)
least_holds P ranks (x ∷ xs) h each =
    rw (nobody_waits x) (found_holds P ranks xs x each.0 each.1)

-- whoever waits, this holds of the hart that is found
held_step : (P : ℕ → Type 0) (ranks : List ℕ) (w : Bool) (best : Option ℕ) (x : ℕ) → P x → Held P best
    → Held P (cond w best (better_of ranks best x))
unfolding Held
held_step P ranks true best x here held = held
held_step P ranks false None x here held = here
held_step P ranks false (Some best) x here held =
    elim (nat_lt (get_or ranks x 0) (get_or ranks best 0)) as (λ b. Held P (cond b (Some x) (Some best))) [
      | true ↦ here
      | false ↦ held
    ]

held : (P : ℕ → Type 0) (ranks : List ℕ) (waiting : List Bool) (xs : List ℕ) (best : Option ℕ) → Held P best
    → Each P xs → Held P (fold (better ranks waiting) best xs)
unfolding Each
held P ranks waiting [] best there each = there
held P ranks waiting (x ∷ xs) best there each =
    held P ranks waiting xs (better ranks waiting best x)
    (held_step P ranks (get_or waiting x false) best x each.0 there) each.1

or_least_holds : (P : ℕ → Type 0) (ranks xs : List ℕ) (found : Option ℕ) → Held P found
    → Holds P (least ranks nobody xs) → P (or_least found ranks xs)
unfolding Held Holds
or_least_holds P ranks xs (Some hart) there nobody_there = there
or_least_holds P ranks xs None there nobody_there =
    unwrapped P (least ranks nobody xs) nobody_there
  where
    unwrapped : (P : ℕ → Type 0) (found : Option ℕ) → Holds P found → P (Rattle.std.specs.Prelude.unwrap_or found 0)
    unwrapped P None h = absurd h
    unwrapped P (Some hart) h = h

-- what holds of all that run holds of the first
pub first_holds : (P : ℕ → Type 0) (ranks : List ℕ) (waiting : List Bool) (xs : List ℕ) → 0 < length xs
    → Each P xs → P (first ranks waiting xs)
unfolding first least Held
first_holds P ranks waiting xs some each =
    or_least_holds P ranks xs (least ranks waiting xs) (held P ranks waiting xs None tt each)
    (least_holds P ranks xs some each)

-- the hart that steps is one of those that run
stepping_holds : (P : ℕ → Type 0) (word : ℕ) (xs : List ℕ) (p : Option PriorityParts) → word < 2 ^ 64
    → 0 < length xs → Each P xs → P (stepping word xs p)
unfolding first_of
stepping_holds P word xs None below some each =
    each_at P xs (share word (length xs)) each (share_below word (length xs) below some)
stepping_holds P word xs (Some p) below some each =
    let q = after_changes xs p in first_holds P q.ranks q.waiting xs some each

-- the range that is swept is one of those that may be
ranges_at : (ranges : List SweepRange) (k : ℕ) → are_ranges ranges ≡ true → k < length ranges
    → is_range (get_or ranges k no_range).lo (get_or ranges k no_range).hi ≡ true
unfolding are_ranges
ranges_at [] k are h = absurd (omega arith)
ranges_at (r ∷ rs) zero are h = (and_parts (is_range r.lo r.hi) (are_ranges rs) are).0
ranges_at (r ∷ rs) (suc k) are h =
    ranges_at rs k (and_parts (is_range r.lo r.hi) (are_ranges rs) are).1 (omega arith)

swept_range_is : (word : ℕ) (ranges : List SweepRange) → word < 2 ^ 64 → are_ranges ranges ≡ true
    → 0 < length ranges
    → is_range (swept_range word ranges).lo (swept_range word ranges).hi ≡ true
unfolding swept_range
swept_range_is word ranges below are some =
    ranges_at ranges (share word (length ranges)) are (share_below word (length ranges) below some)

sweep_word_some : (word one_in : ℕ) (ranges : List SweepRange) → is_sweep_word word one_in ranges ≡ true
    → 0 < length ranges
sweep_word_some word one_in [] is = absurd (false≢true is)
sweep_word_some word one_in (r ∷ rs) is = omega arith

either_may : (state : MachineState) (b : Bool) (range : SweepRange) (hart : ℕ) (swept stepped : DrawParts)
    → (b ≡ true → may_take state (sweep_of range) ≡ true) → may_take state (operation.Step hart) ≡ true
    → may_take state (cond {A = Op × DrawParts} b (sweep_of range, swept) (operation.Step hart, stepped)).0 ≡ true
either_may state true range hart swept stepped may steps = may refl
either_may state false range hart swept stepped may steps = steps

sweep_may : (state : MachineState) (range : SweepRange) → is_range range.lo range.hi ≡ true
    → may_take state (sweep_of range) ≡ true
unfolding may_take
sweep_may state range is = is

step_may : (state : MachineState) (hart : ℕ) → MayStep state hart → may_take state (operation.Step hart) ≡ true
unfolding MayStep
step_may state hart may = may

chosen_by_may : (state : MachineState) (word : ℕ) (sweeps : List SweepRange) (xs : List ℕ) (draws : DrawParts)
    → word < 2 ^ 64 → are_ranges sweeps ≡ true → 0 < length xs → Each (MayStep state) xs
    → may_take state (chosen_by word sweeps xs draws).0 ≡ true
unfolding chosen_by
chosen_by_may state word sweeps xs draws below are some each =
    either_may state (is_sweep_word word draws.one_in sweeps) (swept_range word sweeps)
    (stepping word xs draws.priorities) _ _
    (λ is. sweep_may state (swept_range word sweeps)
    (swept_range_is word sweeps below are (sweep_word_some word draws.one_in sweeps is)))
    (step_may state (stepping word xs draws.priorities)
    (stepping_holds (MayStep state) word xs draws.priorities below some each))

some_run : (state : MachineState) → is_over state ≡ false → 0 < length (running_harts state)
some_run state is = grind (arith, nat_tests)

-- what is chosen where a hart runs may be taken
pub chosen_may : (state : MachineState) (sweeps : List SweepRange) (draws : DrawParts)
    → are_ranges sweeps ≡ true → is_over state ≡ false
    → may_take state (chosen sweeps (running_harts state) draws).0 ≡ true
unfolding chosen
chosen_may state sweeps draws are over =
    let word = operation_word sweeps draws in
    chosen_by_may state word.0 sweeps (running_harts state) (record draws { words = word.1 })
    (operation_word_below sweeps draws) are (some_run state over) (running_may_step state)
