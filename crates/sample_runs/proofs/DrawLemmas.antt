-- How many steps the priorities have seen.
use Rattle.std.proofs.Common.{◌≡◌, ℕ, ◌+◌, ◌<◌, ◌≤◌, Bool, true, false, cond, List, Option, Some, None, refl, sym, ap, ◌∙◌, arith}
use Rattle.std.specs.Prelude.{option_map, IfSome}
use Rattle.cheri_model.specs.declared.operation.Op.{Op}
use Rattle.cheri_model.specs.declared.operation.Op.TheVariants as operation
use Rattle.cheri_model.specs.steps.Hart.{HartState}
use Rattle.cheri_model.specs.runs.Image.{ImageParts}
use Rattle.cheri_model.specs.runs.Machine.{MachineState, hart_at, state_after_one}
use Rattle.schedules.specs.declared.ranges.SweepRange.{SweepRange}
use Rattle.schedules.specs.Schedules.{sweep_of}
use Rattle.sample_draws.specs.declared.drawing.TheConstants.{MAX_LENGTH}
use Rattle.sample_draws.specs.declared.priorities.Succession.{Succession}
use Rattle.sample_draws.specs.Drawings.{DrawingParts}
use Rattle.sample_draws.specs.Priorities.{PriorityParts, first_priorities, after_changes, about_to_step, after_step, ended_by, ended, swept}
use Rattle.sample_draws.specs.Draws.{DrawParts, draws_of_run, drawn_rate, drawn_priorities, operation_word, is_sweep_word, swept_range, stepping, chosen_by, chosen, begun, done}
use Rattle.sample_draws.specs.Words.{generator_of}
use Rattle.sample_draws.specs.Orders.{is_changed, told, next_moment}
use Rattle.sample_runs.specs.Runners.{steps_of}

swept_steps : (p : Option PriorityParts) → steps_of (option_map swept p) ≡ steps_of p
unfolding swept
swept_steps None = refl
swept_steps (Some p) = refl

changes_steps : (running : List ℕ) (p : Option PriorityParts) → steps_of (option_map (after_changes running) p) ≡ steps_of p
unfolding after_changes
changes_steps running None = refl
changes_steps running (Some p) = refl

after_choice : Bool → Op → Op → List ℕ → DrawParts → Op × DrawParts
after_choice b sweep step running draws = cond b
    (sweep, record draws { priorities = option_map swept draws.priorities })
    (step, record draws { priorities = option_map (after_changes running) draws.priorities })

either_steps : (b : Bool) (sweep step : Op) (running : List ℕ) (draws : DrawParts)
    → steps_of (after_choice b sweep step running draws).1.priorities ≡ steps_of draws.priorities
unfolding after_choice
either_steps true sweep step running draws = swept_steps draws.priorities
either_steps false sweep step running draws = changes_steps running draws.priorities

pub chosen_steps : (sweeps : List SweepRange) (running : List ℕ) (draws : DrawParts)
    → steps_of (chosen sweeps running draws).1.priorities ≡ steps_of draws.priorities
unfolding chosen chosen_by after_choice
chosen_steps sweeps running draws =
    let word = operation_word sweeps draws in
    either_steps (is_sweep_word word.0 draws.one_in sweeps) (sweep_of (swept_range word.0 sweeps))
    (operation.Step (stepping word.0 running draws.priorities)) running (record draws { words = word.1 })

about_steps : (hart : ℕ) (before : HartState) (p : Option PriorityParts)
    → steps_of (option_map (about_to_step hart before) p) ≡ steps_of p
unfolding about_to_step
about_steps hart before None = refl
about_steps hart before (Some p) = refl

pub begun_steps : (hart : ℕ) (before : HartState) (draws : DrawParts)
    → steps_of (begun hart before draws).priorities ≡ steps_of draws.priorities
unfolding begun
begun_steps hart before draws = about_steps hart before draws.priorities

by_steps : (s : Option Succession) (after : HartState) (changed : Bool) (p : PriorityParts)
    → (ended_by s after changed p).steps ≤ p.steps + 1
unfolding after_step
by_steps None after changed p = omega arith
by_steps (Some s) after changed p = omega arith

ended_steps : (after : HartState) (changed : Bool) (p : Option PriorityParts)
    → steps_of (option_map (ended after changed) p) ≤ steps_of p + 1
unfolding ended
ended_steps after changed None = omega arith
ended_steps after changed (Some p) = by_steps p.succession after changed p

pub told_steps : (op : Op) (before after : MachineState) (draws : DrawParts)
    → steps_of (told op before after draws).priorities ≤ steps_of draws.priorities + 1
unfolding told done
told_steps (operation.Step hart) before after draws =
    let most = ended_steps (hart_at after hart) (is_changed before.memory after.memory) (begun hart (hart_at before hart) draws).priorities in
    let same = begun_steps hart (hart_at before hart) draws in
    omega (arith, most, same)
told_steps (operation.Sweep lo hi) before after draws = omega arith

-- an operation is one step at most
pub next_steps : (image : ImageParts) (state : MachineState) (sweeps : List SweepRange) (running : List ℕ) (draws : DrawParts)
    → steps_of (next_moment image state (chosen sweeps running draws)).draws.priorities ≤ steps_of draws.priorities + 1
next_steps image state sweeps running draws =
    let choice = chosen sweeps running draws in
    let most = told_steps choice.0 state (state_after_one image state choice.0) choice.1 in
    let same = chosen_steps sweeps running draws in
    omega (arith, most, same)

rates_steps : (depth : Option ℕ) (length harts : ℕ) (words : List ℕ) → steps_of (drawn_priorities depth length harts words).0 ≡ 0
unfolding first_priorities
rates_steps None length harts words = refl
rates_steps (Some depth) length harts words = refl

-- at first there are none
pub first_steps : (drawing : DrawingParts) (harts run : ℕ) → steps_of (draws_of_run drawing harts run).priorities ≡ 0
unfolding draws_of_run
first_steps drawing harts run =
    rates_steps drawing.depth drawing.length harts (drawn_rate drawing.sweeps (generator_of drawing.seed run)).1

-- what a step tells them
pub told_step : (before after : MachineState) (n : ℕ) (was now : HartState) (changed : Bool) (old new : DrawParts)
    → was ≡ hart_at before n → now ≡ hart_at after n → is_changed before.memory after.memory ≡ changed
    → new ≡ done now changed (begun n was old) → new ≡ told (operation.Step n) before after old
unfolding told
told_step before after n was now changed old new was_is now_is changed_is is =
    is ∙ ap (λ h. done h changed (begun n was old)) now_is
    ∙ ap (λ b. done (hart_at after n) b (begun n was old)) (sym changed_is)
    ∙ ap (λ h. done (hart_at after n) (is_changed before.memory after.memory) (begun n h old)) was_is

few_steps : (p : Option PriorityParts) → steps_of p < MAX_LENGTH → IfSome p (λ (q : PriorityParts). q.steps < MAX_LENGTH)
few_steps None few = tt
few_steps (Some p) few = few

-- there is room for a step that has begun
pub may_end : (hart : ℕ) (before : HartState) (draws now : DrawParts) → now ≡ begun hart before draws
    → steps_of draws.priorities < MAX_LENGTH → IfSome now.priorities (λ (q : PriorityParts). q.steps < MAX_LENGTH)
may_end hart before draws now is few =
    let same : steps_of now.priorities ≡ steps_of draws.priorities =
    ap (λ (d : DrawParts). steps_of d.priorities) is ∙ begun_steps hart before draws in
    few_steps now.priorities (omega arith)
