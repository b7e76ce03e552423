-- What draws the order of a run: the generator, how rare sweeps are, and the harts' priorities,
-- where they have some; and the operation that is chosen next.
use Rattle.std.specs.Prelude.{ℕ, ◌+◌, ◌%◌, ◌^◌, ◌==◌, Bool, true, false, List, [], ◌∷◌}
use Rattle.std.specs.Prelude.{if◌then◌else◌, length, slice_index, slice_index_or, Option, Some}
use Rattle.std.specs.Prelude.{None}
use Rattle.std.specs.Prelude.{option_map}
use Rattle.cheri_model.specs.declared.operation.Op.{Op}
use Rattle.cheri_model.specs.declared.operation.Op.TheVariants as operation
use Rattle.cheri_model.specs.steps.Hart.{HartState}
use Rattle.schedules.specs.declared.ranges.SweepRange.{SweepRange}
use Rattle.schedules.specs.Schedules.{sweep_of}
use Rattle.sample_draws.specs.declared.draws.TheConstants.{SWEEP_RATES, GREATEST_RATE}
use Rattle.sample_draws.specs.Words.{generator_of, next_word, share, drawn}
use Rattle.sample_draws.specs.Drawings.{DrawingParts}
use Rattle.sample_draws.specs.Priorities.{PriorityParts, first_priorities, after_changes}
use Rattle.sample_draws.specs.Priorities.{first_of, about_to_step, ended, swept}

-- the generator; sweeps come at one place in so many; the harts' priorities
pub record DrawParts : Type 0 where
  pub words : List ℕ
  pub one_in : ℕ
  pub priorities : Option PriorityParts

-- How rare sweeps are, where some may come: one place in 4, 8, .., 2048, each with the same chance.
-- Where none may, nothing is drawn.
abbrev pub drawn_rate : List SweepRange → List ℕ → ℕ × List ℕ
drawn_rate [] words = (1, words)
drawn_rate (range ∷ ranges) words =
    let rate = drawn SWEEP_RATES words in (2 ^ (GREATEST_RATE + rate.0), rate.1)

-- the harts' priorities, where a depth is given
abbrev pub drawn_priorities : Option ℕ → ℕ → ℕ → List ℕ → Option PriorityParts × List ℕ
drawn_priorities None length harts words = (None, words)
drawn_priorities (Some depth) length harts words =
    let priorities = first_priorities harts depth length words in
    (Some priorities.0, priorities.1)

-- what draws the order of a run of so many harts
unfoldable pub draws_of_run : DrawingParts → ℕ → ℕ → DrawParts
draws_of_run drawing harts run =
    let rate = drawn_rate drawing.sweeps (generator_of drawing.seed run) in
    let priorities = drawn_priorities drawing.depth drawing.length harts rate.1 in
    record { words = priorities.1; one_in = rate.0; priorities = priorities.0 }

-- no word is drawn for an operation where priorities say what it is
abbrev pub needs_word : List SweepRange → Option PriorityParts → Bool
needs_word [] (Some p) = false
needs_word [] None = true
needs_word (range ∷ ranges) p = true

unfoldable pub operation_word : List SweepRange → DrawParts → ℕ × List ℕ
operation_word sweeps draws =
    if needs_word sweeps draws.priorities then next_word draws.words else (0, draws.words)

-- whether the word of an operation makes it a sweep
abbrev pub is_sweep_word : ℕ → ℕ → List SweepRange → Bool
is_sweep_word word one_in [] = false
is_sweep_word word one_in (range ∷ ranges) = word % one_in == 0

-- the range that a word draws; past the end there is none
abbrev pub no_range : SweepRange
no_range = record { lo = 0; hi = 0 }

unfoldable pub swept_range : ℕ → List SweepRange → SweepRange
swept_range word sweeps = slice_index_or sweeps (share word (length sweeps)) no_range

-- the hart that steps: one that the word draws among those that run, or the first by priorities
abbrev pub stepping : ℕ → List ℕ → Option PriorityParts → ℕ
stepping word running None = slice_index running (share word (length running))
stepping word running (Some p) = first_of running (after_changes running p)

-- the operation that a word and those that run choose, and what draws the next ones
unfoldable pub chosen_by : ℕ → List SweepRange → List ℕ → DrawParts → Op × DrawParts
chosen_by word sweeps running draws =
    if is_sweep_word word draws.one_in sweeps
    then (
      sweep_of (swept_range word sweeps),
      record draws { priorities = option_map swept draws.priorities },
    )
    else (
      operation.Step (stepping word running draws.priorities),
      record draws { priorities = option_map (after_changes running) draws.priorities },
    )

-- the next operation, and what draws those after it
unfoldable pub chosen : List SweepRange → List ℕ → DrawParts → Op × DrawParts
chosen sweeps running draws =
    let word = operation_word sweeps draws in
    chosen_by word.0 sweeps running (record draws { words = word.1 })

-- a hart is about to step
unfoldable pub begun : ℕ → HartState → DrawParts → DrawParts
begun hart before draws =
    record draws { priorities = option_map (about_to_step hart before) draws.priorities }

-- the hart that was about to step has stepped: it is so, and memory was changed or was not
unfoldable pub done : HartState → Bool → DrawParts → DrawParts
done after changed draws =
    record draws { priorities = option_map (ended after changed) draws.priorities }
