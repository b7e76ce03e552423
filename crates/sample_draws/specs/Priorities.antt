-- Orders by priorities (PCT: Burckhardt, Kothari, Musuvathi, Nagarakatte, "A randomized scheduler
-- with probabilistic guarantees of finding bugs"), with harts that wait in place of disabled
-- threads, and with patience.
use Rattle.std.specs.Prelude.{ℕ, ◌+◌, ◌-◌, ◌==◌, nat_lt, nat_le, Bool, true, false, ◌&&◌, List}
use Rattle.std.specs.Prelude.{length}
use Rattle.std.specs.Prelude.{if◌then◌else◌, slice_set, Option, Some, None}
use Rattle.cheri_model.specs.declared.image.TheConstants.{MAX_HARTS}
use Rattle.cheri_model.specs.steps.Hart.{HartState}
use Rattle.sample_draws.specs.declared.cycles.Cycle.{Cycle}
use Rattle.sample_draws.specs.declared.drawing.TheConstants.{MAX_DEPTH, MAX_LENGTH}
use Rattle.sample_draws.specs.declared.priorities.Succession.{Succession}
use Rattle.sample_draws.specs.declared.priorities.TheConstants.{PATIENCE}
use Rattle.sample_draws.specs.Cycles.{cycle_from, is_back, gone_on}
use Rattle.sample_draws.specs.Ranks.{first_ranks, shuffled, drawn_places, nobody, first}
use Rattle.sample_draws.specs.Ranks.{changed_ranks}

-- How many harts there are; their ranks; the places of the change points; the rank that is later
-- than all that were given; how many steps were taken; which harts wait; and the steps of the
-- latest hart in succession.
pub record PriorityParts : Type 0 where
  pub harts : ℕ
  pub ranks : List ℕ
  pub changes : List ℕ
  pub last : ℕ
  pub steps : ℕ
  pub waiting : List Bool
  pub succession : Option Succession

-- Before the first step: the ranks are drawn, then the change points, each below the most
-- operations of a run; with the generator after them.
unfoldable pub first_priorities : ℕ → ℕ → ℕ → List ℕ → PriorityParts × List ℕ
first_priorities harts depth length words =
    let ranks = shuffled (harts - 1) first_ranks words in
    let changes = drawn_places (depth - 1) length ranks.1 in (
      record {
        harts = harts;
        ranks = ranks.0;
        changes = changes.0;
        last = harts + (depth - 1);
        steps = 0;
        waiting = nobody;
        succession = None;
      },
      changes.1,
    )

-- the change points at this step are past
unfoldable pub after_changes : List ℕ → PriorityParts → PriorityParts
after_changes running p = record p {
  ranks = changed_ranks p.steps p.harts p.waiting running 0 p.changes p.ranks;
}

-- the hart that steps next
unfoldable pub first_of : List ℕ → PriorityParts → ℕ
first_of running p = first p.ranks p.waiting running

-- a hart that is about to step, after none of its own
abbrev pub succession_from : ℕ → HartState → Succession
succession_from hart state = record { hart = hart; steps = 0; cycle = cycle_from state }

-- a hart that is about to step goes on where it was the latest
abbrev pub going_on : ℕ → HartState → Option Succession → Succession
going_on hart before None = succession_from hart before
going_on hart before (Some s) = if s.hart == hart then s else succession_from hart before

unfoldable pub about_to_step : ℕ → HartState → PriorityParts → PriorityParts
about_to_step hart before p =
    record p { succession = Some (going_on hart before p.succession) }

-- a step that changes memory begins the cycle anew
abbrev pub followed : Bool → HartState → Cycle → Cycle
followed true after cycle = cycle_from after
followed false after cycle = if is_back cycle after then cycle else gone_on after cycle

-- and lets all go on; one that leads back makes its hart wait
abbrev pub waiting_after : Bool → HartState → Succession → List Bool → List Bool
waiting_after true after s waiting = nobody
waiting_after false after s waiting =
    if is_back s.cycle after then slice_set waiting s.hart true else waiting

-- the step is the last for which the hart's turn is waited
abbrev pub ends_patience : Succession → Bool
ends_patience s = s.steps + 1 == PATIENCE

unfoldable pub after_step : HartState → Bool → Succession → PriorityParts → PriorityParts
after_step after changed s p = record p {
  ranks = if ends_patience s then slice_set p.ranks s.hart p.last else p.ranks;
  last = if ends_patience s then p.last + 1 else p.last;
  steps = p.steps + 1;
  waiting = waiting_after changed after s p.waiting;
  succession = Some (record {
    hart = s.hart;
    steps = if ends_patience s then 0 else s.steps + 1;
    cycle = followed changed after s.cycle;
  });
}

-- the hart that was about to step has stepped: it is so, and memory was changed or was not
abbrev pub ended_by : Option Succession → HartState → Bool → PriorityParts → PriorityParts
ended_by None after changed p = p
ended_by (Some s) after changed p = after_step after changed s p

unfoldable pub ended : HartState → Bool → PriorityParts → PriorityParts
ended after changed p = ended_by p.succession after changed p

-- a sweep lets all go on
unfoldable pub swept : PriorityParts → PriorityParts
swept p = record p { waiting = nobody; succession = None }

-- What keeps the counts small: by as many steps as were taken.
abbrev pub is_cycle_within : ℕ → Cycle → Bool
is_cycle_within steps cycle =
    nat_lt cycle.since cycle.span && nat_le (cycle.span + cycle.since) (steps + 1)

abbrev pub is_within : ℕ → Option Succession → Bool
is_within steps None = true
is_within steps (Some s) =
    nat_lt s.hart MAX_HARTS && nat_lt s.steps PATIENCE && is_cycle_within steps s.cycle

unfoldable pub is_priorities : PriorityParts → Bool
is_priorities p =
    nat_le p.harts MAX_HARTS && nat_lt (length p.changes) MAX_DEPTH
    && nat_lt p.last (MAX_HARTS + MAX_DEPTH + p.steps)
    && nat_le p.steps MAX_LENGTH
    && is_within p.steps p.succession
