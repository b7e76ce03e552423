-- Tallies whose first runs can be drawn again.
use Rattle.std.specs.Prelude.{◌≡◌, ◌≤◌, All, Some}
use Rattle.cheri_model.specs.runs.Machine.{MachineState}
use Rattle.sample_draws.specs.declared.drawing.TheConstants.{MAX_RUN}
use Rattle.sample_tallies.specs.declared.seen.Seen.{Seen}
use Rattle.sample_tallies.specs.declared.seen.TrapPlace.{TrapPlace}
use Rattle.sample_tallies.specs.Tables.{Entry}
use Rattle.sample_tallies.specs.Tallies.{TallyParts}

-- the number of the first run is one that a run can have
abbrev pub is_drawable : Seen → Type 0
is_drawable seen = seen.first ≤ MAX_RUN

pub record IsWithin (t : TallyParts) : Type 0 where
  pub cut : (seen : Seen) → t.cut ≡ Some seen → is_drawable seen
  pub hung : (seen : Seen) → t.hung ≡ Some seen → is_drawable seen
  pub traps : All (λ (entry : Entry TrapPlace). is_drawable entry.seen) t.traps
  pub ends : All (λ (entry : Entry MachineState). is_drawable entry.seen) t.ends
