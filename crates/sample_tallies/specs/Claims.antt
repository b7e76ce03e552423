-- Tallies of what is claimed.
use Rattle.std.specs.Prelude.{[]}
use Rattle.cheri_model.specs.runs.Machine.{MachineState}
use Rattle.sample_tallies.specs.declared.claims.Claims.{Claims}
use Rattle.sample_tallies.specs.declared.seen.TrapPlace.{TrapPlace}
use Rattle.sample_tallies.specs.Tables.{Entry, with_entry}
use Rattle.sample_tallies.specs.SameStates.{same_state, same_place}
use Rattle.sample_tallies.specs.Tallies.{TallyParts}

-- with no trap and no end yet
abbrev pub claimed : Claims → TallyParts
claimed claims = record {
  runs = claims.runs;
  longest = claims.longest;
  cut = claims.cut;
  hung = claims.hung;
  traps = [];
  ends = [];
}

-- with what was seen of a trap
abbrev pub with_trap : TallyParts → Entry TrapPlace → TallyParts
with_trap t trap = record t { traps = with_entry same_place t.traps trap }

-- with what was seen of an end
abbrev pub with_end : TallyParts → Entry MachineState → TallyParts
with_end t end = record t { ends = with_entry same_state t.ends end }
