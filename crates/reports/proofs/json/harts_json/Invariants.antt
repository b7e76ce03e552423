-- The values so far are those of the beginning of the list.
use Rattle.std.proofs.Common.{◌≡◌, map, take}
use Rattle.serde_json.specs.View.{view}
use Rattle.reports.specs.Json.{hart_data}
use Rattle.reports.proofs.json.harts_json.Given as goal

abbrev pub invariant-loop-hart : goal.invariant-loop-hart
invariant-loop-hart l = map view l.values.items ≡ map hart_data (take l.hart-index l.harts)
