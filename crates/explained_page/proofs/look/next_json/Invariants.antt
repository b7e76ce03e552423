-- The values so far are those of the harts so far.
use Rattle.std.proofs.Common.{◌≡◌, map, take}
use Rattle.serde_json.specs.View.{view}
use Rattle.explained_page.specs.Look.{next_line, line_or_null}
use Rattle.explained_page.proofs.look.next_json.Given as goal

abbrev pub invariant-loop-hart : goal.invariant-loop-hart
invariant-loop-hart l =
    map view l.values.items ≡ map (λ hart. line_or_null (next_line l.lines hart)) (take l.hart-index l.harts)
