use Rattle.std.proofs.Common.{◌+◌, ◌*◌, ◌<◌, arith, length}
use Rattle.value_tests.proofs.provenance.tables_follow_swaps.Goals as goal

pub follow-requires : goal.follow-requires
follow-requires g c =
    let opening = c.in_ok-origins.ensures in
    let table = c.in_ok-origins.origins in
    let granule : 33 * table.harts + 3 < length table.slots = omega (arith, opening.harts, opening.size) in
    let hart : 1 < table.harts = omega (arith, opening.harts) in
    (granule, (hart, omega arith), ((hart, omega arith), granule, tt))
