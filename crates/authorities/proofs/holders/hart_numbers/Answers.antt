use Rattle.std.proofs.Common.{◌≡◌, drop, rules}
use Rattle.std.specs.Prelude.{slice_index_or, ◌+◌}
use Rattle.authorities.proofs.HolderLemmas.{hart_known, hart_part}
use Rattle.authorities.proofs.holders.hart_numbers.Goals as goal

pub hart-hart-requires : goal.hart-hart-requires
hart-hart-requires c =
    rw (c.store.ensures, c.part.ensures) (hart_known c.args.graph.now c.args.row.now c.args.number c.requires)

pub returns-in-Some : goal.returns-in-Some
returns-in-Some c =
    let rest : drop 1 c.hart-hart.result.now ≡ c.in-Some.numbers.now = search rules in
    hart_part c.args.graph.now.store c.args.number (slice_index_or c.args.row.now (c.args.number + 1) 0)
    c.hart-hart.result.now c.in-Some.numbers.now (rw (c.store.ensures, c.part.ensures) at c.hart-hart.ensures) rest

pub returns-in-None : goal.returns-in-None
returns-in-None c =
    let rest : drop 1 c.hart-hart.result.now ≡ c.hart-hart.result.now = search rules in
    hart_part c.args.graph.now.store c.args.number (slice_index_or c.args.row.now (c.args.number + 1) 0)
    c.hart-hart.result.now c.hart-hart.result.now (rw (c.store.ensures, c.part.ensures) at c.hart-hart.ensures) rest
