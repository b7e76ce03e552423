use Rattle.std.proofs.Common.{◌<◌, ◌+◌, [], length, get_or, ap, ◌∙◌, arith}
use Rattle.std.specs.Prelude.{slice_get}
use Rattle.std.proofs.lemmas.Option.{none-some, slice_get-get_or}
use Rattle.state_store.specs.Stores.{Stored, state_of}
use Rattle.sample_tallies.specs.Counts.{EndsParts}
use Rattle.sample_tallies.proofs.EndLemmas.{table_size, end_read, row_wide}
use Rattle.sample_tallies.proofs.ends.Ends.state.Goals as goal

pub unreachable-requires : goal.unreachable-requires
unreachable-requires c =
    let e = c.self.inside in
    let size = table_size e.numbering.store e.harts e.rows e.seen.items c.self.invariant in
    let view = ap (λ (p : EndsParts). length p.table) c.self.view_is in
    let below : c.args.number < length e.rows.rows = omega (arith, c.requires) in
    absurd (none-some (get_or e.rows.rows c.args.number [])
    (c.in_default.ensures ∙ slice_get-get_or e.rows.rows c.args.number [] below))

pub returns-clause-state : goal.returns-clause-state
returns-clause-state c end at =
    let e = c.self.inside in
    let there = ap (λ (p : EndsParts). slice_get p.table c.args.number) c.self.view_is ∙ at in
    ap (λ (s : Stored). state_of s c.in-Some.row.now) c.store.ensures
    ∙ (end_read e.numbering.store e.harts e.rows e.seen.items c.args.number c.in-Some.row.now end c.self.invariant
    c.in-Some.ensures there).state

pub returns-clause-harts : goal.returns-clause-harts
returns-clause-harts c =
    let e = c.self.inside in
    row_wide e.numbering.store e.harts e.rows e.seen.items c.args.number c.in-Some.row.now c.self.invariant c.in-Some.ensures
    ∙ ap (λ (p : EndsParts). p.harts + 1) c.self.view_is
