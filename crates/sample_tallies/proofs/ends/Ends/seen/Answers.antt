use Rattle.std.proofs.Common.{length, ap, ◌∙◌, arith}
use Rattle.std.specs.Prelude.{slice_get}
use Rattle.std.proofs.lemmas.Option.{get_or_from_slice_get}
use Rattle.sample_tallies.specs.Counts.{EndsParts, meant}
use Rattle.std.proofs.Common.{map}
use Rattle.sample_tallies.proofs.EndLemmas.{table_size}
use Rattle.sample_tallies.proofs.EntryLemmas.{table_seen}
use Rattle.sample_tallies.proofs.ends.Ends.seen.Goals as goal

pub index-requires : goal.index-requires
index-requires c =
    let e = c.self.inside in
    let size = table_size e.numbering.store e.harts e.rows e.seen.items c.self.invariant in
    let view = ap (λ (p : EndsParts). length p.table) c.self.view_is in
    let even = c.self.invariant.as_many in
    omega (arith, c.requires)

pub returns : goal.returns
returns c end at =
    let e = c.self.inside in
    let there = ap (λ (p : EndsParts). slice_get p.table c.args.number) c.self.view_is ∙ at in
    c.index.ensures ∙ get_or_from_slice_get e.seen.items c.args.number end.seen _
    (table_seen (map (meant e.numbering.store) e.rows.rows) e.seen.items c.args.number end there)
