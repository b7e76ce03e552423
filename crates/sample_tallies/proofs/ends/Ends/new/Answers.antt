use Rattle.std.proofs.Common.{◌≡◌, [], map, ap}
use Rattle.std.specs.Prelude.{None}
use Rattle.sample_tallies.specs.Tables.{table_of}
use Rattle.sample_tallies.specs.Counts.{meant}
use Rattle.sample_tallies.proofs.EndLemmas.{ends_with}
use Rattle.sample_tallies.proofs.ends.Ends.new.Goals as goal

pub returns : goal.returns
unfolding table_of
returns c =
    let none : table_of (map (meant c.new.result.store) c.new-2.result.rows) c.new-3.result.items ≡ [] =
    ap (λ rows. table_of (map (meant c.new.result.store) rows) c.new-3.result.items) c.new-2.ensures.rows in
    let granules = c.new.ensures.granules in
    let opening = c.new.ensures.opening in
    let made : ends_with c.args.harts c.new.result.store.granules c.new.result.opening
    (table_of (map (meant c.new.result.store) c.new-2.result.rows) c.new-3.result.items)
    ≡ ends_with c.args.harts c.args.granules None [] = cc in
    made
