use Rattle.std.proofs.Common.{◌≡◌, ◌+◌, ap, ◌∙◌, rules}
use Rattle.std.specs.Prelude.{max}
use Rattle.sample_tallies.specs.Tallies.{TallyParts, add}
use Rattle.sample_tallies.specs.Counts.{Counted}
use Rattle.sample_tallies.proofs.TallyLemmas.{with_parts, summed}
use Rattle.sample_tallies.proofs.tally.Tally.add.Goals as goal

pub returns-clause-sum : goal.returns-clause-sum
returns-clause-sum c =
    let t = c.self.inside in
    let o = c.other.inside in
    let other : TallyParts = with_parts o.runs o.longest o.cut o.hung o.traps o.ends.table in
    let runs : c.in-Some.runs ≡ t.runs + o.runs = search rules in
    let longest : c.max-self-inside.result ≡ max t.longest o.longest = search rules in
    summed (with_parts t.runs t.longest t.cut t.hung t.traps t.ends.table) other
    (with_parts c.in-Some.runs c.max-self-inside.result c.in_ok-self-inside.field-0 c.in_ok-self-inside-2.field-0
    c.see_all.new.self c.see_all-2.new.self.table)
    runs longest c.in_ok-self-inside.ensures c.in_ok-self-inside-2.ensures c.in_ok-see_all.ensures
    c.in_ok-see_all-2.ensures.table
    ∙ ap (λ (v : Counted). add v.sum other) c.self.view_is
    ∙ ap (λ (v : Counted). add c.args.self.now.sum v.sum) c.other.view_is
