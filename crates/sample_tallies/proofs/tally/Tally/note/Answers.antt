use Rattle.std.proofs.Common.{◌≡◌, ◌+◌, ap, ◌∙◌, rules}
use Rattle.std.specs.Prelude.{max}
use Rattle.cheri_model.specs.runs.Machine.{MachineState}
use Rattle.sample_tallies.specs.Tables.{either}
use Rattle.sample_tallies.specs.Tallies.{add, of_run}
use Rattle.sample_tallies.specs.Counts.{Counted}
use Rattle.sample_tallies.proofs.TallyLemmas.{with_parts, noted}
use Rattle.sample_tallies.proofs.tally.Tally.note.Goals as goal

pub returns-clause-sum : goal.returns-clause-sum
returns-clause-sum c =
    let t = c.self.inside in
    let state : MachineState = record { harts = c.args.harts.now; memory = c.args.memory.now.now } in
    let runs : c.in-Some.runs ≡ t.runs + 1 = search rules in
    let longest : c.max-self-inside.result ≡ max t.longest c.args.run.length = search rules in
    noted (with_parts t.runs t.longest t.cut t.hung t.traps t.ends.table)
    (with_parts c.in-Some.runs c.max-self-inside.result c.in_ok-self-inside.field-0 c.in_ok-self-inside-2.field-0
    c.see_harts.new.self c.see_run.new.self.table)
    c.args.number c.args.run.length c.args.run.end state c.once-seen.result c.once-seen.ensures runs longest
    (c.in_ok-self-inside.ensures ∙ ap (either t.cut) c.cut_by.ensures)
    (c.in_ok-self-inside-2.ensures ∙ ap (either t.hung) c.hung_by.ensures)
    c.in_ok-see_harts.ensures c.in_ok-see_run.ensures.table
    ∙ ap (λ (v : Counted). add v.sum (of_run c.args.number c.args.run.end c.args.run.length state)) c.self.view_is
