-- The reports of workers are in the order of their shares, and say what these have counted.
use Rattle.std.proofs.Common.{◌∙◌}
use Rattle.harts.specs.declared.races.Worked.{Worked}
use Rattle.harts.proofs.ReportLemmas.{harts_of_work, shares_of_work, turns_of_work}
use Rattle.harts.proofs.races.race_all.Goals as goal

pub returns-clause-harts : goal.returns-clause-harts
returns-clause-harts g c =
    let made = rw c.as_slice.ensures.value at c.in_ok-reports.ensures in
    harts_of_work {W = Worked g.row.J.Denot} (λ w. w.report) (λ w. w.share) c.in_ok-reports.reports.items c.in_ok-worked.worked.items made
    ∙ c.in_ok-worked.ensures.harts

pub returns-clause-counted : goal.returns-clause-counted
returns-clause-counted g c =
    let made = rw c.as_slice.ensures.value at c.in_ok-reports.ensures in
    shares_of_work {W = Worked g.row.J.Denot} (λ w. w.report) (λ w. w.share) c.in_ok-reports.reports.items c.in_ok-shares.shares.items c.in_ok-worked.worked.items
    made c.in_ok-shares.ensures c.in_ok-worked.ensures.counted

pub returns-clause-within_turns : goal.returns-clause-within_turns
returns-clause-within_turns g c =
    let made = rw c.as_slice.ensures.value at c.in_ok-reports.ensures in
    turns_of_work {W = Worked g.row.J.Denot} (λ w. w.report) (λ w. w.share) c.args.turns c.in_ok-reports.reports.items c.in_ok-worked.worked.items made
    c.in_ok-worked.ensures.within_turns
