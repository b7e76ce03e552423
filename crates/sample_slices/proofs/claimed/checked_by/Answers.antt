use Rattle.std.proofs.Common.{Option, Vec}
use Rattle.std.proofs.lemmas.Result.{err_from_is_err_and}
use Rattle.std.specs.Global.{Global}
use Rattle.sample_tallies.specs.declared.seen.Seen.{Seen}
use Rattle.serde_json.specs.View.{view}
use Rattle.sample_slices.specs.Slices.{properties_in}
use Rattle.sample_slices.proofs.CheckedLemmas.{checked_is, decided_fails}
use Rattle.sample_slices.proofs.StepLemmas.{part_fails}
use Rattle.sample_slices.proofs.claimed.checked_by.Goals as goal

pub returns-in_err-decided-clause-checked : goal.returns-in_err-decided-clause-checked
returns-in_err-decided-clause-checked c =
    let p = err_from_is_err_and c.from_residual-in_err-decided.result c.from_residual-in_err-decided.ensures.1 in
    rw (p.1, p.2) (part_fails (λ (v : Vec (Option Seen) Global). v.items) (λ x. x) c.in_err-decided.field-0.0 _ _
    (rw c.tally_in.ensures.same at c.in_err-decided.ensures.decided)
    (decided_fails c.args.again.now (properties_in c.args.properties) c.args.is_shown (view c.args.value.now) c.in_ok-tally.tally.sum
    c.in_ok-tally.ensures.sum))

pub returns-clause-checked : goal.returns-clause-checked
returns-clause-checked c =
    checked_is c.args.again.now (properties_in c.args.properties) c.args.is_shown (view c.args.value.now) c.in_ok-tally.tally
    c.in_ok-decided.decided.items c.of_claims.result c.in_ok-tally.ensures.sum c.in_ok-tally.ensures.told
    (rw c.tally_in.ensures.same at c.in_ok-decided.ensures.decided) c.of_claims.ensures
