-- Nothing is written before the object, and that is of the run.
use Rattle.std.proofs.Common.{refl, arith}
use Rattle.std.proofs.lemmas.Result.{MatchResult-from_err, err_from_is_err_and}
use Rattle.cores.specs.Runs.{Run}
use Rattle.simulation.proofs.SimulationLemmas.{of_run, failures_are, none_fails, unrun_says, listing_means, listing_fits}
use Rattle.explained_page.proofs.look.write_look.Goals as goal

pub returns-in_err-core-clause-refused : goal.returns-in_err-core-clause-refused
returns-in_err-core-clause-refused g c =
    let p = err_from_is_err_and c.from_residual.result c.from_residual.ensures.1 in
    rw (p.1, p.2) (unrun_says _ c.in_err-core.field-0.0 _ c.in_err-core.ensures.refused)

pub returns-in_err-core-clause-untouched : goal.returns-in_err-core-clause-untouched
returns-in_err-core-clause-untouched g c = MatchResult-from_err _ _ _ c.from_residual.ensures.0 (λ fault other. refl)

pub returns-in_err-core-clause-failures : goal.returns-in_err-core-clause-failures
returns-in_err-core-clause-failures g c = none_fails _ _ _ _ c.from_residual.ensures.1 c.in_err-core.ensures.refused

pub returns-in_err-put_core_look-clause-failures : goal.returns-in_err-put_core_look-clause-failures
returns-in_err-put_core_look-clause-failures g c =
    omega (arith, c.in_err-put_core_look.ensures.failures, failures_are _ _ c.from_residual-in_err-put_core_look.ensures.1)

pub returns-clause-failures : goal.returns-clause-failures
returns-clause-failures g c = c.in_ok-put_core_look.ensures.failures

pub returns-in_err-put_core_look-clause-refused : goal.returns-in_err-put_core_look-clause-refused
returns-in_err-put_core_look-clause-refused g c =
    let p = err_from_is_err_and c.from_residual-in_err-put_core_look.result c.from_residual-in_err-put_core_look.ensures.1 in
    let run : Run = (c.in_ok-core.core, c.in_ok-core.refused) in
    rw (p.1, p.2) (of_run _ run _ c.in_ok-core.ensures.run c.in_ok-core.ensures.confined c.put_core_look.ensures.prefix)

pub returns-clause-shown : goal.returns-clause-shown
returns-clause-shown g c =
    let run : Run = (c.in_ok-core.core, c.in_ok-core.refused) in
    of_run _ run _ c.in_ok-core.ensures.run c.in_ok-core.ensures.confined (refl, c.in_ok-put_core_look.ensures.whole)

pub put_core_look-requires : goal.put_core_look-requires
put_core_look-requires g c =
    let means = listing_means _ _ _ _ c.in_ok-core.ensures.run in
    listing_fits _ means.0 means.1
