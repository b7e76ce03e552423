-- The shares of a booted machine have counted nothing, and at the end each report's steps are what its share counted.
use Rattle.std.proofs.Common.{◌≡◌, List, length, sym, ap, subst, ◌∙◌}
use Rattle.std.specs.Prelude.{All}
use Rattle.cheri_model.specs.declared.operation.Event.{Event}
use Rattle.shared_machine.specs.Shares.{ShareParts, shares_of}
use Rattle.harts.proofs.ReportLemmas.{nothing_counted, reports_raced}
use Rattle.harts.proofs.races.race_harts.Goals as goal

pub race_all-raced-requires-after_bounds : goal.race_all-raced-requires-after_bounds
race_all-raced-requires-after_bounds g c = λ lifetimes bounds.
    let harts = length g.J.Naming.image.harts in
    let opened = c.in_ok-machine.ensures.shares ∙ ap (λ (trace : List Event). shares_of trace harts) c.requires.start in
    subst (λ (shares : List ShareParts). All (λ (s : ShareParts). s.amount ≡ 0) shares) (sym opened) (nothing_counted harts)

pub returns-clause-reports : goal.returns-clause-reports
returns-clause-reports g c =
    let harts = length g.J.Naming.image.harts in
    let opened = c.in_ok-machine.ensures.shares ∙ ap (λ (trace : List Event). shares_of trace harts) c.requires.start in
    rw c.close-core-in-Ok.ensures.core
    (reports_raced c.args.race.turns c.into_machine-in-Ok.result.core.trace harts _ _ _ opened c.in-Ok.ensures.harts c.in-Ok.ensures.counted c.close-core-in-Ok.ensures.counts c.in-Ok.ensures.within_turns)
