use Rattle.std.proofs.Common.{All, List, sym, subst}
use Rattle.std.specs.Prelude.{Option}
use Rattle.sample_tallies.specs.declared.seen.Seen.{Seen}
use Rattle.sample_tallies.specs.Tallies.{numbers_from}
use Rattle.sample_tallies.specs.Within.{IsWithin}
use Rattle.sample_checks.specs.Checks.{is_drawn}
use Rattle.sample_checks.proofs.WithinLemmas.{tally_within, numbers_within}
use Rattle.sample_checks.proofs.DecidedLemmas.{in_within}
use Rattle.sample_checks.proofs.counting.count_checked.Goals as goal

pub of_claims-requires-clause-within : goal.of_claims-requires-clause-within
of_claims-requires-clause-within c =
    let a = c.args in
    subst IsWithin (sym c.in_ok-tally.ensures.sum)
    (tally_within a.image.now a.drawing.now (numbers_from a.first a.count) (numbers_within a.first a.count c.requires))

pub of_claims-requires-clause-drawn : goal.of_claims-requires-clause-drawn
of_claims-requires-clause-drawn c =
    let a = c.args in
    subst (λ (d : List (Option Seen)). All is_drawn d) (sym c.in_ok-decided.ensures)
    (in_within a.image.now a.drawing.now a.properties.now (numbers_from a.first a.count)
    (numbers_within a.first a.count c.requires))
