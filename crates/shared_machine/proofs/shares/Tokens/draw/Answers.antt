-- A share is the hart's that it was drawn for, has all of its ledger and counts nothing.
use Rattle.std.proofs.Common.{rules, ◌≡◌}
use Rattle.std.specs.Prelude.{slice_index}
use Rattle.shared_machine.proofs.shares.Tokens.draw.Goals as goal

pub invariant_of-result : goal.invariant_of-result
invariant_of-result g c = (c.requires.below.0, c.requires.below.1, search rules)

pub returns-clause-share : goal.returns-clause-share
returns-clause-share g c =
    let none : slice_index c.match-hart.tokens.amounts c.args.hart ≡ 0 = search rules in
    λ i. record { hart = c.args.hart; amount = none i }
