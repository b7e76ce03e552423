use Rattle.sample_tallies.specs.Counts.{entry_of}
use Rattle.sample_tallies.specs.Within.{is_drawable}
use Rattle.std.proofs.Common.{rules}
use Rattle.sample_slices.proofs.ClaimLemmas.{trap_told}
use Rattle.sample_slices.proofs.tally.add_trap.Goals as goal

pub returns-clause-told : goal.returns-clause-told
returns-clause-told c =
    let drawn : is_drawable c.in_ok-trap.trap.seen = search rules in
    trap_told c.args.again.now.image c.args.tally.now c.claim_trap.new.self (entry_of c.in_ok-trap.trap) c.requires
    c.in_ok-claim_trap.ensures.sum c.claim_trap.ensures.same_harts c.claim_trap.ensures.same_granules drawn
