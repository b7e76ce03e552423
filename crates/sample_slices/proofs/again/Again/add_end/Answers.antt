use Rattle.sample_slices.proofs.ClaimLemmas.{end_told}
use Rattle.sample_slices.proofs.again.Again.add_end.Goals as goal

pub returns-clause-told : goal.returns-clause-told
returns-clause-told c =
    end_told c.args.self.now.image c.args.tally.now c.claim_end.new.self
    (record { key = record { harts = c.harts-harts.result.now; memory = c.ram.result.now }; seen = c.args.seen }) c.requires.told
    c.in_ok-claim_end.ensures.sum c.claim_end.ensures.same_harts c.claim_end.ensures.same_granules c.requires.drawn
