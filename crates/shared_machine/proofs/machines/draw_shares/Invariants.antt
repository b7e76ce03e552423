-- the shares of the harts so far were drawn
use Rattle.shared_machine.proofs.ShareLemmas.{IsOpening}
use Rattle.shared_machine.proofs.machines.draw_shares.Given as goal

abbrev pub invariant-loop-hart : goal.invariant-loop-hart
invariant-loop-hart g l = IsOpening l.books l.tokens.parts l.tokens.amounts l.shares.items l.events l.hart
