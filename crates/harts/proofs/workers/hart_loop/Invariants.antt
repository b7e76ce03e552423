-- the share has counted a step for each turn so far, and the calls are those of these turns
use Rattle.std.specs.Prelude.{◌≡◌, ◌+◌}
use Rattle.harts.specs.Calls.{with_turns}
use Rattle.harts.proofs.workers.hart_loop.Given as goal

abbrev pub invariant-loop-turn : goal.invariant-loop-turn
invariant-loop-turn g l = record {
  share : l.share ≡ record { hart = l.fn.share.hart; amount = l.fn.share.amount + l.turn };
  calls : g.G.Gate.made l.calls ≡ with_turns (g.G.Gate.made l.initial.calls) l.fn.share.hart l.turn;
}
