use Rattle.std.proofs.Common.{◌≡◌, ◌++◌, map, take, drop}
use Rattle.cheri_model.specs.runs.Sweeps.{swept_hart}
use Rattle.sample_checks.proofs.machine.sweep_harts.Given as goal

-- the harts so far are swept, and the others are as they were
abbrev pub invariant-loop-hart : goal.invariant-loop-hart
invariant-loop-hart l =
    l.harts ≡ map (swept_hart l.lo l.hi) (take l.hart-index l.initial.harts) ++ drop l.hart-index l.initial.harts
