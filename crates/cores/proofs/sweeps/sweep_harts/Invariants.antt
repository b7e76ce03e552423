-- the harts so far are swept and their tags counted, and the others are as they were
use Rattle.std.proofs.Common.{◌≡◌, ◌≤◌, ◌*◌, ◌++◌, map, take, drop, sum_by}
use Rattle.cheri_model.specs.runs.Sweeps.{swept_hart, cleared_in_hart}
use Rattle.cores.proofs.sweeps.sweep_harts.Given as goal

abbrev pub invariant-loop-hart : goal.invariant-loop-hart
invariant-loop-hart l = record {
  harts : l.harts ≡ map (swept_hart l.lo l.hi) (take l.hart-index l.initial.harts) ++ drop l.hart-index l.initial.harts;
  cleared : l.cleared ≡ sum_by (cleared_in_hart l.lo l.hi) (take l.hart-index l.initial.harts);
  few : l.cleared ≤ 33 * l.hart-index;
}
