use Rattle.std.proofs.Common.{◌≡◌, drop}
use Rattle.sample_steps.specs.Hangs.{all_stay}
use Rattle.sample_steps.proofs.hanging.all_stay.Given as goal

-- the harts that are left decide; memory is as it was
abbrev pub invariant-loop-hart : goal.invariant-loop-hart
invariant-loop-hart l = record {
  ram : l.ram ≡ l.fn.ram;
  value : all_stay l.program l.fn.ram (drop l.hart-index l.harts)
      ≡ all_stay l.program l.fn.ram l.harts;
}
