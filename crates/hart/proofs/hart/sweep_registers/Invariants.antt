-- the registers so far are swept, and the tags that this cleared are counted
use Rattle.std.proofs.Common.{◌≡◌, ◌++◌, map, take, drop}
use Rattle.std.specs.Prelude.{count_by}
use Rattle.cap_model.specs.results.Swept.{is_in_sweep, swept}
use Rattle.hart.proofs.hart.sweep_registers.Given as goal

abbrev pub invariant-loop-value : goal.invariant-loop-value
invariant-loop-value l = record {
  swept_so_far : l.regs ≡ map (swept l.lo l.hi) (take l.value-index l.initial.regs) ++ drop l.value-index l.initial.regs;
  counted : l.cleared ≡ count_by (is_in_sweep l.lo l.hi) (take l.value-index l.initial.regs);
}
