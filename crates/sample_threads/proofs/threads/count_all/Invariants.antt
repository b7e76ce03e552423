-- the runs so far are counted
use Rattle.std.proofs.Common.{◌≡◌, ◌≤◌, ◌-◌, length}
use Rattle.cheri_model.specs.runs.Image.{opening_memory}
use Rattle.sample_threads.specs.Rounds.{Counts}
use Rattle.sample_threads.proofs.threads.count_all.Given as goal

abbrev pub invariant-loop-done : goal.invariant-loop-done
invariant-loop-done g l = record {
  within : l.done ≤ l.runs.count;
  sum : Counts l.runs l.done l.sum;
  harts : length l.blank.harts ≡ length l.runs.image.now.harts;
  granules : length l.blank.memory
      ≡ length (opening_memory l.runs.image.now.ram l.runs.image.now.granules);
}

abbrev pub decreases-loop-done : goal.decreases-loop-done
decreases-loop-done g l = l.runs.count - l.done
