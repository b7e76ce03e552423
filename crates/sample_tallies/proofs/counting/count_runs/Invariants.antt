-- the tally of the runs so far
use Rattle.std.proofs.Common.{◌≡◌, length}
use Rattle.std.specs.Prelude.{IfSome}
use Rattle.cheri_model.specs.runs.Image.{opening_memory}
use Rattle.sample_tallies.specs.Tallies.{tally, numbers_from}
use Rattle.sample_tallies.proofs.counting.count_runs.Given as goal

abbrev pub invariant-loop-done : goal.invariant-loop-done
invariant-loop-done l = record {
  image : l.runner.image ≡ l.image;
  sum : l.counted.sum ≡ tally l.image l.drawing (numbers_from l.first l.done);
  harts : l.counted.harts ≡ length l.image.harts;
  granules : l.counted.granules ≡ length (opening_memory l.image.ram l.image.granules);
  opening : IfSome l.counted.opening (λ o. o ≡ opening_memory l.image.ram l.image.granules);
}
