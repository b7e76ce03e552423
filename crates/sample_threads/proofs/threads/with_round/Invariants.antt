-- the parts so far are counted
use Rattle.std.proofs.Common.{◌≡◌, length}
use Rattle.cheri_model.specs.runs.Image.{opening_memory}
use Rattle.sample_threads.specs.Rounds.{Counts, cut_at}
use Rattle.sample_threads.proofs.threads.with_round.Given as goal

abbrev pub invariant-loop-part : goal.invariant-loop-part
invariant-loop-part g l = record {
  sum : Counts l.runs (cut_at l.fn.round.done l.fn.round.each l.runs.count l.part) l.sum;
  harts : length l.blank.harts ≡ length l.runs.image.now.harts;
  granules : length l.blank.memory
      ≡ length (opening_memory l.runs.image.now.ram l.runs.image.now.granules);
}
