use Rattle.asm_promises.proofs.Reading.{phases_of}
use Rattle.asm_promises.proofs.Nearest.{back_is_last, ahead_is_first}
use Rattle.asm_promises.proofs.laws.local_labels_are_the_nearest.Goals as goal

pub returns : goal.returns
returns c = record {
  back = λ texts program e file number f digits label there less found.
      back_is_last texts program file f number (phases_of texts program e) there less digits label found;
  ahead = λ texts program e file number f digits label there less found.
      ahead_is_first texts program file f number (phases_of texts program e) there less digits label found;
}
