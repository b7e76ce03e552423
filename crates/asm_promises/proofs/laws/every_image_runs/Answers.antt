use Rattle.asm_promises.proofs.Runs.{listable, short, means}
use Rattle.asm_promises.proofs.laws.every_image_runs.Goals as goal

pub returns : goal.returns
returns c = record {
  listable = λ texts harts a e. listable texts harts a e;
  short = λ texts harts a e. short texts harts a e;
  means = λ texts harts a e. means texts harts a e;
}
