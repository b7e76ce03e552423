use Rattle.asm_promises.proofs.Plain.{granules_plain, harts_plain}
use Rattle.asm_promises.proofs.laws.nothing_seals_unless_it_is_written.Goals as goal

pub returns : goal.returns
returns c = record {
  granules = λ texts harts a e. granules_plain texts harts a e;
  harts = λ texts harts a e none. harts_plain texts harts a e none;
}
