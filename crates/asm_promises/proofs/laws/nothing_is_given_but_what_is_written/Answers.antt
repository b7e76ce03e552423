use Rattle.asm_promises.proofs.Given.{granules_given, harts_are_given}
use Rattle.asm_promises.proofs.laws.nothing_is_given_but_what_is_written.Goals as goal

pub returns : goal.returns
returns c = record {
  granules = λ texts harts a e. granules_given texts harts a e;
  harts = λ texts harts a e. harts_are_given texts harts a e;
}
