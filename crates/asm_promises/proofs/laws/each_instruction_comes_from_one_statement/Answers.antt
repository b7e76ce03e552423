use Rattle.asm_promises.proofs.FromStatements.{just_one, numbers_of, has_each, fits, is_inside, origin_is, map_tells}
use Rattle.asm_promises.proofs.laws.each_instruction_comes_from_one_statement.Goals as goal

pub returns : goal.returns
returns c = record {
  one = λ texts harts a few e file number other_file other n s t h k. just_one texts harts a few e file number other_file other n s t h k;
  numbers = λ texts harts a few e file number n s h. numbers_of texts harts a few e file number n s h;
  each = λ texts harts a few e file number k s there code less. has_each texts harts a few e file number k s there code less;
  fits = λ texts harts a few e file number at s operation instrs there body code is. fits texts harts a few e file number at s operation instrs there body code is;
  inside = λ texts harts a few e file number n s h. is_inside texts harts a few e file number n s h;
  origin = λ texts harts a few e n o is. origin_is texts harts a few e n o is;
  map = λ texts harts a names few e file number n s h. map_tells texts harts a few e names file number n s h;
}
