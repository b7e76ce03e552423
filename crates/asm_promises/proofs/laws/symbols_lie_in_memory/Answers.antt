use Rattle.asm_promises.proofs.Symbols.{symbols_begin, symbols_end, table_ends, symbols_apart}
use Rattle.asm_promises.proofs.laws.symbols_lie_in_memory.Goals as goal

pub returns : goal.returns
returns c = record {
  begin = λ texts harts a few e. symbols_begin texts harts a few e;
  end = λ texts harts a few e. symbols_end texts harts a few e;
  table = λ texts harts a few e. table_ends texts harts a few e;
  apart = λ texts harts a few e. symbols_apart texts harts a few e;
}
