use Rattle.std.proofs.Common.{refl}
use Rattle.interner.specs.Rows.{rows_of}
use Rattle.interner.proofs.table.Interner.new.Goals as goal

pub returns-clause-rows : goal.returns-clause-rows
unfolding rows_of
returns-clause-rows c = refl
