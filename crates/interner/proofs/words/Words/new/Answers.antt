use Rattle.std.proofs.Common.{◌≡◌, [], refl, rules}
use Rattle.interner.specs.Rows.{rows_of}
use Rattle.interner.proofs.words.Words.new.Goals as goal

pub returns-clause-rows : goal.returns-clause-rows
unfolding rows_of
returns-clause-rows c =
    let none : c.new.result.items ≡ [] = search rules in
    rw none refl
