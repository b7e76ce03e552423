use Rattle.std.proofs.Common.{◌≡◌, drop, map}
use Rattle.cheri_model.specs.instructions.Tables.{rows_of}
use Rattle.cheri_model.specs.instructions.Names.{name_in}
use Rattle.cheri_model.proofs.names.name_in.Given as goal

abbrev pub invariant-loop-rows : goal.invariant-loop-rows
invariant-loop-rows l =
    name_in (map (λ rows. rows_of rows.now) (drop l.rows-index l.tables)) l.mnemonic ≡ name_in (map (λ rows. rows_of rows.now) l.tables) l.mnemonic
