use Rattle.std.proofs.Common.{◌≡◌, drop}
use Rattle.cheri_model.specs.instructions.Tables.{rows_of}
use Rattle.cheri_model.specs.instructions.Names.{name_among}
use Rattle.cheri_model.proofs.names.name_among.Given as goal

abbrev pub invariant-loop-name : goal.invariant-loop-name
invariant-loop-name l = name_among (rows_of (drop l.name-index l.rows)) l.mnemonic ≡ name_among (rows_of l.rows) l.mnemonic
