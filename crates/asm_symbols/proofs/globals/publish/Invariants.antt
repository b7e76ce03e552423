-- the names of the symbols so far, and then those of the others
use Rattle.std.proofs.Common.{◌≡◌, drop, map}
use Rattle.asm_symbols.specs.Names.{no_names, names_of}
use Rattle.asm_symbols.specs.Definitions.{definition_parts}
use Rattle.asm_symbols.specs.Globals.{wants, published}
use Rattle.asm_symbols.proofs.globals.publish.Given as goal

abbrev pub invariant-loop-number : goal.invariant-loop-number
invariant-loop-number l =
    published (wants l.wanted) l.number (names_of l.names) (map definition_parts (drop l.number l.symbols))
    ≡ published (wants l.wanted) 0 no_names (map definition_parts l.symbols)
