-- the files that are left
use Rattle.std.proofs.Common.{◌≡◌, drop, map}
use Rattle.asm_symbols.specs.Names.{names_of}
use Rattle.asm_starts.specs.Known.{first_named}
use Rattle.asm_starts.proofs.known.first_named.Given as goal

abbrev pub invariant-loop-names : goal.invariant-loop-names
invariant-loop-names l =
    first_named (map names_of (drop l.names-index l.own)) l.name ≡ first_named (map names_of l.own) l.name
