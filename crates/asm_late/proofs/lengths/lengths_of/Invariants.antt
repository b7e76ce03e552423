-- the bytes of the symbols so far, and then those of the others
use Rattle.std.proofs.Common.{◌≡◌, ◌++◌, drop, map}
use Rattle.asm_symbols.specs.Definitions.{definition_parts}
use Rattle.asm_late.specs.Lengths.{lengths_from}
use Rattle.asm_late.specs.Scene.{scene_parts, scene_program}
use Rattle.asm_late.proofs.lengths.lengths_of.Given as goal

abbrev pub invariant-loop-number : goal.invariant-loop-number
invariant-loop-number l =
    l.lengths.items
    ++ lengths_from (scene_program l.scene) (scene_parts l.scene) l.values l.sizes l.number (map definition_parts (drop l.number l.symbols))
    ≡ lengths_from (scene_program l.scene) (scene_parts l.scene) l.values l.sizes 0 (map definition_parts l.symbols)
