-- the table is sound, and this is said of the symbols so far
use Rattle.asm_chains.specs.Settling.{IsSound, PassesTo}
use Rattle.asm_chains.proofs.settling.pass.Given as goal

abbrev pub invariant-loop-symbol : goal.invariant-loop-symbol
invariant-loop-symbol g l =
    IsSound (g.S.Scene.parts l.scene) l.values.items
    × PassesTo l.changed (g.S.Scene.parts l.scene) l.initial.values.items l.values.items l.symbol
