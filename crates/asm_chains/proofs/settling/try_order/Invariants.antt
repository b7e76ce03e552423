-- the table is sound
use Rattle.asm_chains.specs.Settling.{IsSound}
use Rattle.asm_chains.proofs.settling.try_order.Given as goal

abbrev pub invariant-loop-symbol : goal.invariant-loop-symbol
invariant-loop-symbol g l = IsSound (g.S.Scene.parts l.scene) l.values.items
