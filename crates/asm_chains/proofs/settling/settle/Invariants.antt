-- the table is sound, and has ever more values
use Rattle.std.proofs.Common.{◌-◌, length}
use Rattle.asm_chains.specs.Settling.{IsSound, value_count}
use Rattle.asm_chains.proofs.settling.settle.Given as goal

abbrev pub invariant-loop-changed : goal.invariant-loop-changed
invariant-loop-changed g l = IsSound (g.S.Scene.parts l.scene) l.values.items

abbrev pub decreases-loop-changed : goal.decreases-loop-changed
decreases-loop-changed g l = length (g.S.Scene.parts l.scene).symbols - value_count l.values.items
