-- a way of marked symbols, and what follows from here
use Rattle.std.proofs.Common.{◌≡◌, ℕ, ◌-◌, List}
use Rattle.asm_chains.specs.Marks.{IsMarked}
use Rattle.asm_chains.specs.Tables.{fault_on, symbol_fault}
use Rattle.asm_chains.proofs.faults.symbol_fault.Given as goal

abbrev pub invariant-loop-step : goal.invariant-loop-step
invariant-loop-step g l =
    (way : List ℕ) × IsMarked (g.S.Scene.parts l.scene) way l.met.items
    × (fault_on (g.S.Scene.parts l.scene) l.values (l.count - l._step) way l.at l.told
    ≡ symbol_fault (g.S.Scene.parts l.scene) l.values l.symbol l.fn.again)
