use Rattle.asm_chains.proofs.TableLemmas.{sound_tried, passed_on}
use Rattle.asm_chains.proofs.settling.pass.Goals as goal

pub loop-symbol-preserved : goal.loop-symbol-preserved
loop-symbol-preserved g c = (
  sound_tried (g.S.Scene.parts c.args.scene.now) c.loop-symbol.values.items c.try_symbol.new.values.items c.loop-symbol.symbol c.in_ok-found.found
      c.loop-symbol.invariant.0 c.in_ok-found.ensures,
  rw c.either-changed.ensures (passed_on (g.S.Scene.parts c.args.scene.now) c.args.values.now.items c.loop-symbol.values.items c.try_symbol.new.values.items c.loop-symbol.symbol
      c.loop-symbol.changed c.in_ok-found.found c.loop-symbol.invariant.1 c.in_ok-found.ensures),
)
