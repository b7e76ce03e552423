use Rattle.asm_chains.proofs.TableLemmas.{sound_tried}
use Rattle.asm_chains.proofs.settling.try_order.Goals as goal

pub loop-symbol-preserved : goal.loop-symbol-preserved
loop-symbol-preserved g c =
    sound_tried (g.S.Scene.parts c.args.scene.now) c.loop-symbol.values.items c.try_symbol.new.values.items _ c.in_ok-try_symbol.field-0
    c.loop-symbol.invariant c.in_ok-try_symbol.ensures
