use Rattle.asm_chains.proofs.ChainLemmas.{less_left}
use Rattle.asm_chains.proofs.settling.settle.Goals as goal

pub loop-changed-smaller : goal.loop-changed-smaller
loop-changed-smaller g c =
    less_left (g.S.Scene.parts c.args.scene.now) c.loop-changed.values.items c.pass.new.values.items c.in_ok-changed.changed c.if-not-changed.false
    c.in_ok-changed.ensures.0 c.in_ok-changed.ensures.1
