use Rattle.asm_chains.proofs.ChainLemmas.{values_are_known}
use Rattle.asm_chains.proofs.settling.known_values.Goals as goal

pub returns : goal.returns
returns g c = record {
  values = values_are_known (g.S.Scene.parts c.args.scene.now) c.settle.new.values.items c.in_ok-settle.ensures.0 c.in_ok-settle.ensures.1;
  settled = c.in_ok-settle.ensures;
}
