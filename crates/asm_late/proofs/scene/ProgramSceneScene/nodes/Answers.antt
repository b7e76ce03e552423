use Rattle.std.proofs.Common.{◌∙◌}
use Rattle.asm_late.proofs.SceneLemmas.{nodes_place, nodes_assigned}
use Rattle.asm_late.proofs.scene.ProgramSceneScene.nodes.Goals as goal

pub returns-in-Place : goal.returns-in-Place
returns-in-Place c =
    nodes_place c.args.self.now c.args.symbol c.deref.result.now c.in-Some.definition.now c.deref.ensures.value c.in-Some.ensures.lookup.0 c.in-Some.ensures.lookup.1 c.in-Place.field-0 c.in-Place.field-1 c.in-Place.is

pub returns-in-Assigned : goal.returns-in-Assigned
returns-in-Assigned c =
    c.nodes_in.ensures ∙ nodes_assigned c.args.self.now c.args.symbol c.deref.result.now c.in-Some.definition.now c.deref.ensures.value c.in-Some.ensures.lookup.0 c.in-Some.ensures.lookup.1 c.in-Assigned.statement c.in-Assigned.is
