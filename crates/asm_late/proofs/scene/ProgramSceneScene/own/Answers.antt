use Rattle.asm_late.proofs.SceneLemmas.{own_place, own_assigned}
use Rattle.asm_late.proofs.scene.ProgramSceneScene.own.Goals as goal

pub returns-in-Place : goal.returns-in-Place
returns-in-Place c =
    own_place c.args.self.now c.args.symbol c.deref.result.now c.in-Some.definition.now c.deref.ensures.value c.in-Some.ensures.lookup.0 c.in-Some.ensures.lookup.1 c.in-Place.field-0 c.in-Place.field-1 c.in-Place.is

pub returns-in-Assigned : goal.returns-in-Assigned
returns-in-Assigned c =
    own_assigned c.args.self.now c.args.symbol c.deref.result.now c.in-Some.definition.now c.deref.ensures.value c.in-Some.ensures.lookup.0 c.in-Some.ensures.lookup.1 c.in-Assigned.field-0 c.in-Assigned.is
