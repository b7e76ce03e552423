use Rattle.std.proofs.lemmas.Bool.{both_ways}
use Rattle.cheri_model.specs.runs.Machine.{hart_at, is_running}
use Rattle.granule_states.proofs.ScanLemmas.{respected}
use Rattle.granule_states.proofs.graph.GranuleGraph.respects.Goals as goal

pub returns-in-Some : goal.returns-in-Some
returns-in-Some c s is holds runs =
    respected c.args.self.now c.args.owners.now s c.args.hart c.in-Some.access (c.in-Some.ensures s is)
    (let all = c.asks_shared-shared.ensures in let owner = c.owner_of-owner.ensures in let allowed = c.allows.ensures in cc)

pub returns-in-None : goal.returns-in-None
returns-in-None c s is holds runs =
    absurd (both_ways (is_running (hart_at s c.args.hart).status) (c.in-None.ensures s is) runs)
