use Rattle.std.proofs.Common.{rules}
use Rattle.simulation.proofs.SimulationLemmas.{listing_fits}
use Rattle.explained_orders.proofs.ExplainedLemmas.{shown_are}
use Rattle.explained_orders.proofs.explaining.put_run.Goals as goal

pub write-requires : goal.write-requires
write-requires c = listing_fits c.args.listing.now c.args.image.now c.requires

pub returns-in-Ok-write : goal.returns-in-Ok-write
returns-in-Ok-write c = rw (shown_are c.args.sources) (search rules)
