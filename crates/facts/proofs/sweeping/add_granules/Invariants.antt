use Rattle.std.proofs.Common.{◌≡◌, ◌++◌}
use Rattle.cheri_model.specs.steps.Memory.{granule_at}
use Rattle.origins.specs.declared.place.Place.TheVariants.{GranuleOf}
use Rattle.facts.specs.EventFacts.{swept_among}
use Rattle.facts.proofs.sweeping.add_granules.Given as goal

abbrev pub invariant-loop-k : goal.invariant-loop-k
invariant-loop-k l = l.places.items ≡ l.initial.places.items ++ swept_among GranuleOf (granule_at l.ram) l.lo l.hi l.k
