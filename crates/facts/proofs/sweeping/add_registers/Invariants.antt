use Rattle.std.proofs.Common.{◌≡◌, ◌++◌}
use Rattle.cheri_model.specs.steps.Hart.{register}
use Rattle.origins.specs.declared.place.Place.TheVariants.{RegisterOf}
use Rattle.facts.specs.EventFacts.{swept_among}
use Rattle.facts.proofs.sweeping.add_registers.Given as goal

abbrev pub invariant-loop-k : goal.invariant-loop-k
invariant-loop-k l = l.places.items ≡ l.initial.places.items ++ swept_among (λ k. RegisterOf l.number k) (register l.hart) l.lo l.hi l.k
