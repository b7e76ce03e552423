use Rattle.cap_model.specs.values.CapValue.{bits_of}
use Rattle.cap_model.specs.values.ValueFacts.{bits_of-value_at, parts_of-value_at}
use Rattle.std.proofs.lemmas.Nat.{and_mask}
use Rattle.std.proofs.Common.{◌≡◌}
use Rattle.cap_model.proofs.value.Value.addr.Goals as goal

pub returns-clause-value : goal.returns-clause-value
returns-clause-value c = let same : bits_of c.args.self ≡ c.self.inside.bits = rw (← c.self.view_is) (bits_of-value_at _ _ c.self.invariant) in rw same (and_mask c.self.inside.bits 64)

pub returns-clause-parts : goal.returns-clause-parts
returns-clause-parts c = rw (← c.self.view_is) (parts_of-value_at _ _ c.self.invariant)
