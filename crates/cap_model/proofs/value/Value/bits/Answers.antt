use Rattle.cap_model.specs.values.ValueFacts.{bits_of-value_at, IsLawfulValue-value_at}
use Rattle.std.proofs.Common.{sym}
use Rattle.cap_model.proofs.value.Value.bits.Goals as goal

pub returns-clause-value : goal.returns-clause-value
returns-clause-value c = sym (rw (← c.self.view_is) (bits_of-value_at _ _ c.self.invariant))

pub returns-clause-lawful : goal.returns-clause-lawful
returns-clause-lawful c = rw (← c.self.view_is) (IsLawfulValue-value_at _ _ c.self.invariant)
