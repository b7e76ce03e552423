-- Which object types are lawful: those up to the last that can be sealed with, a sentry's, and that of what is unsealed.
use Rattle.std.proofs.Common.{◌≡◌, ℕ, ◌≤◌, arith}
use Rattle.cap_model.specs.values.Capability.{IsLawfulType, unsealed_type, sentry_type, last_sealable_type}

pub unsealed_lawful : (otype : ℕ) → otype ≡ unsealed_type → IsLawfulType otype
unsealed_lawful otype e = record { below = omega (arith, e); not_reserved = λ h. omega (arith, e, h); not_reserved_either = λ h. omega (arith, e, h) }

pub sentry_lawful : (otype : ℕ) → otype ≡ sentry_type → IsLawfulType otype
sentry_lawful otype e = record { below = omega (arith, e); not_reserved = λ h. omega (arith, e, h); not_reserved_either = λ h. omega (arith, e, h) }

pub sealable_lawful : (otype : ℕ) → otype ≤ last_sealable_type → IsLawfulType otype
sealable_lawful otype e = record { below = omega (arith, e); not_reserved = λ h. omega (arith, e, h); not_reserved_either = λ h. omega (arith, e, h) }
