-- Why a sweep was not done.
use Rattle.std.specs.Prelude.{◌≡◌, ℕ, Some, None}
use Rattle.cheri_model.specs.declared.operation.Op.TheVariants as operation
use Rattle.cores.specs.Cores.{CoreParts, refused}
use Rattle.following.specs.declared.fault.SweepFault.{SweepFault}
use Rattle.following.specs.declared.fault.SweepFault.TheVariants.{Refused, NoMemory}

-- it was refused, or it was not and there was no memory
abbrev pub IsSweepFault : CoreParts → ℕ → ℕ → SweepFault → Type 0
IsSweepFault core lo hi (Refused fault) = refused core (operation.Sweep lo hi) ≡ Some fault
IsSweepFault core lo hi NoMemory = refused core (operation.Sweep lo hi) ≡ None
