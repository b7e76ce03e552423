-- What contracts see of a machine that threads share.
use Rattle.std.specs.Prelude.{Bool, true, false}
use Rattle.cores.specs.Cores.{CoreParts}
use Rattle.shared_machine.specs.declared.watching.watched.Stage.{Stage}
use Rattle.shared_machine.specs.declared.watching.watched.Stage.TheVariants.{Alone, Copied}

-- its core, and whether watchers have two copies of it, as they have from the first watch on
pub record MachineParts : Type 0 where
  pub core : CoreParts
  pub is_copied : Bool

-- a machine that nobody has watched
abbrev pub unwatched : CoreParts → MachineParts
unwatched core = record { core = core; is_copied = false }

-- the machine whose core is alone, or in copies
abbrev pub machine_at : {J : Type 0} → Stage J → MachineParts
machine_at (Alone core) = unwatched core
machine_at (Copied core) = record { core = core; is_copied = true }
