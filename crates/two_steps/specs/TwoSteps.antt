-- Two steps of a core.
use Rattle.std.specs.Prelude.{◌≡◌, ℕ, ◌⊎◌}
use Rattle.cheri_model.specs.declared.operation.Op.TheVariants as operation
use Rattle.cheri_model.specs.declared.trace.Entry.{Entry}
use Rattle.cheri_model.specs.runs.Machine.{entry_of}
use Rattle.cores.specs.Cores.{CoreParts, core_after}

-- a core after one step of a hart
abbrev pub stepped : CoreParts → ℕ → CoreParts
stepped core hart = core_after core (operation.Step hart)

-- each entry is that of the step of its hart, from the state that it found
pub record IsStepTwice (old : CoreParts) (first second : ℕ) (entries : Entry × Entry)
    (new : CoreParts) : Type 0 where
  pub earlier : entries.0 ≡ entry_of old.image old.state first
  pub later : entries.1 ≡ entry_of old.image (stepped old first).state second
  pub after : new ≡ stepped (stepped old first) second

-- no step was taken, or only the first
abbrev pub IsUnstepped : CoreParts → ℕ → CoreParts → Type 0
IsUnstepped old first new = (new ≡ old) ⊎ (new ≡ stepped old first)
