-- no register so far has just these rights
use Rattle.std.proofs.Common.{ℕ, ◌<◌}
use Rattle.cheri_model.specs.steps.Hart.{register}
use Rattle.alike_authority.proofs.HolderLemmas.{HasJust}
use Rattle.alike_authority.proofs.exchanging.holds.Given as goal

abbrev pub invariant-loop-number : goal.invariant-loop-number
invariant-loop-number l = (reg : ℕ) → reg < l.number → HasJust (register l.hart reg) l.rights → ⊥
