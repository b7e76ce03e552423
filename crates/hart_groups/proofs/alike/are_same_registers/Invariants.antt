-- the registers so far are the same
use Rattle.std.proofs.Common.{◌≡◌, ◌<◌, ℕ, get_or}
use Rattle.cheri_model.specs.steps.Hart.{null}
use Rattle.hart_groups.proofs.alike.are_same_registers.Given as goal

abbrev pub invariant-loop-number : goal.invariant-loop-number
invariant-loop-number l = (k : ℕ) → k < l.number → get_or l.one k null ≡ get_or l.other k null
