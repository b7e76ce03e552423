-- the registers so far are those of the image behind c0
use Rattle.std.proofs.Common.{◌≡◌, ℕ, ◌+◌, ◌<◌, ◌∷◌, length, get_or}
use Rattle.std.specs.Prelude.{All}
use Rattle.cap_model.specs.values.CapValue.{CapValue, IsLawfulValue}
use Rattle.cheri_model.specs.steps.Hart.{null}
use Rattle.hart.proofs.hart.opening_registers.Given as goal

abbrev pub invariant-loop-i : goal.invariant-loop-i
invariant-loop-i l =
    (length l.opened ≡ 32)
    × ((k : ℕ) (d : CapValue) → k < l.i + 1 → get_or l.opened k d ≡ get_or (null ∷ l.regs) k d)
    × All IsLawfulValue l.opened
