-- The exit: what a hart's first function returns to.
use Rattle.std.specs.Prelude.{pos, List, [], ◌∷◌}
use Rattle.cheri_model.specs.declared.instr.Instr.{Instr}
use Rattle.cheri_model.specs.declared.instr.Instr.TheVariants as instr

-- the guard, a jump through null, which traps; and then the exit, which halts the hart
unfoldable pub exit : List Instr
exit = instr.CJalr 0 0 (pos 0) ∷ instr.Ecall ∷ []
