-- Names for `unfolding(..)` that open what their own line names.
use Rattle.std.specs.Prelude.{ℕ, List, Option}
use Rattle.asm_symbols.specs.declared.names.Names.{Names}
use Rattle.asm_symbols.specs.Names.{names_of}
use Rattle.asm_symbols.specs.Globals.{wants}
use Rattle.asm_symbols.specs.Locals.{LocalsParts, with_local, last_local}

unfoldable pub names : Names → List ℕ → Option ℕ
unfolding names_of
names n name = names_of n name

unfoldable pub globals : List Names → ℕ → List ℕ → Option ℕ
unfolding wants
globals wanted file name = wants wanted file name

unfoldable pub locals : LocalsParts → List ℕ → Option ℕ
unfolding with_local last_local
locals parts digits = last_local parts digits
