-- Short texts of instructions.
use Rattle.std.specs.Prelude.{ℕ, List, ◌++◌, codes, decimal}
use Rattle.explanations.specs.declared.pieces.Lead.{Lead}
use Rattle.explanations.specs.declared.pieces.Lead.TheVariants.{Space, Comma, Bracket}

-- what stands before a register: the first operand, a later one, or one that has an address
abbrev pub lead_text : Lead → List ℕ
lead_text Space = codes " c"
lead_text Comma = codes ", c"
lead_text Bracket = codes "(c"

-- where a value comes from that was in this register of this hart
abbrev pub from_register_text : ℕ → ℕ → List ℕ
from_register_text hart number = codes " from " ++ (decimal hart ++ (codes ":c" ++ decimal number))
