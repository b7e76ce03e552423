-- Sweeps `[LO,HI]` in orders of version 2 (this project's own format).
use Rattle.std.specs.Prelude.{ℕ, ◌+◌, nat_lt, ◌&&◌, if◌then◌else◌, List, drop, Result, Ok, Err}
use Rattle.cap_model.specs.declared.encoding.TheConstants.{ADDRESS_SPACE}
use Rattle.cheri_model.specs.declared.operation.Op.{Op}
use Rattle.cheri_model.specs.declared.operation.Op.TheVariants as operation
use Rattle.cheri_model.specs.runs.Sweeps.{is_range}
use Rattle.orders.specs.declared.fault.OrderFault.{OrderFault}
use Rattle.orders.specs.Faults.{◌>>=◌, range_fault}
use Rattle.orders.specs.Numbers.{number_of, number_end}

-- the sweep of a range, or the fault at its `[`
abbrev pub sweep_of : ℕ → ℕ → ℕ → Result Op OrderFault
sweep_of place lo hi =
    if is_range lo hi && nat_lt lo ADDRESS_SPACE then Ok (operation.Sweep lo hi)
    else Err (range_fault place)

-- the sweep whose `[` is at a place, and the place after its `]`
unfoldable pub sweep_at : List ℕ → ℕ → Result (Op × ℕ) OrderFault
sweep_at text place = do
  comma ← number_end 0x2C text (place + 1)
  bracket ← number_end 0x5D text (comma + 1)
  sweep ← sweep_of place (number_of (drop (place + 1) text)) (number_of (drop (comma + 1) text))
  Ok (sweep, bracket + 1)
