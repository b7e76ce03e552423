-- Values, and what operators give of them.
use Rattle.std.specs.Prelude.{ℕ, ◌*◌, ◌%◌, ◌^◌, ◌==◌, if◌then◌else◌, Option, Some, None}
use Rattle.std.specs.Prelude.{option_map, bit_and, bit_or, bit_xor}
use Rattle.asm_values.specs.declared.operators.UnaryOp.{UnaryOp}
use Rattle.asm_values.specs.declared.operators.UnaryOp.TheVariants.{Negate, Keep, Invert}
use Rattle.asm_values.specs.declared.operators.BinaryOp.{BinaryOp}
use Rattle.asm_values.specs.declared.operators.BinaryOp.TheVariants as ops
use Rattle.asm_values.specs.declared.values.Location.{Location}
use Rattle.asm_values.specs.declared.values.Value.{Value}
use Rattle.asm_values.specs.declared.values.Value.TheVariants.{Number, At}
use Rattle.asm_values.specs.Numbers.{inverted, negated, quotient, remainder, shifted_left}
use Rattle.asm_values.specs.Numbers.{shifted_right, sum, difference}

-- an operator before a number, or a place
abbrev pub unary_value : UnaryOp → Value → Option Value
unary_value Negate (Number n) = Some (Number (negated n))
unary_value Keep (Number n) = Some (Number n)
unary_value Invert (Number n) = Some (Number (inverted n))
unary_value Negate (At location) = None
unary_value Keep (At location) = Some (At location)
unary_value Invert (At location) = None

-- an operator between two numbers
abbrev pub binary_number : BinaryOp → ℕ → ℕ → Option ℕ
binary_number ops.Add a b = Some (sum a b)
binary_number ops.Subtract a b = Some (difference a b)
binary_number ops.Or a b = Some (bit_or a b)
binary_number ops.And a b = Some (bit_and a b)
binary_number ops.Xor a b = Some (bit_xor a b)
binary_number ops.OrNot a b = Some (bit_or a (inverted b))
binary_number ops.Multiply a b = Some ((a * b) % 2 ^ 64)
binary_number ops.Divide a b = quotient a b
binary_number ops.Remainder a b = remainder a b
binary_number ops.ShiftLeft a b = shifted_left a b
binary_number ops.ShiftRight a b = shifted_right a b

-- a place of the same symbol, at another offset
abbrev pub moved : Location → ℕ → Value
moved location offset =
    At (record { chunk = location.chunk; offset = offset; symbol = location.symbol })

-- place + number, place - number, number + place
abbrev pub moved_by : BinaryOp → Location → ℕ → Option Value
moved_by ops.Add location n = Some (moved location (sum location.offset n))
moved_by ops.Subtract location n = Some (moved location (difference location.offset n))
moved_by _ location n = None

abbrev pub moved_on : BinaryOp → ℕ → Location → Option Value
moved_on ops.Add n location = Some (moved location (sum n location.offset))
moved_on _ n location = None

-- place - place: in one chunk at once, else where it is known how far the chunks begin apart
abbrev pub distance : BinaryOp → Location → Location → Option ℕ → Option Value
distance ops.Subtract to from apart =
    if to.chunk == from.chunk then Some (Number (difference to.offset from.offset))
    else option_map (λ n. Number (sum n (difference to.offset from.offset))) apart
distance _ to from apart = None

-- an operator between two values
unfoldable pub binary_value : BinaryOp → Value → Value → Option ℕ → Option Value
binary_value op (Number a) (Number b) apart = option_map (λ n. Number n) (binary_number op a b)
binary_value op (At location) (Number n) apart = moved_by op location n
binary_value op (Number n) (At location) apart = moved_on op n location
binary_value op (At to) (At from) apart = distance op to from apart
