-- The operators of expressions, and how tightly they bind.
use Rattle.std.specs.Prelude.{ℕ, Option, Some, None}
use Rattle.asm_tokens.specs.declared.token.Mark.{Mark}
use Rattle.asm_tokens.specs.declared.token.Mark.TheVariants as marks
use Rattle.asm_values.specs.declared.operators.UnaryOp.{UnaryOp}
use Rattle.asm_values.specs.declared.operators.UnaryOp.TheVariants.{Negate, Keep, Invert}
use Rattle.asm_values.specs.declared.operators.BinaryOp.{BinaryOp}
use Rattle.asm_values.specs.declared.operators.BinaryOp.TheVariants as ops

-- the operator that a mark is before an operand
abbrev pub unary_of : Mark → Option UnaryOp
unary_of marks.Minus = Some Negate
unary_of marks.Plus = Some Keep
unary_of marks.Tilde = Some Invert
unary_of _ = None

-- the operator that a mark is between operands
abbrev pub binary_of : Mark → Option BinaryOp
binary_of marks.Plus = Some ops.Add
binary_of marks.Minus = Some ops.Subtract
binary_of marks.Or = Some ops.Or
binary_of marks.And = Some ops.And
binary_of marks.Caret = Some ops.Xor
binary_of marks.Bang = Some ops.OrNot
binary_of marks.Star = Some ops.Multiply
binary_of marks.Slash = Some ops.Divide
binary_of marks.Percent = Some ops.Remainder
binary_of marks.ShiftLeft = Some ops.ShiftLeft
binary_of marks.ShiftRight = Some ops.ShiftRight
binary_of _ = None

-- how tightly an operator binds, from the loosest
abbrev pub level : BinaryOp → ℕ
level ops.Add = 1
level ops.Subtract = 1
level ops.Or = 2
level ops.And = 2
level ops.Xor = 2
level ops.OrNot = 2
level ops.Multiply = 3
level ops.Divide = 3
level ops.Remainder = 3
level ops.ShiftLeft = 3
level ops.ShiftRight = 3
