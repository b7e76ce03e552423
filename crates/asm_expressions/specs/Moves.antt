-- What each token does in an expression.
use Rattle.std.specs.Prelude.{ℕ, Bool, if◌then◌else◌, List, codes, bytes_eq}
use Rattle.std.specs.Prelude.{Option, Some, None}
use Rattle.asm_tokens.specs.declared.fault.AsmFaultKind.TheVariants.{Operand, Range}
use Rattle.asm_tokens.specs.declared.token.Mark.{Mark}
use Rattle.asm_tokens.specs.declared.token.Mark.TheVariants as marks
use Rattle.asm_tokens.specs.declared.token.TokenKind.{TokenKind}
use Rattle.asm_tokens.specs.declared.token.TokenKind.TheVariants as kinds
use Rattle.asm_tokens.specs.Tokens.{TokenParts}
use Rattle.asm_values.specs.declared.operators.UnaryOp.{UnaryOp}
use Rattle.asm_values.specs.declared.operators.BinaryOp.{BinaryOp}
use Rattle.asm_values.specs.Operators.{unary_of, binary_of}
use Rattle.asm_expressions.specs.declared.node.NodeKind.TheVariants as nodes
use Rattle.asm_expressions.specs.declared.moves.Phase.{Phase}
use Rattle.asm_expressions.specs.declared.moves.Phase.TheVariants as phases
use Rattle.asm_expressions.specs.declared.moves.Move.{Move}
use Rattle.asm_expressions.specs.declared.moves.Move.TheVariants as moves

-- where an operand has to be: `.` is a place, another name a symbol
unfoldable pub name_move : List ℕ → Move
name_move text =
    if bytes_eq text (codes ".") then moves.Leaf nodes.Dot else moves.Leaf nodes.Symbol

abbrev pub before_or_bad : Option UnaryOp → Move
before_or_bad (Some op) = moves.Before op
before_or_bad None = moves.Bad Operand

unfoldable pub mark_move : Mark → Move
mark_move marks.Open = moves.Open
mark_move mark = before_or_bad (unary_of mark)

abbrev pub number_move : Option ℕ → Move
number_move (Some n) = moves.Leaf (nodes.Number n)
number_move None = moves.Bad Range

abbrev pub operand_of : TokenKind → List ℕ → Move
operand_of (kinds.Number n) text = number_move n
operand_of kinds.Local text = moves.Leaf nodes.Local
operand_of kinds.Name text = name_move text
operand_of (kinds.Mark mark) text = mark_move mark
operand_of _ text = moves.Bad Operand

unfoldable pub operand_move : TokenParts → Move
operand_move token = operand_of token.kind token.text

-- after an operand: an operator, a bracket that closes one that is open, or no part of the
-- expression, which ends where no bracket is open
abbrev pub after_all : Bool → Move
after_all inside = if inside then moves.Bad Operand else moves.End

abbrev pub between_or_end : Bool → Option BinaryOp → Move
between_or_end inside (Some op) = moves.Between op
between_or_end inside None = after_all inside

abbrev pub operator_mark : Bool → Mark → Move
operator_mark inside marks.Close = if inside then moves.Close else moves.End
operator_mark inside mark = between_or_end inside (binary_of mark)

unfoldable pub operator_move : Bool → TokenKind → Move
operator_move inside (kinds.Mark mark) = operator_mark inside mark
operator_move inside _ = after_all inside

-- after a symbol's name also `@plt`, which says nothing
unfoldable pub name_end_move : Bool → TokenKind → Move
name_end_move inside (kinds.Mark marks.At) = moves.Turn phases.Plt
name_end_move inside kind = operator_move inside kind

abbrev pub plt_of : TokenKind → List ℕ → Move
plt_of kinds.Name text =
    if bytes_eq text (codes "plt") then moves.Turn phases.Operator else moves.Bad Operand
plt_of _ text = moves.Bad Operand

unfoldable pub plt_move : TokenParts → Move
plt_move token = plt_of token.kind token.text

unfoldable pub move_of : Phase → Bool → TokenParts → Move
move_of phases.Operand inside token = operand_move token
move_of phases.Name inside token = name_end_move inside token.kind
move_of phases.Plt inside token = plt_move token
move_of phases.Operator inside token = operator_move inside token.kind
