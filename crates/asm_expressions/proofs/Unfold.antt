-- Names for `unfolding(..)` that open what their own line names.
use Rattle.std.specs.Prelude.{ℕ, Bool, List, Result}
use Rattle.asm_tokens.specs.Tokens.{TokenParts}
use Rattle.asm_expressions.specs.declared.moves.Move.{Move}
use Rattle.asm_expressions.specs.declared.moves.Phase.{Phase}
use Rattle.asm_expressions.specs.Moves.{name_move, mark_move, operand_move, operator_move}
use Rattle.asm_expressions.specs.Moves.{name_end_move, plt_move, move_of}
use Rattle.asm_values.specs.declared.values.Value.{Value}
use Rattle.asm_expressions.specs.declared.node.Node.{Node}
use Rattle.asm_expressions.specs.declared.values.ValueFault.{ValueFault}
use Rattle.asm_expressions.specs.Values.{Meanings, with_unary, with_binary, worked}
use Rattle.asm_expressions.specs.Tokens.{kind_at, text_at, place_at, fault_at}

unfoldable pub moves : Phase → Bool → TokenParts → Move
unfolding name_move mark_move operand_move operator_move name_end_move plt_move move_of
moves phase inside token = move_of phase inside token

unfoldable pub tokens : List TokenParts → ℕ → List ℕ
unfolding kind_at text_at place_at fault_at
tokens parts at = text_at parts at

unfoldable pub values : {F : Type 0} → Meanings F → Node → List Value → Result (List Value) (ValueFault F)
unfolding with_unary with_binary worked
values m node stack = worked m node stack
