-- The grammar of expressions, as a relation: which tokens spell which tree.
--
--     expression = terms joined by, from the loosest: + -   then | & ^ !   then * / % << >>
--                  (each from the left)
--     term       = number | local label | name | name@plt | . | - term | + term | ~ term
--                | ( expression )
use Rattle.std.specs.Prelude.{◌≡◌, Result, Ok, ℕ, ◌+◌, ◌≤◌, false, List, [], ◌∷◌, ◌++◌, length}
use Rattle.std.specs.Prelude.{Some}
use Rattle.asm_tokens.specs.declared.token.Mark.{Mark}
use Rattle.asm_tokens.specs.declared.token.Mark.TheVariants as marks
use Rattle.asm_tokens.specs.declared.token.TokenKind.TheVariants as tokens
use Rattle.asm_tokens.specs.Tokens.{TokenParts}
use Rattle.asm_values.specs.declared.operators.BinaryOp.{BinaryOp}
use Rattle.asm_values.specs.declared.operators.UnaryOp.{UnaryOp}
use Rattle.asm_tokens.specs.Faults.{◌>>=◌}
use Rattle.asm_values.specs.declared.values.Value.{Value}
use Rattle.asm_values.specs.declared.values.Value.TheVariants.{Number}
use Rattle.asm_values.specs.Values.{unary_value, binary_value}
use Rattle.asm_expressions.specs.declared.values.ValueFault.{ValueFault}
use Rattle.asm_expressions.specs.Values.{Meanings, apart_of, name_value, operator_value}
use Rattle.asm_values.specs.Operators.{level, unary_of, binary_of}
use Rattle.asm_expressions.specs.declared.moves.Move.TheVariants.{Leaf as is_leaf, Turn, End}
use Rattle.asm_expressions.specs.declared.moves.Phase.TheVariants.{Name, Operator}
use Rattle.asm_expressions.specs.declared.node.Node.{Node}
use Rattle.asm_expressions.specs.declared.node.NodeKind.{NodeKind}
use Rattle.asm_expressions.specs.declared.node.NodeKind.TheVariants as kinds
use Rattle.asm_expressions.specs.Moves.{move_of, operand_move, plt_move}

-- an expression as a tree: operands, operators with the numbers of their tokens, and brackets
pub data Tree : Type 0 where
  Leaf : NodeKind → Tree
  Plt : Tree
  Before : UnaryOp → Tree → Tree
  Between : BinaryOp → ℕ → Tree → Tree → Tree
  Brackets : Tree → Tree

-- its nodes, of which the first token has this number: each after those of its operands
unfoldable pub nodes_of : ℕ → Tree → List Node
nodes_of at (Leaf kind) = record { kind = kind; at = at } ∷ []
nodes_of at Plt = record { kind = kinds.Symbol; at = at } ∷ []
nodes_of at (Before op operand) =
    nodes_of (at + 1) operand ++ record { kind = kinds.Unary op; at = at } ∷ []
nodes_of at (Between op middle first second) =
    nodes_of at first
    ++ (nodes_of (middle + 1) second ++ record { kind = kinds.Binary op; at = middle } ∷ [])
nodes_of at (Brackets inner) = nodes_of (at + 1) inner

-- whether tokens spell a tree where an operator between operands has to bind at least so tightly:
-- 1 where any may, 4 where none may without brackets
unfoldable pub Spells : ℕ → ℕ → Tree → List TokenParts → Type 0
Spells least at (Leaf kind) tokens =
    (token : TokenParts) × (tokens ≡ token ∷ []) × (operand_move token ≡ is_leaf kind)
Spells least at Plt ts =
    (name sign plt : TokenParts) × (ts ≡ name ∷ sign ∷ plt ∷ [])
    × (operand_move name ≡ is_leaf kinds.Symbol) × (sign.kind ≡ tokens.Mark marks.At)
    × (plt_move plt ≡ Turn Operator)
Spells least at (Before op operand) ts =
    (sign : TokenParts) × (mark : Mark) × (rest : List TokenParts) × (ts ≡ sign ∷ rest)
    × (sign.kind ≡ tokens.Mark mark) × (unary_of mark ≡ Some op) × Spells 4 (at + 1) operand rest
Spells least at (Between op middle first second) ts =
    (front back : List TokenParts) × (sign : TokenParts) × (mark : Mark)
    × (ts ≡ front ++ sign ∷ back) × (middle ≡ at + length front) × (least ≤ level op)
    × (sign.kind ≡ tokens.Mark mark) × (binary_of mark ≡ Some op)
    × Spells (level op) at first front × Spells (level op + 1) (middle + 1) second back
Spells least at (Brackets inner) ts =
    (opens closes : TokenParts) × (between : List TokenParts)
    × (ts ≡ opens ∷ (between ++ closes ∷ []))
    × (opens.kind ≡ tokens.Mark marks.Open) × (closes.kind ≡ tokens.Mark marks.Close)
    × Spells 1 (at + 1) inner between

-- a token after which no expression goes on
abbrev pub Ends : TokenParts → Type 0
Ends token =
    (move_of Operator false token ≡ End) × (move_of Name false token ≡ End)

-- the value of a tree, of which the first token has this number
abbrev pub leaf_value : {F : Type 0} → Meanings F → NodeKind → ℕ → Result Value (ValueFault F)
leaf_value m (kinds.Number n) at = Ok (Number n)
leaf_value m kind at = name_value (m.named (record { kind = kind; at = at }))

unfoldable pub tree_value : {F : Type 0} → Meanings F → ℕ → Tree → Result Value (ValueFault F)
tree_value m at (Leaf kind) = leaf_value m kind at
tree_value m at Plt = leaf_value m kinds.Symbol at
tree_value m at (Before op operand) = do
  value ← tree_value m (at + 1) operand
  operator_value at (unary_value op value)
tree_value m at (Between op middle first second) = do
  a ← tree_value m at first
  b ← tree_value m (middle + 1) second
  operator_value middle (binary_value op a b (apart_of m.apart a b))
tree_value m at (Brackets inner) = tree_value m (at + 1) inner
