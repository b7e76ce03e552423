-- The value of a tree's nodes is the tree's.
use Rattle.std.proofs.Common.{◌≡◌, ℕ, ◌+◌, Bool, true, false, bytes_eq, codes, subst, List, [], ◌∷◌, ◌++◌, Some, None, Result, Ok, Err, refl, sym, ap, ◌∙◌, append_assoc}
use Rattle.std.proofs.lemmas.List.{append-nil}
use Rattle.asm_tokens.specs.Faults.{◌>>=◌}
use Rattle.asm_tokens.specs.declared.token.Mark.{Mark}
use Rattle.asm_tokens.specs.declared.token.Mark.TheVariants as marks
use Rattle.asm_tokens.specs.declared.token.TokenKind.{TokenKind}
use Rattle.asm_tokens.specs.declared.token.TokenKind.TheVariants as tokens
use Rattle.asm_tokens.specs.Tokens.{TokenParts}
use Rattle.asm_values.specs.declared.operators.BinaryOp.{BinaryOp}
use Rattle.asm_values.specs.declared.operators.UnaryOp.{UnaryOp}
use Rattle.asm_values.specs.declared.values.Value.{Value}
use Rattle.asm_values.specs.Values.{unary_value, binary_value}
use Rattle.asm_expressions.specs.declared.node.Node.{Node}
use Rattle.asm_expressions.specs.declared.node.NodeKind.{NodeKind}
use Rattle.asm_expressions.specs.declared.node.NodeKind.TheVariants as kinds
use Rattle.asm_expressions.specs.declared.values.ValueFault.{ValueFault}
use Rattle.asm_values.specs.Operators.{level}
use Rattle.asm_expressions.specs.declared.moves.Move.{Move}
use Rattle.asm_expressions.specs.declared.moves.Move.TheVariants as moves
use Rattle.asm_expressions.specs.Moves.{name_move, mark_move, operand_of, operand_move}
use Rattle.asm_expressions.specs.Grammar.{Spells, Tree, Leaf, Plt, Before, Between, Brackets, nodes_of, tree_value, leaf_value}
use Rattle.asm_expressions.specs.Values.{Meanings, apart_of, name_value, on_top, operator_value, top_of, value_of, values_of, with_binary, with_unary, worked}

-- what follows a value
abbrev after : {F : Type 0} → Meanings F → List Value → List Node → Result Value (ValueFault F) → Result (List Value) (ValueFault F)
after m stack rest (Ok v) = values_of m (v ∷ stack) rest
after m stack rest (Err fault) = Err fault

named_after : {F : Type 0} (m : Meanings F) (stack : List Value) (rest : List Node) (v : Result Value (ValueFault F)) → (on_top v stack >>= λ more. values_of m more rest) ≡ after m stack rest v
named_after m stack rest (Ok v) = refl
named_after m stack rest (Err fault) = refl

-- the nodes that a token alone may be
abbrev IsOperand : NodeKind → Type 0
IsOperand (kinds.Unary op) = ⊥
IsOperand (kinds.Binary op) = ⊥
IsOperand _ = Unit {0}

leaf_after : {F : Type 0} (m : Meanings F) (kind : NodeKind) (at : ℕ) (stack : List Value) (rest : List Node) → IsOperand kind
    → values_of m stack (record { kind = kind; at = at } ∷ rest) ≡ after m stack rest (leaf_value m kind at)
unfolding values_of worked
leaf_after m (kinds.Number n) at stack rest is = refl
leaf_after m kinds.Symbol at stack rest is = named_after m stack rest (name_value (m.named (record { kind = kinds.Symbol; at = at })))
leaf_after m kinds.Local at stack rest is = named_after m stack rest (name_value (m.named (record { kind = kinds.Local; at = at })))
leaf_after m kinds.Dot at stack rest is = named_after m stack rest (name_value (m.named (record { kind = kinds.Dot; at = at })))
leaf_after m (kinds.Unary op) at stack rest is = absurd is
leaf_after m (kinds.Binary op) at stack rest is = absurd is

-- which nodes tokens are
abbrev IsLeafOf : Move → Type 0
IsLeafOf (moves.Leaf kind) = IsOperand kind
IsLeafOf _ = Unit {0}

name_leaf : (b : Bool) (text : List ℕ) → bytes_eq text (codes ".") ≡ b → IsLeafOf (name_move text)
unfolding name_move
name_leaf true text e = rw e tt
name_leaf false text e = rw e tt

mark_leaf : (mark : Mark) → IsLeafOf (mark_move mark)
unfolding mark_move
mark_leaf marks.ShiftLeft = tt
mark_leaf marks.ShiftRight = tt
mark_leaf marks.Comma = tt
mark_leaf marks.Open = tt
mark_leaf marks.Close = tt
mark_leaf marks.Plus = tt
mark_leaf marks.Minus = tt
mark_leaf marks.Star = tt
mark_leaf marks.Slash = tt
mark_leaf marks.Percent = tt
mark_leaf marks.And = tt
mark_leaf marks.Or = tt
mark_leaf marks.Caret = tt
mark_leaf marks.Bang = tt
mark_leaf marks.Tilde = tt
mark_leaf marks.Colon = tt
mark_leaf marks.Equals = tt
mark_leaf marks.At = tt

operand_leaf : (kind : TokenKind) (text : List ℕ) → IsLeafOf (operand_of kind text)
operand_leaf (tokens.Number (Some n)) text = tt
operand_leaf (tokens.Number None) text = tt
operand_leaf tokens.Local text = tt
operand_leaf tokens.Name text = name_leaf (bytes_eq text (codes ".")) text refl
operand_leaf (tokens.Mark mark) text = mark_leaf mark
operand_leaf tokens.String text = tt
operand_leaf tokens.Request text = tt
operand_leaf tokens.End text = tt

token_leaf : (token : TokenParts) (kind : NodeKind) → operand_move token ≡ moves.Leaf kind → IsOperand kind
unfolding operand_move
token_leaf token kind e = subst IsLeafOf e (operand_leaf token.kind token.text)

-- operators after the values of their operands
unary_after : {F : Type 0} (m : Meanings F) (op : UnaryOp) (at : ℕ) (stack : List Value) (rest : List Node) (v : Result Value (ValueFault F))
    → after m stack (record { kind = kinds.Unary op; at = at } ∷ rest) v ≡ after m stack rest (v >>= λ value. operator_value at (unary_value op value))
unfolding values_of worked with_unary
unary_after m op at stack rest (Ok value) = named_after m stack rest (operator_value at (unary_value op value))
unary_after m op at stack rest (Err fault) = refl

binary_after : {F : Type 0} (m : Meanings F) (op : BinaryOp) (at : ℕ) (stack : List Value) (rest : List Node) (a : Value) (v : Result Value (ValueFault F))
    → after m (a ∷ stack) (record { kind = kinds.Binary op; at = at } ∷ rest) v
    ≡ after m stack rest (v >>= λ b. operator_value at (binary_value op a b (apart_of m.apart a b)))
unfolding values_of worked with_binary
binary_after m op at stack rest a (Ok b) = named_after m stack rest (operator_value at (binary_value op a b (apart_of m.apart a b)))
binary_after m op at stack rest a (Err fault) = refl

both_after : {F : Type 0} (m : Meanings F) (op : BinaryOp) (at : ℕ) (stack : List Value) (second rest : List Node) (u v : Result Value (ValueFault F))
    → ((a : Value) → values_of m (a ∷ stack) (second ++ record { kind = kinds.Binary op; at = at } ∷ rest) ≡ after m (a ∷ stack) (record { kind = kinds.Binary op; at = at } ∷ rest) v)
    → after m stack (second ++ record { kind = kinds.Binary op; at = at } ∷ rest) u
    ≡ after m stack rest (u >>= λ a. v >>= λ b. operator_value at (binary_value op a b (apart_of m.apart a b)))
both_after m op at stack second rest (Ok a) v h = h a ∙ binary_after m op at stack rest a v
both_after m op at stack second rest (Err fault) v h = refl

tree_after : {F : Type 0} (m : Meanings F) (e : Tree) (least at : ℕ) (ts : List TokenParts) (stack : List Value) (rest : List Node) → Spells least at e ts
    → values_of m stack (nodes_of at e ++ rest) ≡ after m stack rest (tree_value m at e)
unfolding Spells nodes_of tree_value
tree_after m (Leaf kind) least at ts stack rest s = leaf_after m kind at stack rest (token_leaf s.0 kind s.2)
tree_after m Plt least at ts stack rest s = leaf_after m kinds.Symbol at stack rest tt
tree_after m (Before op operand) least at ts stack rest s =
    ap (values_of m stack) (append_assoc (nodes_of (at + 1) operand) (record { kind = kinds.Unary op; at = at } ∷ []) rest)
    ∙ (tree_after m operand 4 (at + 1) s.2 stack (record { kind = kinds.Unary op; at = at } ∷ rest) s.6
    ∙ unary_after m op at stack rest (tree_value m (at + 1) operand))
tree_after m (Between op middle first second) least at ts stack rest s =
    let node : Node = record { kind = kinds.Binary op; at = middle } in
    ap (values_of m stack) (append_assoc (nodes_of at first) (nodes_of (middle + 1) second ++ node ∷ []) rest
    ∙ ap (λ more. nodes_of at first ++ more) (append_assoc (nodes_of (middle + 1) second) (node ∷ []) rest))
    ∙ (tree_after m first (level op) at s.0 stack (nodes_of (middle + 1) second ++ node ∷ rest) s.9
    ∙ both_after m op middle stack (nodes_of (middle + 1) second) rest (tree_value m at first) (tree_value m (middle + 1) second)
    (λ (a : Value). tree_after m second (level op + 1) (middle + 1) s.1 (a ∷ stack) (node ∷ rest) s.10))
tree_after m (Brackets inner) least at ts stack rest s = tree_after m inner 1 (at + 1) s.2 stack rest s.6

ended : {F : Type 0} (m : Meanings F) (v : Result Value (ValueFault F)) → (after m [] [] v >>= top_of) ≡ v
unfolding values_of
ended m (Ok value) = refl
ended m (Err fault) = refl

pub tree_worked : {F : Type 0} (m : Meanings F) (e : Tree) (least at : ℕ) (ts : List TokenParts) → Spells least at e ts → value_of m (nodes_of at e) ≡ tree_value m at e
unfolding value_of
tree_worked m e least at ts s =
    ap (λ nodes. values_of m [] nodes >>= top_of) (sym (append-nil (nodes_of at e)))
    ∙ (ap (λ r. r >>= top_of) (tree_after m e least at ts [] [] s) ∙ ended m (tree_value m at e))
