-- What expressions are worth, by their nodes from the first to the last.
use Rattle.std.specs.Prelude.{◌≡◌, ◌⊎◌, ℕ, List, [], ◌∷◌, Option, Some, None, Result, Ok, Err}
use Rattle.asm_tokens.specs.Faults.{◌>>=◌}
use Rattle.asm_values.specs.declared.operators.BinaryOp.{BinaryOp}
use Rattle.asm_values.specs.declared.operators.UnaryOp.{UnaryOp}
use Rattle.asm_values.specs.declared.values.Value.{Value}
use Rattle.asm_values.specs.declared.values.Value.TheVariants as values
use Rattle.asm_values.specs.Values.{unary_value, binary_value}
use Rattle.asm_expressions.specs.declared.node.Node.{Node}
use Rattle.asm_expressions.specs.declared.node.NodeKind.{NodeKind}
use Rattle.asm_expressions.specs.declared.node.NodeKind.TheVariants as kinds
use Rattle.asm_expressions.specs.declared.values.ValueFault.{ValueFault}
use Rattle.asm_expressions.specs.declared.values.ValueFault.TheVariants.{Operator, Name, NoMemory}

-- what names mean, and how far chunks begin apart
pub record Meanings (F : Type 0) : Type 0 where
  pub named : Node → Result Value F
  pub apart : ℕ → ℕ → Option ℕ

-- how far the chunks of two places begin apart
abbrev pub apart_of : (ℕ → ℕ → Option ℕ) → Value → Value → Option ℕ
apart_of apart (values.At to) (values.At from) = apart to.chunk from.chunk
apart_of apart _ _ = None

-- the value of an operator, if it has one of such operands
abbrev pub operator_value : {F : Type 0} → ℕ → Option Value → Result Value (ValueFault F)
operator_value at (Some value) = Ok value
operator_value at None = Err (Operator at)

abbrev pub name_value : {F : Type 0} → Result Value F → Result Value (ValueFault F)
name_value (Ok value) = Ok value
name_value (Err fault) = Err (Name fault)

-- a value on top of others
abbrev pub on_top : {F : Type 0} → Result Value (ValueFault F) → List Value
    → Result (List Value) (ValueFault F)
on_top (Ok value) rest = Ok (value ∷ rest)
on_top (Err fault) rest = Err fault

-- an operator takes its operands, which are the last values
unfoldable pub with_unary : {F : Type 0} → UnaryOp → ℕ → List Value
    → Result (List Value) (ValueFault F)
with_unary op at (value ∷ rest) = on_top (operator_value at (unary_value op value)) rest
with_unary op at [] = Err (Operator at)

unfoldable pub with_binary : {F : Type 0} → (ℕ → ℕ → Option ℕ) → BinaryOp → ℕ → List Value
    → Result (List Value) (ValueFault F)
with_binary apart op at (second ∷ first ∷ rest) =
    on_top (operator_value at (binary_value op first second (apart_of apart first second))) rest
with_binary apart op at _ = Err (Operator at)

abbrev pub worked_kind : {F : Type 0} → Meanings F → NodeKind → ℕ → Node → List Value
    → Result (List Value) (ValueFault F)
worked_kind m (kinds.Number n) at node stack = Ok (values.Number n ∷ stack)
worked_kind m (kinds.Unary op) at node stack = with_unary op at stack
worked_kind m (kinds.Binary op) at node stack = with_binary m.apart op at stack
worked_kind m _ at node stack = on_top (name_value (m.named node)) stack

-- the values after a node
unfoldable pub worked : {F : Type 0} → Meanings F → Node → List Value
    → Result (List Value) (ValueFault F)
worked m node stack = worked_kind m node.kind node.at node stack

-- the values after all nodes, the last first
unfoldable pub values_of : {F : Type 0} → Meanings F → List Value → List Node
    → Result (List Value) (ValueFault F)
values_of m stack [] = Ok stack
values_of m stack (node ∷ nodes) = worked m node stack >>= λ more. values_of m more nodes

-- an expression has one value, its last one
abbrev pub top_of : {F : Type 0} → List Value → Result Value (ValueFault F)
top_of (value ∷ rest) = Ok value
top_of [] = Err (Operator 0)

unfoldable pub value_of : {F : Type 0} → Meanings F → List Node → Result Value (ValueFault F)
value_of m nodes = values_of m [] nodes >>= top_of

-- an answer gives a meaning, or is out of memory
abbrev pub GivesValue : {X F : Type 0} → Result X (ValueFault F) → Result X (ValueFault F)
    → Type 0
GivesValue result meaning = (result ≡ Err NoMemory) ⊎ (result ≡ meaning)

-- the same of what was done to a stack of values, of which nothing is said after a fault
abbrev pub IsWorked : {F : Type 0} → Result (Unit {0}) (ValueFault F) → List Value
    → Result (List Value) (ValueFault F) → Type 0
IsWorked (Ok done) stack meaning = meaning ≡ Ok stack
IsWorked (Err fault) stack meaning = (fault ≡ NoMemory) ⊎ (meaning ≡ Err fault)

abbrev pub meanings_of : {F : Type 0} → (Node → Result Value F) → (ℕ → ℕ → Option ℕ) → Meanings F
meanings_of named apart = record { named = named; apart = apart }
