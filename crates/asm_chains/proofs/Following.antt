-- Expressions whose names have more values: what had a value still has it, and so has a fault of its own.
use Rattle.std.proofs.Common.{◌≡◌, ℕ, List, [], ◌∷◌, Result, Ok, Err, Option, Some, None, refl, sym}
use Rattle.asm_expressions.specs.declared.node.Node.{Node}
use Rattle.asm_expressions.specs.declared.node.NodeKind.{NodeKind}
use Rattle.asm_expressions.specs.declared.node.NodeKind.TheVariants as kinds
use Rattle.asm_expressions.specs.declared.values.ValueFault.{ValueFault}
use Rattle.asm_expressions.specs.declared.values.ValueFault.TheVariants.{Operator, Name, NoMemory}
use Rattle.asm_expressions.specs.Values.{Meanings, value_of, values_of, worked, worked_kind, with_unary, with_binary, on_top, operator_value, name_value, top_of, apart_of}
use Rattle.asm_tokens.specs.Faults.{◌>>=◌}
use Rattle.asm_values.specs.declared.operators.UnaryOp.{UnaryOp}
use Rattle.asm_values.specs.declared.operators.BinaryOp.{BinaryOp}
use Rattle.asm_values.specs.declared.values.Value.{Value}
use Rattle.asm_values.specs.Values.{unary_value, binary_value}

-- the second names have the values of the first ones
pub record Extends {F G : Type 0} (m : Meanings F) (n : Meanings G) : Type 0 where
  pub named : (node : Node) (value : Value) → m.named node ≡ Ok value → n.named node ≡ Ok value
  pub apart : m.apart ≡ n.apart

-- the second answer by the first one
abbrev pub Follows : {F G X : Type 0} → Meanings F → Meanings G → Result X (ValueFault F) → Result X (ValueFault G) → Type 0
Follows m n (Ok x) second = second ≡ Ok x
Follows m n (Err (Operator at)) second = second ≡ Err (Operator at)
Follows {F} {G} m n (Err (Name fault)) second =
    (node : Node) × (m.named node ≡ Err fault) × ((other : G) → n.named node ≡ Err other → second ≡ Err (Name other))
Follows m n (Err NoMemory) second = second ≡ Err NoMemory

module _ {F G : Type 0} (m : Meanings F) (n : Meanings G) (extends : Extends m n) where
  then_follows : {X Y : Type 0} (a : Result X (ValueFault F)) (b : Result X (ValueFault G)) (f : X → Result Y (ValueFault F)) (g : X → Result Y (ValueFault G))
      → Follows m n a b → ((x : X) → Follows m n (f x) (g x)) → Follows m n (a >>= f) (b >>= g)
  then_follows (Ok x) b f g first next = rw first (next x)
  then_follows (Err (Operator at)) b f g first next = rw first refl
  then_follows (Err (Name fault)) b f g first next =
      (first.0, first.1, λ other refused. rw (first.2 other refused) refl)
  then_follows (Err NoMemory) b f g first next = rw first refl

  put_follows : (at : ℕ) (value : Option Value) (stack : List Value)
      → Follows m n (on_top {F = F} (operator_value at value) stack) (on_top {F = G} (operator_value at value) stack)
  put_follows at (Some value) stack = refl
  put_follows at None stack = refl

  unary_follows : (op : UnaryOp) (at : ℕ) (stack : List Value) → Follows m n (with_unary {F = F} op at stack) (with_unary {F = G} op at stack)
  unfolding with_unary
  unary_follows op at [] = refl
  unary_follows op at (value ∷ rest) = put_follows at (unary_value op value) rest

  binary_follows : (apart : ℕ → ℕ → Option ℕ) (op : BinaryOp) (at : ℕ) (stack : List Value)
      → Follows m n (with_binary {F = F} apart op at stack) (with_binary {F = G} apart op at stack)
  unfolding with_binary
  binary_follows apart op at [] = refl
  binary_follows apart op at (second ∷ []) = refl
  binary_follows apart op at (second ∷ (first ∷ rest)) =
      put_follows at (binary_value op first second (apart_of apart first second)) rest

  name_by : (node : Node) (stack : List Value) (first : Result Value F) → m.named node ≡ first
      → Follows m n (on_top (name_value first) stack) (on_top (name_value (n.named node)) stack)
  name_by node stack (Ok value) is = rw (extends.named node value is) refl
  name_by node stack (Err fault) is = (node, is, λ other refused. rw refused refl)

  name_follows : (node : Node) (stack : List Value) → Follows m n (on_top (name_value (m.named node)) stack) (on_top (name_value (n.named node)) stack)
  name_follows node stack = name_by node stack (m.named node) refl

  kind_follows : (kind : NodeKind) (node : Node) (stack : List Value) → Follows m n (worked_kind m kind node.at node stack) (worked_kind n kind node.at node stack)
  kind_follows (kinds.Number number) node stack = refl
  kind_follows (kinds.Unary op) node stack = unary_follows op node.at stack
  kind_follows (kinds.Binary op) node stack = rw (sym extends.apart) (binary_follows m.apart op node.at stack)
  kind_follows kinds.Symbol node stack = name_follows node stack
  kind_follows kinds.Local node stack = name_follows node stack
  kind_follows kinds.Dot node stack = name_follows node stack

  node_follows : (node : Node) (stack : List Value) → Follows m n (worked m node stack) (worked n node stack)
  unfolding worked
  node_follows node stack = kind_follows node.kind node stack

  all_follow : (stack : List Value) (nodes : List Node) → Follows m n (values_of m stack nodes) (values_of n stack nodes)
  unfolding values_of
  all_follow stack [] = refl
  all_follow stack (node ∷ nodes) =
      then_follows (worked m node stack) (worked n node stack) (λ more. values_of m more nodes) (λ more. values_of n more nodes) (node_follows node stack)
      (λ more. all_follow more nodes)

  top_follows : (stack : List Value) → Follows m n (top_of {F = F} stack) (top_of {F = G} stack)
  top_follows [] = refl
  top_follows (value ∷ rest) = refl

  pub value_follows : (nodes : List Node) → Follows m n (value_of m nodes) (value_of n nodes)
  unfolding value_of
  value_follows nodes = then_follows (values_of m [] nodes) (values_of n [] nodes) top_of top_of (all_follow [] nodes) top_follows
