-- Expressions: the nodes that tokens mean, each after those of its operands.
--
--     expression = terms joined by, from the loosest: + -   then | & ^ !   then * / % << >>
--     term       = number | local label | name | name@plt | . | - term | + term | ~ term
--                | ( expression )
--
-- They are read from the left. An operator waits for its second operand, and is taken before the
-- next operator where that one binds no tighter.
use Rattle.std.specs.Prelude.{◌≡◌, ◌⊎◌, ℕ, ◌+◌, ◌-◌, nat_le, nat_lt, Bool, if◌then◌else◌}
use Rattle.std.specs.Prelude.{List, [], ◌∷◌, ◌++◌, drop, Option, Some, None, Result, Ok, Err}
use Rattle.asm_tokens.specs.declared.fault.AsmFault.{AsmFault}
use Rattle.asm_tokens.specs.declared.fault.AsmFaultKind.TheVariants as faults
use Rattle.asm_tokens.specs.Faults.{no_memory}
use Rattle.asm_tokens.specs.Tokens.{TokenParts}
use Rattle.asm_values.specs.Operators.{level}
use Rattle.asm_expressions.specs.declared.draft.Waiting.{Waiting}
use Rattle.asm_expressions.specs.declared.draft.Waiting.TheVariants as waiting
use Rattle.asm_expressions.specs.declared.moves.Phase.{Phase}
use Rattle.asm_expressions.specs.declared.moves.Phase.TheVariants as phases
use Rattle.asm_expressions.specs.declared.moves.Move.{Move}
use Rattle.asm_expressions.specs.declared.moves.Move.TheVariants as moves
use Rattle.asm_expressions.specs.declared.node.Node.{Node}
use Rattle.asm_expressions.specs.declared.node.NodeKind.{NodeKind}
use Rattle.asm_expressions.specs.declared.node.NodeKind.TheVariants as kinds
use Rattle.asm_expressions.specs.Tokens.{nowhere}
use Rattle.asm_expressions.specs.Moves.{move_of}

-- what was read of an expression: what may come next, how many brackets are open, what waits, the
-- last first, and the nodes so far
pub record Pending : Type 0 where
  pub phase : Phase
  pub depth : ℕ
  pub waiting : List Waiting
  pub nodes : List Node

abbrev pub nothing_read : Pending
nothing_read = record { phase = phases.Operand; depth = 0; waiting = []; nodes = [] }

-- the node of an operator that waits, if it binds at least so tightly; an operator before its
-- operand binds tightest, and no operator leaves its brackets
abbrev pub taken_if : Bool → Node → Option Node
taken_if taken node = if taken then Some node else None

unfoldable pub taken : ℕ → Waiting → Option Node
taken least (waiting.Bracket) = None
taken least (waiting.Unary op at) = Some (record { kind = kinds.Unary op; at = at })
taken least (waiting.Binary op at) =
    taken_if (nat_le least (level op)) (record { kind = kinds.Binary op; at = at })

-- those that are taken, and those that still wait
abbrev pub before_taken : Option Node → List Node → List Node
before_taken (Some node) nodes = node ∷ nodes
before_taken None nodes = []

abbrev pub rest_or : Option Node → List Waiting → List Waiting → List Waiting
rest_or (Some node) rest all = rest
rest_or None rest all = all

unfoldable pub taken_from : ℕ → List Waiting → List Node
taken_from least [] = []
taken_from least (w ∷ ws) = before_taken (taken least w) (taken_from least ws)

unfoldable pub left_of : ℕ → List Waiting → List Waiting
left_of least [] = []
left_of least (w ∷ ws) = rest_or (taken least w) (left_of least ws) (w ∷ ws)

unfoldable pub settled : ℕ → Pending → Pending
settled least p =
    record {
      phase = p.phase;
      depth = p.depth;
      waiting = left_of least p.waiting;
      nodes = p.nodes ++ taken_from least p.waiting;
    }

-- after a symbol's name there may be `@plt`
abbrev pub after_leaf : NodeKind → Phase
after_leaf kinds.Symbol = phases.Name
after_leaf _ = phases.Operator

abbrev pub with_leaf : NodeKind → ℕ → Pending → Pending
with_leaf kind at p =
    record {
      phase = after_leaf kind;
      depth = p.depth;
      waiting = p.waiting;
      nodes = p.nodes ++ record { kind = kind; at = at } ∷ [];
    }

-- something that waits for an operand
abbrev pub with_waiting : Waiting → ℕ → Pending → Pending
with_waiting w depth p =
    record { phase = phases.Operand; depth = depth; waiting = w ∷ p.waiting; nodes = p.nodes }

-- a bracket is closed
abbrev pub closed : Pending → Pending
closed p =
    record {
      phase = phases.Operator;
      depth = p.depth - 1;
      waiting = drop 1 p.waiting;
      nodes = p.nodes;
    }

abbrev pub turned : Phase → Pending → Pending
turned phase p =
    record { phase = phase; depth = p.depth; waiting = p.waiting; nodes = p.nodes }

unfoldable pub moved : Move → ℕ → Pending → Pending
moved (moves.Leaf kind) at p = with_leaf kind at p
moved moves.Open at p = with_waiting waiting.Bracket (p.depth + 1) p
moved moves.Close at p = closed (settled 0 p)
moved (moves.Before op) at p = with_waiting (waiting.Unary op at) p.depth p
moved (moves.Between op) at p =
    with_waiting (waiting.Binary op at) p.depth (settled (level op) p)
moved (moves.Turn phase) at p = turned phase p
moved moves.End at p = p
moved (moves.Bad kind) at p = p

-- one token, and then the others
abbrev pub then_more : Move → TokenParts → Pending → ℕ → (Pending → Result (List Node × ℕ) AsmFault)
    → Result (List Node × ℕ) AsmFault
then_more (moves.Bad kind) token p at next = Err (record { kind = kind; place = token.place })
then_more moves.End token p at next = Ok ((settled 0 p).nodes, at)
then_more move token p at next = next (moved move at p)

-- The nodes of the rest of an expression, from the token of a number on, and the number of the
-- first token behind it; or the first token that can't stand where it is.
unfoldable pub rest_of : Pending → ℕ → List TokenParts → Result (List Node × ℕ) AsmFault
rest_of p at [] = Err (record { kind = faults.Operand; place = nowhere })
rest_of p at (token ∷ tokens) =
    then_more (move_of p.phase (nat_lt 0 p.depth) token) token p at
    (λ q. rest_of q (at + 1) tokens)

unfoldable pub expression_at : List TokenParts → ℕ → Result (List Node × ℕ) AsmFault
expression_at tokens at = rest_of nothing_read at (drop at tokens)

-- an answer gives a meaning, whose nodes come after those of before, or its fault, or out of memory
abbrev pub Adds : Result ℕ AsmFault → List Node → List Node → Result (List Node × ℕ) AsmFault
    → Type 0
Adds (Ok next) old new meaning =
    (nodes : List Node) × (meaning ≡ Ok (nodes, next)) × (new ≡ old ++ nodes)
Adds (Err fault) old new meaning = (new ≡ old) × ((fault ≡ no_memory) ⊎ (meaning ≡ Err fault))
