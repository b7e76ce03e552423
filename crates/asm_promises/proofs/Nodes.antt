-- Numbers of an expression's nodes have 64 bits.
use Rattle.std.proofs.Common.{◌≡◌, ℕ, ◌+◌, ◌^◌, ◌<◌, nat_lt, nat_le, Bool, true, false, cond, List, [], ◌∷◌, drop, Option, Some, None, Result, Ok, All, subst}
use Rattle.std.specs.Prelude.{bytes_eq, codes}
use Rattle.std.proofs.lemmas.List.Elements.{All-nil, All-cons, All-append, All-push, All-drop, All-head, All-tail}
use Rattle.asm_tokens.specs.declared.fault.AsmFault.{AsmFault}
use Rattle.asm_tokens.specs.declared.fault.AsmFaultKind.TheVariants.{Operand}
use Rattle.asm_tokens.specs.declared.token.Mark.{Mark}
use Rattle.asm_tokens.specs.declared.token.Mark.TheVariants as marks
use Rattle.asm_tokens.specs.declared.token.TokenKind.{TokenKind}
use Rattle.asm_tokens.specs.declared.token.TokenKind.TheVariants as kinds
use Rattle.asm_tokens.specs.Tokens.{TokenParts}
use Rattle.asm_values.specs.declared.operators.UnaryOp.{UnaryOp}
use Rattle.asm_values.specs.declared.operators.BinaryOp.{BinaryOp}
use Rattle.asm_values.specs.Operators.{level, unary_of, binary_of}
use Rattle.asm_expressions.specs.declared.draft.Waiting.{Waiting}
use Rattle.asm_expressions.specs.declared.draft.Waiting.TheVariants as waiting
use Rattle.asm_expressions.specs.declared.moves.Phase.{Phase}
use Rattle.asm_expressions.specs.declared.moves.Phase.TheVariants as phases
use Rattle.asm_expressions.specs.declared.moves.Move.{Move}
use Rattle.asm_expressions.specs.declared.moves.Move.TheVariants as moves
use Rattle.asm_expressions.specs.declared.node.Node.{Node}
use Rattle.asm_expressions.specs.declared.node.NodeKind.{NodeKind}
use Rattle.asm_expressions.specs.declared.node.NodeKind.TheVariants as nodes
use Rattle.asm_expressions.specs.Moves.{name_move, before_or_bad, mark_move, number_move, operand_of, operand_move, after_all, between_or_end, operator_mark, operator_move, name_end_move, plt_of, plt_move, move_of}
use Rattle.asm_expressions.specs.Expressions.{Pending, nothing_read, taken_if, taken, before_taken, taken_from, settled, with_leaf, moved, then_more, rest_of, expression_at}
use Rattle.asm_promises.proofs.Tokens.{IsLowKind, IsLowToken}

abbrev pub IsLowNodeKind : NodeKind → Type 0
IsLowNodeKind (nodes.Number n) = n < 2 ^ 64
IsLowNodeKind _ = Unit {0}

pub record IsLowNode (node : Node) : Type 0 where
  pub low : IsLowNodeKind node.kind

abbrev IsLowMoveOf : Move → Type 0
IsLowMoveOf (moves.Leaf kind) = IsLowNodeKind kind
IsLowMoveOf _ = Unit {0}

record IsLowMove (move : Move) : Type 0 where
  low : IsLowMoveOf move

-- ---- what tokens do

bool_low : (test : Bool) (a b : Move) → IsLowMove a → IsLowMove b → IsLowMove (cond test a b)
bool_low true a b p q = p
bool_low false a b p q = q

name_low : (text : List ℕ) → IsLowMove (name_move text)
unfolding name_move
name_low text = bool_low (bytes_eq text (codes ".")) (moves.Leaf nodes.Dot) (moves.Leaf nodes.Symbol) (record { low = tt }) (record { low = tt })

before_low : (o : Option UnaryOp) → IsLowMove (before_or_bad o)
before_low (Some op) = record { low = tt }
before_low None = record { low = tt }

mark_low : (mark : Mark) → IsLowMove (mark_move mark)
unfolding mark_move
mark_low marks.Open = record { low = tt }
mark_low mark = before_low (unary_of mark)

number_low : (o : Option ℕ) → IsLowKind (kinds.Number o) → IsLowMove (number_move o)
number_low (Some n) h = record { low = h }
number_low None h = record { low = tt }

operand_low : (kind : TokenKind) (text : List ℕ) → IsLowKind kind → IsLowMove (operand_of kind text)
operand_low (kinds.Number n) text h = number_low n h
operand_low kinds.Local text h = record { low = tt }
operand_low kinds.Name text h = name_low text
operand_low (kinds.Mark mark) text h = mark_low mark
operand_low _ text h = record { low = tt }

after_low : (inside : Bool) → IsLowMove (after_all inside)
after_low true = record { low = tt }
after_low false = record { low = tt }

between_low : (inside : Bool) (o : Option BinaryOp) → IsLowMove (between_or_end inside o)
between_low inside (Some op) = record { low = tt }
between_low inside None = after_low inside

close_low : (inside : Bool) → IsLowMove (cond inside moves.Close moves.End)
close_low true = record { low = tt }
close_low false = record { low = tt }

sign_low : (inside : Bool) (mark : Mark) → IsLowMove (operator_mark inside mark)
sign_low inside marks.Close = close_low inside
sign_low inside mark = between_low inside (binary_of mark)

operator_low : (inside : Bool) (kind : TokenKind) → IsLowMove (operator_move inside kind)
unfolding operator_move
operator_low inside (kinds.Mark mark) = sign_low inside mark
operator_low inside _ = after_low inside

name_end_low : (inside : Bool) (kind : TokenKind) → IsLowMove (name_end_move inside kind)
unfolding name_end_move
name_end_low inside (kinds.Mark marks.At) = record { low = tt }
name_end_low inside kind = operator_low inside kind

plt_low : (kind : TokenKind) (text : List ℕ) → IsLowMove (plt_of kind text)
plt_low kinds.Name text = bool_low (bytes_eq text (codes "plt")) (moves.Turn phases.Operator) (moves.Bad Operand) (record { low = tt }) (record { low = tt })
plt_low _ text = record { low = tt }

move_low : (phase : Phase) (inside : Bool) (token : TokenParts) → IsLowToken token → IsLowMove (move_of phase inside token)
unfolding move_of operand_move plt_move
move_low phases.Operand inside token h = operand_low token.kind token.text h
move_low phases.Name inside token h = name_end_low inside token.kind
move_low phases.Plt inside token h = plt_low token.kind token.text
move_low phases.Operator inside token h = operator_low inside token.kind

-- ---- what was read

taken_by : (test : Bool) (node : Node) (rest : List Node) → IsLowNode node → All IsLowNode rest → All IsLowNode (before_taken (taken_if test node) rest)
taken_by true node rest h k = All-cons IsLowNode node rest h k
taken_by false node rest h k = All-nil IsLowNode

taken_low : (least : ℕ) (ws : List Waiting) → All IsLowNode (taken_from least ws)
unfolding taken_from taken
taken_low least [] = All-nil IsLowNode
taken_low least (waiting.Bracket ∷ ws) = All-nil IsLowNode
taken_low least (waiting.Unary op at ∷ ws) =
    All-cons IsLowNode (record { kind = nodes.Unary op; at = at }) (taken_from least ws) (record { low = tt }) (taken_low least ws)
taken_low least (waiting.Binary op at ∷ ws) =
    taken_by (nat_le least (level op)) (record { kind = nodes.Binary op; at = at }) (taken_from least ws) (record { low = tt }) (taken_low least ws)

record IsLowPending (p : Pending) : Type 0 where
  low : All IsLowNode p.nodes

settled_low : (least : ℕ) (p : Pending) → IsLowPending p → IsLowPending (settled least p)
unfolding settled
settled_low least p h = record { low = All-append IsLowNode p.nodes (taken_from least p.waiting) h.low (taken_low least p.waiting) }

leaf_low : (kind : NodeKind) (at : ℕ) (p : Pending) → IsLowNodeKind kind → IsLowPending p → IsLowPending (with_leaf kind at p)
leaf_low kind at p h k = record { low = All-push IsLowNode p.nodes (record { kind = kind; at = at }) k.low (record { low = h }) }

moved_low : (move : Move) (at : ℕ) (p : Pending) → IsLowMove move → IsLowPending p → IsLowPending (moved move at p)
unfolding moved
moved_low (moves.Leaf kind) at p h k = leaf_low kind at p h.low k
moved_low moves.Open at p h k = record { low = k.low }
moved_low moves.Close at p h k = record { low = (settled_low 0 p k).low }
moved_low (moves.Before op) at p h k = record { low = k.low }
moved_low (moves.Between op) at p h k = record { low = (settled_low (level op) p k).low }
moved_low (moves.Turn phase) at p h k = record { low = k.low }
moved_low moves.End at p h k = k
moved_low (moves.Bad kind) at p h k = k

abbrev IsLowRest : (Pending → Result (List Node × ℕ) AsmFault) → Type 0
IsLowRest next = (q : Pending) (read : List Node × ℕ) → IsLowPending q → next q ≡ Ok read → All IsLowNode read.0

more_low : (move : Move) (token : TokenParts) (p : Pending) (at : ℕ) (next : Pending → Result (List Node × ℕ) AsmFault) (read : List Node × ℕ)
    → IsLowMove move → IsLowPending p → IsLowRest next → then_more move token p at next ≡ Ok read → All IsLowNode read.0
more_low (moves.Bad kind) token p at next read h k later e = absurd (cc)
more_low moves.End token p at next read h k later e =
    let is : ((settled 0 p).nodes, at) ≡ read = cc in subst (λ (r : List Node × ℕ). All IsLowNode r.0) is (settled_low 0 p k).low
more_low (moves.Leaf kind) token p at next read h k later e = later (moved (moves.Leaf kind) at p) read (moved_low (moves.Leaf kind) at p h k) e
more_low moves.Open token p at next read h k later e = later (moved moves.Open at p) read (moved_low moves.Open at p h k) e
more_low moves.Close token p at next read h k later e = later (moved moves.Close at p) read (moved_low moves.Close at p h k) e
more_low (moves.Before op) token p at next read h k later e = later (moved (moves.Before op) at p) read (moved_low (moves.Before op) at p h k) e
more_low (moves.Between op) token p at next read h k later e = later (moved (moves.Between op) at p) read (moved_low (moves.Between op) at p h k) e
more_low (moves.Turn phase) token p at next read h k later e = later (moved (moves.Turn phase) at p) read (moved_low (moves.Turn phase) at p h k) e

rest_low : (tokens : List TokenParts) (p : Pending) (at : ℕ) (read : List Node × ℕ) → All IsLowToken tokens → IsLowPending p → rest_of p at tokens ≡ Ok read
    → All IsLowNode read.0
unfolding rest_of
rest_low [] p at read low h e = absurd (cc)
rest_low (token ∷ tokens) p at read low h e =
    more_low (move_of p.phase (nat_lt 0 p.depth) token) token p at (λ q. rest_of q (at + 1) tokens) read
    (move_low p.phase (nat_lt 0 p.depth) token (All-head IsLowToken token tokens low)) h
    (λ q r k f. rest_low tokens q (at + 1) r (All-tail IsLowToken token tokens low) k f) e

pub expression_low : (tokens : List TokenParts) (at : ℕ) (read : List Node × ℕ) → All IsLowToken tokens → expression_at tokens at ≡ Ok read → All IsLowNode read.0
unfolding expression_at
expression_low tokens at read low e =
    rest_low (drop at tokens) nothing_read at read (All-drop IsLowToken at tokens low) (record { low = All-nil IsLowNode }) e
