-- Whatever the grammar spells is read as its tree's nodes.
use Rattle.std.proofs.Common.{◌≡◌, ◌⊎◌, inl, inr, ℕ, ◌+◌, ◌-◌, ◌<◌, ◌≤◌, nat_le, nat_lt, Bool, true, false, List, [], ◌∷◌, ◌++◌, length, drop, Some, None, Ok, refl, sym, ap, ◌∙◌, append_assoc, arith}
use Rattle.std.proofs.lemmas.List.{append-nil, length-append}
use Rattle.std.proofs.lemmas.Bool.Decides.{nat_tests}
use Rattle.asm_tokens.specs.declared.token.Mark.{Mark}
use Rattle.asm_tokens.specs.declared.token.Mark.TheVariants as marks
use Rattle.asm_tokens.specs.declared.token.TokenKind.TheVariants as tokens
use Rattle.asm_tokens.specs.Tokens.{TokenParts}
use Rattle.asm_values.specs.declared.operators.BinaryOp.{BinaryOp}
use Rattle.asm_values.specs.declared.operators.BinaryOp.TheVariants as ops
use Rattle.asm_values.specs.declared.operators.UnaryOp.{UnaryOp}
use Rattle.asm_values.specs.Operators.{level, unary_of, binary_of}
use Rattle.asm_expressions.specs.declared.draft.Waiting.{Waiting}
use Rattle.asm_expressions.specs.declared.draft.Waiting.TheVariants as waiting
use Rattle.asm_expressions.specs.declared.moves.Move.{Move}
use Rattle.asm_expressions.specs.declared.moves.Move.TheVariants as moves
use Rattle.asm_expressions.specs.declared.moves.Phase.{Phase}
use Rattle.asm_expressions.specs.declared.moves.Phase.TheVariants as phases
use Rattle.asm_expressions.specs.declared.node.Node.{Node}
use Rattle.asm_expressions.specs.declared.node.NodeKind.{NodeKind}
use Rattle.asm_expressions.specs.declared.node.NodeKind.TheVariants as kinds
use Rattle.asm_expressions.specs.Drafts.{taken_first}
use Rattle.asm_expressions.specs.Expressions.{Pending, rest_of, moved, settled, taken, taken_from, left_of, after_leaf}
use Rattle.asm_expressions.specs.Grammar.{Tree, Leaf, Plt, Before, Between, Brackets, nodes_of, Spells, Ends}
use Rattle.asm_expressions.specs.Moves.{move_of, operand_move, operator_move, name_end_move, plt_move, mark_move}
use Rattle.asm_expressions.specs.Expressions.{nothing_read}

abbrev pending : Phase → ℕ → List Waiting → List Node → Pending
pending phase d ws ns = record { phase = phase; depth = d; waiting = ws; nodes = ns }

-- an operator between its operands, inside brackets or not
between_mark : (inside : Bool) (mark : Mark) (op : BinaryOp) → binary_of mark ≡ Some op → operator_move inside (tokens.Mark mark) ≡ moves.Between op
unfolding operator_move
between_mark inside marks.ShiftLeft op e = cc
between_mark inside marks.ShiftRight op e = cc
between_mark inside marks.Comma op e = cc
between_mark inside marks.Open op e = cc
between_mark inside marks.Close op e = cc
between_mark inside marks.Plus op e = cc
between_mark inside marks.Minus op e = cc
between_mark inside marks.Star op e = cc
between_mark inside marks.Slash op e = cc
between_mark inside marks.Percent op e = cc
between_mark inside marks.And op e = cc
between_mark inside marks.Or op e = cc
between_mark inside marks.Caret op e = cc
between_mark inside marks.Bang op e = cc
between_mark inside marks.Tilde op e = cc
between_mark inside marks.Colon op e = cc
between_mark inside marks.Equals op e = cc
between_mark inside marks.At op e = cc

between_name : (inside : Bool) (mark : Mark) (op : BinaryOp) → binary_of mark ≡ Some op → name_end_move inside (tokens.Mark mark) ≡ moves.Between op
unfolding name_end_move
between_name inside marks.ShiftLeft op e = between_mark inside marks.ShiftLeft op e
between_name inside marks.ShiftRight op e = between_mark inside marks.ShiftRight op e
between_name inside marks.Comma op e = between_mark inside marks.Comma op e
between_name inside marks.Open op e = between_mark inside marks.Open op e
between_name inside marks.Close op e = between_mark inside marks.Close op e
between_name inside marks.Plus op e = between_mark inside marks.Plus op e
between_name inside marks.Minus op e = between_mark inside marks.Minus op e
between_name inside marks.Star op e = between_mark inside marks.Star op e
between_name inside marks.Slash op e = between_mark inside marks.Slash op e
between_name inside marks.Percent op e = between_mark inside marks.Percent op e
between_name inside marks.And op e = between_mark inside marks.And op e
between_name inside marks.Or op e = between_mark inside marks.Or op e
between_name inside marks.Caret op e = between_mark inside marks.Caret op e
between_name inside marks.Bang op e = between_mark inside marks.Bang op e
between_name inside marks.Tilde op e = between_mark inside marks.Tilde op e
between_name inside marks.Colon op e = between_mark inside marks.Colon op e
between_name inside marks.Equals op e = between_mark inside marks.Equals op e
between_name inside marks.At op e = cc

-- an operator before its operand
before_mark : (mark : Mark) (op : UnaryOp) → unary_of mark ≡ Some op → mark_move mark ≡ moves.Before op
unfolding mark_move
before_mark marks.ShiftLeft op e = cc
before_mark marks.ShiftRight op e = cc
before_mark marks.Comma op e = cc
before_mark marks.Open op e = cc
before_mark marks.Close op e = cc
before_mark marks.Plus op e = cc
before_mark marks.Minus op e = cc
before_mark marks.Star op e = cc
before_mark marks.Slash op e = cc
before_mark marks.Percent op e = cc
before_mark marks.And op e = cc
before_mark marks.Or op e = cc
before_mark marks.Caret op e = cc
before_mark marks.Bang op e = cc
before_mark marks.Tilde op e = cc
before_mark marks.Colon op e = cc
before_mark marks.Equals op e = cc
before_mark marks.At op e = cc

-- what may come after an operand
abbrev IsAfter : Phase → Type 0
IsAfter phase = (phase ≡ phases.Operator) ⊎ (phase ≡ phases.Name)

after_is : (kind : NodeKind) → IsAfter (after_leaf kind)
after_is (kinds.Number n) = inl refl
after_is kinds.Symbol = inr refl
after_is kinds.Local = inl refl
after_is kinds.Dot = inl refl
after_is (kinds.Unary op) = inl refl
after_is (kinds.Binary op) = inl refl

between_move : (phase : Phase) (inside : Bool) (token : TokenParts) (mark : Mark) (op : BinaryOp) → IsAfter phase → token.kind ≡ tokens.Mark mark → binary_of mark ≡ Some op
    → move_of phase inside token ≡ moves.Between op
unfolding move_of
between_move phase inside token mark op (inl e) is b = rw (e, is) (between_mark inside mark op b)
between_move phase inside token mark op (inr e) is b = rw (e, is) (between_name inside mark op b)

close_move : (phase : Phase) (token : TokenParts) → IsAfter phase → token.kind ≡ tokens.Mark marks.Close → move_of phase true token ≡ moves.Close
unfolding move_of name_end_move operator_move
close_move phase token (inl e) is = rw (e, is) refl
close_move phase token (inr e) is = rw (e, is) refl

-- where the first isn't taken, none is, and then none is taken by an operator that binds tighter
left_all : (least : ℕ) (ws : List Waiting) → taken_first least ws ≡ None → left_of least ws ≡ ws
unfolding left_of
left_all least [] e = refl
left_all least (w ∷ ws) e = rw e refl

taken_none : (least : ℕ) (ws : List Waiting) → taken_first least ws ≡ None → taken_from least ws ≡ []
unfolding taken_from
taken_none least [] e = refl
taken_none least (w ∷ ws) e = rw e refl

-- What was read of an expression: the rest is read from here on, and what waits is what waited
-- before, once operators are taken that bind at least so tightly as `most` or looser ones.
record Reached (most at next : ℕ) (ts rest : List TokenParts) (d : ℕ) (ws : List Waiting) (ns made : List Node) : Type 0 where
  phase : Phase
  waits : List Waiting
  nodes : List Node
  after : IsAfter phase
  reads : rest_of (pending phases.Operand d ws ns) at (ts ++ rest) ≡ rest_of (pending phase d waits nodes) next rest
  left : (m : ℕ) → m ≤ most → left_of m waits ≡ left_of m ws
  takes : (m : ℕ) → m ≤ most → nodes ++ taken_from m waits ≡ (ns ++ made) ++ taken_from m ws

-- a token after which the expression goes on
abbrev Goes : Move → Type 0
Goes moves.End = ⊥
Goes (moves.Bad kind) = ⊥
Goes _ = Unit {0}

reads_step : (p q : Pending) (at : ℕ) (token : TokenParts) (ts : List TokenParts) (move : Move) → move_of p.phase (nat_lt 0 p.depth) token ≡ move → Goes move
    → moved move at p ≡ q → rest_of p at (token ∷ ts) ≡ rest_of q (at + 1) ts
unfolding rest_of
reads_step p q at token ts (moves.Leaf kind) is goes same = rw (is, same) refl
reads_step p q at token ts moves.Open is goes same = rw (is, same) refl
reads_step p q at token ts moves.Close is goes same = rw (is, same) refl
reads_step p q at token ts (moves.Before op) is goes same = rw (is, same) refl
reads_step p q at token ts (moves.Between op) is goes same = rw (is, same) refl
reads_step p q at token ts (moves.Turn phase) is goes same = rw (is, same) refl
reads_step p q at token ts moves.End is goes same = absurd goes
reads_step p q at token ts (moves.Bad kind) is goes same = absurd goes

-- an operand of one token
leaf_reached : (most at : ℕ) (rest : List TokenParts) (d : ℕ) (ws : List Waiting) (ns : List Node) (token : TokenParts) (kind : NodeKind) → operand_move token ≡ moves.Leaf kind
    → Reached most at (at + 1) (token ∷ []) rest d ws ns (record { kind = kind; at = at } ∷ [])
unfolding move_of moved
leaf_reached most at rest d ws ns token kind is = record {
  phase = after_leaf kind;
  waits = ws;
  nodes = ns ++ record { kind = kind; at = at } ∷ [];
  after = after_is kind;
  reads = reads_step (pending phases.Operand d ws ns) (pending (after_leaf kind) d ws (ns ++ record { kind = kind; at = at } ∷ [])) at token rest (moves.Leaf kind) is tt refl;
  left = λ m below. refl;
  takes = λ m below. refl;
}

-- a name with `@plt`
plt_reached : (most at : ℕ) (rest : List TokenParts) (d : ℕ) (ws : List Waiting) (ns : List Node) (name sign plt : TokenParts)
    → operand_move name ≡ moves.Leaf kinds.Symbol → sign.kind ≡ tokens.Mark marks.At → plt_move plt ≡ moves.Turn phases.Operator
    → Reached most at (at + 3) (name ∷ sign ∷ plt ∷ []) rest d ws ns (record { kind = kinds.Symbol; at = at } ∷ [])
unfolding move_of moved name_end_move
plt_reached most at rest d ws ns name sign plt is sign_is plt_is =
    let more = ns ++ record { kind = kinds.Symbol; at = at } ∷ [] in
    let at_sign : move_of phases.Name (nat_lt 0 d) sign ≡ moves.Turn phases.Plt = rw sign_is refl in
    record {
      phase = phases.Operator;
      waits = ws;
      nodes = more;
      after = inl refl;
      reads = reads_step (pending phases.Operand d ws ns) (pending phases.Name d ws more) at name (sign ∷ plt ∷ rest) (moves.Leaf kinds.Symbol) is tt refl
          ∙ (reads_step (pending phases.Name d ws more) (pending phases.Plt d ws more) (at + 1) sign (plt ∷ rest) (moves.Turn phases.Plt) at_sign tt refl
          ∙ (reads_step (pending phases.Plt d ws more) (pending phases.Operator d ws more) (at + 1 + 1) plt rest (moves.Turn phases.Operator) plt_is tt refl
          ∙ ap (λ (n : ℕ). rest_of (pending phases.Operator d ws more) n rest) (omega arith)));
      left = λ m below. refl;
      takes = λ m below. refl;
    }

-- an operator before its operand
before_taken : (m at : ℕ) (op : UnaryOp) (ws : List Waiting) → taken_from m (waiting.Unary op at ∷ ws) ≡ record { kind = kinds.Unary op; at = at } ∷ taken_from m ws
unfolding taken_from taken
before_taken m at op ws = refl

before_left : (m at : ℕ) (op : UnaryOp) (ws : List Waiting) → left_of m (waiting.Unary op at ∷ ws) ≡ left_of m ws
unfolding left_of taken
before_left m at op ws = refl

sign_move : (inside : Bool) (sign : TokenParts) (mark : Mark) (op : UnaryOp) → sign.kind ≡ tokens.Mark mark → unary_of mark ≡ Some op → move_of phases.Operand inside sign ≡ moves.Before op
unfolding move_of operand_move
sign_move inside sign mark op is e = rw is (before_mark mark op e)

before_reached : (most at : ℕ) (rest : List TokenParts) (d : ℕ) (ws : List Waiting) (ns made : List Node) (sign : TokenParts) (mark : Mark) (op : UnaryOp) (ts : List TokenParts)
    → most ≤ 4 → sign.kind ≡ tokens.Mark mark → unary_of mark ≡ Some op → Reached 4 (at + 1) (at + 1 + length ts) ts rest d (waiting.Unary op at ∷ ws) ns made
    → Reached most at (at + length (sign ∷ ts)) (sign ∷ ts) rest d ws ns (made ++ record { kind = kinds.Unary op; at = at } ∷ [])
unfolding moved
before_reached most at rest d ws ns made sign mark op ts within is e inner = record {
  phase = inner.phase;
  waits = inner.waits;
  nodes = inner.nodes;
  after = inner.after;
  reads = reads_step (pending phases.Operand d ws ns) (pending phases.Operand d (waiting.Unary op at ∷ ws) ns) at sign (ts ++ rest) (moves.Before op) (sign_move (nat_lt 0 d) sign mark op is e) tt refl
      ∙ (inner.reads ∙ ap (λ (n : ℕ). rest_of (pending inner.phase d inner.waits inner.nodes) n rest) (omega arith));
  left = λ m below. inner.left m (omega arith) ∙ before_left m at op ws;
  takes = λ m below. inner.takes m (omega arith) ∙ (ap (λ (more : List Node). (ns ++ made) ++ more) (before_taken m at op ws)
      ∙ (append_assoc ns made (record { kind = kinds.Unary op; at = at } ∷ taken_from m ws)
      ∙ (ap (λ (more : List Node). ns ++ more) (sym (append_assoc made (record { kind = kinds.Unary op; at = at } ∷ []) (taken_from m ws)))
      ∙ sym (append_assoc ns (made ++ record { kind = kinds.Unary op; at = at } ∷ []) (taken_from m ws)))));
}

-- brackets
open_move : (inside : Bool) (opens : TokenParts) → opens.kind ≡ tokens.Mark marks.Open → move_of phases.Operand inside opens ≡ moves.Open
unfolding move_of operand_move mark_move
open_move inside opens is = rw is refl

bracket_left : (ws : List Waiting) → left_of 0 (waiting.Bracket ∷ ws) ≡ waiting.Bracket ∷ ws
unfolding left_of taken
bracket_left ws = refl

bracket_taken : (ws : List Waiting) → taken_from 0 (waiting.Bracket ∷ ws) ≡ []
unfolding taken_from taken
bracket_taken ws = refl

is_inside : (d : ℕ) → nat_lt 0 (d + 1) ≡ true
is_inside d = grind (arith, nat_tests)

bracket_first : (ws : List Waiting) → taken_first 1 (waiting.Bracket ∷ ws) ≡ None
unfolding taken
bracket_first ws = refl

close_reached : (phase : Phase) (at d e : ℕ) (waits ws : List Waiting) (nodes more : List Node) (closes : TokenParts) (rest : List TokenParts) → IsAfter phase → closes.kind ≡ tokens.Mark marks.Close
    → e ≡ d + 1 → left_of 0 waits ≡ waiting.Bracket ∷ ws → nodes ++ taken_from 0 waits ≡ more
    → rest_of (pending phase e waits nodes) at (closes ∷ rest) ≡ rest_of (pending phases.Operator d ws more) (at + 1) rest
unfolding moved settled
close_reached phase at d e waits ws nodes more closes rest after is deeper left takes =
    let move : move_of phase (nat_lt 0 e) closes ≡ moves.Close = rw (deeper, is_inside d) (close_move phase closes after is) in
    let depth : e - 1 ≡ d = omega arith in
    reads_step (pending phase e waits nodes) (pending phases.Operator d ws more) at closes rest moves.Close move tt
    (ap (λ (n : ℕ). pending phases.Operator n (drop 1 (left_of 0 waits)) (nodes ++ taken_from 0 waits)) depth
    ∙ (ap (λ (vs : List Waiting). pending phases.Operator d (drop 1 vs) (nodes ++ taken_from 0 waits)) left
    ∙ ap (pending phases.Operator d ws) takes))

brackets_reached : (most at : ℕ) (rest : List TokenParts) (d : ℕ) (ws : List Waiting) (ns made : List Node) (opens closes : TokenParts) (ts : List TokenParts)
    → opens.kind ≡ tokens.Mark marks.Open → closes.kind ≡ tokens.Mark marks.Close → Reached 1 (at + 1) (at + 1 + length ts) ts (closes ∷ rest) (d + 1) (waiting.Bracket ∷ ws) ns made
    → Reached most at (at + length (opens ∷ (ts ++ closes ∷ []))) (opens ∷ (ts ++ closes ∷ [])) rest d ws ns made
unfolding moved
brackets_reached most at rest d ws ns made opens closes ts is_open is_close inner = record {
  phase = phases.Operator;
  waits = ws;
  nodes = ns ++ made;
  after = inl refl;
  reads = reads_step (pending phases.Operand d ws ns) (pending phases.Operand (d + 1) (waiting.Bracket ∷ ws) ns) at opens ((ts ++ closes ∷ []) ++ rest) moves.Open (open_move (nat_lt 0 d) opens is_open) tt refl
      ∙ (ap (λ (more : List TokenParts). rest_of (pending phases.Operand (d + 1) (waiting.Bracket ∷ ws) ns) (at + 1) more) (append_assoc ts (closes ∷ []) rest)
      ∙ (inner.reads
      ∙ (close_reached inner.phase (at + 1 + length ts) d (d + 1) inner.waits ws inner.nodes (ns ++ made) closes rest inner.after is_close refl
      (inner.left 0 (omega arith) ∙ bracket_left ws) (inner.takes 0 (omega arith) ∙ (ap (λ (more : List Node). (ns ++ made) ++ more) (bracket_taken ws) ∙ append-nil (ns ++ made)))
      ∙ ap (λ (n : ℕ). rest_of (pending phases.Operator d ws (ns ++ made)) n rest) (omega (arith, length-append ts (closes ∷ []))))));
  left = λ m below. refl;
  takes = λ m below. refl;
}

-- an operator between its operands
level_within : (op : BinaryOp) → level op ≤ 3
level_within ops.Add = omega arith
level_within ops.Subtract = omega arith
level_within ops.Or = omega arith
level_within ops.And = omega arith
level_within ops.Xor = omega arith
level_within ops.OrNot = omega arith
level_within ops.Multiply = omega arith
level_within ops.Divide = omega arith
level_within ops.Remainder = omega arith
level_within ops.ShiftLeft = omega arith
level_within ops.ShiftRight = omega arith

taken_tighter : (k : ℕ) (op : BinaryOp) (at : ℕ) → level op < k → taken k (waiting.Binary op at) ≡ None
unfolding taken
taken_tighter k op at h = let no : nat_le k (level op) ≡ false = grind (arith, nat_tests) in rw no refl

taken_looser : (k : ℕ) (op : BinaryOp) (at : ℕ) → k ≤ level op → taken k (waiting.Binary op at) ≡ Some (record { kind = kinds.Binary op; at = at })
unfolding taken
taken_looser k op at h = let yes : nat_le k (level op) ≡ true = grind (arith, nat_tests) in rw yes refl

still_by : (b : Bool) (k l : ℕ) (op : BinaryOp) (at : ℕ) (ws : List Waiting) → nat_le k (level op) ≡ b → k ≤ l → taken_first k (waiting.Binary op at ∷ ws) ≡ None → taken_first l (waiting.Binary op at ∷ ws) ≡ None
unfolding taken
still_by true k l op at ws is h e = let no = rw is at e in cc
still_by false k l op at ws is h e = let less : level op < l = grind (arith, nat_tests) in taken_tighter l op at less

-- what isn't taken by an operator is not taken by one that binds tighter
still_none : (k l : ℕ) (ws : List Waiting) → k ≤ l → taken_first k ws ≡ None → taken_first l ws ≡ None
unfolding taken
still_none k l [] h e = refl
still_none k l (waiting.Bracket ∷ ws) h e = refl
still_none k l (waiting.Unary op at ∷ ws) h e = cc
still_none k l (waiting.Binary op at ∷ ws) h e = still_by (nat_le k (level op)) k l op at ws refl h e

fits_there : (least k : ℕ) (ws : List Waiting) → least ≤ k → k ≤ 3 → (least ≡ 4) ⊎ (taken_first least ws ≡ None) → taken_first k ws ≡ None
fits_there least k ws h within (inl e) = absurd (omega arith)
fits_there least k ws h within (inr e) = still_none least k ws h e

looser_left : (m : ℕ) (op : BinaryOp) (at : ℕ) (ws : List Waiting) → m ≤ level op → left_of m (waiting.Binary op at ∷ ws) ≡ left_of m ws
unfolding left_of
looser_left m op at ws h = rw (taken_looser m op at h) refl

looser_taken : (m : ℕ) (op : BinaryOp) (at : ℕ) (ws : List Waiting) → m ≤ level op
    → taken_from m (waiting.Binary op at ∷ ws) ≡ record { kind = kinds.Binary op; at = at } ∷ taken_from m ws
unfolding taken_from
looser_taken m op at ws h = rw (taken_looser m op at h) refl

regroup : (a b c : List Node) (n : Node) (d : List Node) → ((a ++ b) ++ c) ++ (n ∷ d) ≡ (a ++ (b ++ (c ++ n ∷ []))) ++ d
regroup a b c n d = simp append_assoc

between_reached : (least at : ℕ) (rest : List TokenParts) (d : ℕ) (ws : List Waiting) (ns made more : List Node) (sign : TokenParts) (mark : Mark) (op : BinaryOp) (front back : List TokenParts)
    → least ≤ level op → sign.kind ≡ tokens.Mark mark → binary_of mark ≡ Some op → taken_first (level op) ws ≡ None
    → Reached (level op) at (at + length front) front (sign ∷ (back ++ rest)) d ws ns made
    → Reached (level op + 1) (at + length front + 1) (at + length front + 1 + length back) back rest d (waiting.Binary op (at + length front) ∷ ws) (ns ++ made) more
    → Reached least at (at + length (front ++ sign ∷ back)) (front ++ sign ∷ back) rest d ws ns (made ++ (more ++ record { kind = kinds.Binary op; at = at + length front } ∷ []))
unfolding moved settled
between_reached least at rest d ws ns made more sign mark op front back below is e fits first second =
    let k = level op in
    let middle = at + length front in
    let node : Node = record { kind = kinds.Binary op; at = middle } in
    let here = pending phases.Operand d (waiting.Binary op middle ∷ ws) (ns ++ made) in
    let left_now : left_of k first.waits ≡ ws = first.left k (omega arith) ∙ left_all k ws fits in
    let takes_now : first.nodes ++ taken_from k first.waits ≡ ns ++ made =
    first.takes k (omega arith) ∙ (ap (λ (xs : List Node). (ns ++ made) ++ xs) (taken_none k ws fits) ∙ append-nil (ns ++ made)) in
    record {
      phase = second.phase;
      waits = second.waits;
      nodes = second.nodes;
      after = second.after;
      reads = ap (rest_of (pending phases.Operand d ws ns) at) (append_assoc front (sign ∷ back) rest)
          ∙ (first.reads
          ∙ (reads_step (pending first.phase d first.waits first.nodes) here middle sign (back ++ rest) (moves.Between op) (between_move first.phase (nat_lt 0 d) sign mark op first.after is e) tt
          (ap (λ (vs : List Waiting). pending phases.Operand d (waiting.Binary op middle ∷ vs) (first.nodes ++ taken_from k first.waits)) left_now
          ∙ ap (pending phases.Operand d (waiting.Binary op middle ∷ ws)) takes_now)
          ∙ (second.reads
          ∙ ap (λ (n : ℕ). rest_of (pending second.phase d second.waits second.nodes) n rest) (omega (arith, length-append front (sign ∷ back))))));
      left = λ m within. second.left m (omega arith) ∙ looser_left m op middle ws (omega arith);
      takes = λ m within. second.takes m (omega arith) ∙ (ap (λ (xs : List Node). ((ns ++ made) ++ more) ++ xs) (looser_taken m op middle ws (omega arith))
          ∙ regroup ns made more node (taken_from m ws));
    }

-- whatever a tree's tokens are, they are read as its nodes
spelled : (e : Tree) (least at : ℕ) (ts rest : List TokenParts) (d : ℕ) (ws : List Waiting) (ns : List Node) → Spells least at e ts → least ≤ 4
    → (least ≡ 4) ⊎ (taken_first least ws ≡ None) → Reached least at (at + length ts) ts rest d ws ns (nodes_of at e)
unfolding Spells nodes_of
spelled (Leaf kind) least at ts rest d ws ns s within fits = rw s.1 (leaf_reached least at rest d ws ns s.0 kind s.2)
spelled Plt least at ts rest d ws ns s within fits = rw s.3 (plt_reached least at rest d ws ns s.0 s.1 s.2 s.4 s.5 s.6)
spelled (Before op operand) least at ts rest d ws ns s within fits =
    rw s.3 (before_reached least at rest d ws ns (nodes_of (at + 1) operand) s.0 s.1 op s.2 within s.4 s.5
    (spelled operand 4 (at + 1) s.2 rest d (waiting.Unary op at ∷ ws) ns s.6 (omega arith) (inl refl)))
spelled (Between op middle first second) least at ts rest d ws ns s within fits =
    let top = level_within op in
    let none : taken_first (level op) ws ≡ None = fits_there least (level op) ws s.6 top fits in
    rw (s.4, s.5) (between_reached least at rest d ws ns (nodes_of at first) (nodes_of (at + length s.0 + 1) second) s.2 s.3 op s.0 s.1 s.6 s.7 s.8 none
    (spelled first (level op) at s.0 (s.2 ∷ (s.1 ++ rest)) d ws ns s.9 (omega arith) (inr none))
    (spelled second (level op + 1) (at + length s.0 + 1) s.1 rest d (waiting.Binary op (at + length s.0) ∷ ws) (ns ++ nodes_of at first)
    (rw s.5 at s.10) (omega arith) (inr (taken_tighter (level op + 1) op (at + length s.0) (omega arith)))))
spelled (Brackets inner) least at ts rest d ws ns s within fits =
    rw s.3 (brackets_reached least at rest d ws ns (nodes_of (at + 1) inner) s.0 s.1 s.2 s.4 s.5
    (spelled inner 1 (at + 1) s.2 (s.1 ∷ rest) (d + 1) (waiting.Bracket ∷ ws) ns s.6 (omega arith) (inr (bracket_first ws))))

ends_after : (phase : Phase) (token : TokenParts) → IsAfter phase → Ends token → move_of phase false token ≡ moves.End
ends_after phase token (inl e) ends = rw e ends.0
ends_after phase token (inr e) ends = rw e ends.1

read_end : (p : Pending) (at : ℕ) (token : TokenParts) (rest : List TokenParts) → move_of p.phase (nat_lt 0 p.depth) token ≡ moves.End → rest_of p at (token ∷ rest) ≡ Ok ((settled 0 p).nodes, at)
unfolding rest_of
read_end p at token rest e = rw e refl

pub whole_is_read : (e : Tree) (at : ℕ) (ts rest : List TokenParts) (token : TokenParts) → Spells 1 at e ts → Ends token
    → rest_of nothing_read at (ts ++ token ∷ rest) ≡ Ok (nodes_of at e, at + length ts)
unfolding settled taken_from
whole_is_read e at ts rest token s ends =
    let r = spelled e 1 at ts (token ∷ rest) 0 [] [] s (omega arith) (inr refl) in
    r.reads ∙ (read_end (pending r.phase 0 r.waits r.nodes) (at + length ts) token rest (ends_after r.phase token r.after ends)
    ∙ ap (λ (nodes : List Node). Ok (nodes, at + length ts)) (r.takes 0 (omega arith) ∙ append-nil (nodes_of at e)))
