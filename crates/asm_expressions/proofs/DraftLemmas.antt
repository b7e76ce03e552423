-- What waits in an expression.
use Rattle.std.proofs.Common.{◌≡◌, ℕ, ◌-◌, ◌<◌, List, [], ◌∷◌, ◌++◌, reverse, length, get_or, Option, Some, None, refl, ap, ◌∙◌, append_assoc, arith, option_to_list}
use Rattle.std.proofs.lemmas.List.{append-nil, get_or-reverse, length-reverse}
use Rattle.asm_expressions.specs.declared.draft.Waiting.{Waiting}
use Rattle.asm_expressions.specs.declared.node.Node.{Node}
use Rattle.asm_expressions.specs.Drafts.{taken_first}
use Rattle.asm_expressions.proofs.StackLemmas.{popped_some}
use Rattle.asm_expressions.specs.Expressions.{Pending, settled, taken, taken_from, left_of}

-- the first is the last item
first_there : (least : ℕ) (ws : List Waiting) (d : Waiting) → 0 < length ws → taken_first least ws ≡ taken least (get_or ws 0 d)
first_there least [] d some = absurd (omega arith)
first_there least (w ∷ ws) d some = refl

pub first_waiting : (least : ℕ) (ws : List Waiting) (d : Waiting) → 0 < length ws → taken_first least (reverse ws) ≡ taken least (get_or ws (length ws - 1) d)
first_waiting least ws d some =
    first_there least (reverse ws) d (rw length-reverse some)
    ∙ ap (taken least) (get_or-reverse ws 0 d some ∙ ap (λ n. get_or ws n d) (omega arith))

pub none_waiting : (least : ℕ) (ws : List Waiting) → length ws ≡ 0 → taken_first least (reverse ws) ≡ None
none_waiting least [] e = refl
none_waiting least (w ∷ ws) e = absurd (omega arith)

abbrev pub with_parts : Pending → List Waiting → List Node → Pending
with_parts p ws nodes = record { phase = p.phase; depth = p.depth; waiting = ws; nodes = nodes }

-- where the first isn't taken, none is
settled_here : (least : ℕ) (p : Pending) (ws : List Waiting) → p.waiting ≡ ws → taken_first least ws ≡ None → settled least p ≡ p
unfolding settled left_of taken_from
settled_here least p [] e none =
    rw e (ap (with_parts p []) (append-nil p.nodes))
settled_here least p (w ∷ ws) e none =
    rw (e, none) (ap (with_parts p (w ∷ ws)) (append-nil p.nodes))

pub settled_none : (least : ℕ) (p : Pending) → taken_first least p.waiting ≡ None → settled least p ≡ p
settled_none least p none = settled_here least p p.waiting refl none

-- where it is taken, it is the next node
taken_before : (least : ℕ) (w : Waiting) (ws : List Waiting) (node : Node) → taken least w ≡ Some node → taken_from least (w ∷ ws) ≡ node ∷ taken_from least ws
unfolding taken_from
taken_before least w ws node e = rw e refl

left_after : (least : ℕ) (w : Waiting) (ws : List Waiting) (node : Node) → taken least w ≡ Some node → left_of least (w ∷ ws) ≡ left_of least ws
unfolding left_of
left_after least w ws node e = rw e refl

abbrev with_taken : Pending → List Waiting → Node → Pending
with_taken p ws node = record { phase = p.phase; depth = p.depth; waiting = ws; nodes = p.nodes ++ node ∷ [] }

pub settled_more : (least : ℕ) (p : Pending) (w : Waiting) (ws : List Waiting) (node : Node) → p.waiting ≡ w ∷ ws → taken least w ≡ Some node
    → settled least (with_taken p ws node) ≡ settled least p
unfolding settled
settled_more least p w ws node is e =
    rw (is, left_after least w ws node e, taken_before least w ws node e)
    (ap (with_parts p (left_of least ws))
    (append_assoc p.nodes (node ∷ []) (taken_from least ws)))

some_waiting : (least : ℕ) (xs : List Waiting) (node : Node) → taken_first least (reverse xs) ≡ Some node → 0 < length xs
some_waiting least [] node e = cc
some_waiting least (w ∷ ws) node e = omega arith

pub is_waiting : (least : ℕ) (xs : List Waiting) (count : ℕ) (node : Node) → length xs ≡ count → taken_first least (reverse xs) ≡ Some node → 0 < count
is_waiting least xs count node is e = rw (← is) (some_waiting least xs node e)

pub settled_turn : (least : ℕ) (p : Pending) (xs ys : List Waiting) (r : Option Waiting) (w : Waiting) (node : Node) (ns : List Node) → p.waiting ≡ reverse xs
    → xs ≡ ys ++ option_to_list r → r ≡ Some w → taken_first least (reverse xs) ≡ Some node → ns ≡ p.nodes ++ node ∷ []
    → settled least (with_parts p (reverse ys) ns) ≡ settled least p
settled_turn least p xs ys r w node ns is popped some e more =
    let whole : reverse xs ≡ w ∷ reverse ys = popped_some xs ys w (rw some at popped) in
    let taken_now : taken least w ≡ Some node = rw whole at e in
    rw more (settled_more least p w (reverse ys) node (is ∙ whole) taken_now)
