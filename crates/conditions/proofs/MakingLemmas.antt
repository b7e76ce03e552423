-- The entries of nodes, one after another, are those of the condition that the nodes make.
use Rattle.std.proofs.Common.{◌≡◌, ℕ, ◌+◌, ◌-◌, ◌<◌, ◌≤◌, List, [], ◌∷◌, ◌++◌, length, get_or, take, drop, refl, sym, ap, ◌∙◌, append_assoc, arith}
use Rattle.std.specs.Prelude.{Option, Some, None, slice_get}
use Rattle.std.proofs.lemmas.List.{append-nil, length-append, map-append, drop_all, drop_more}
use Rattle.conditions.specs.declared.entries.Entry.{Entry}
use Rattle.conditions.specs.declared.parts.Joint.{Joint}
use Rattle.conditions.specs.declared.parts.Node.{Node}
use Rattle.conditions.specs.declared.parts.Node.TheVariants as node
use Rattle.conditions.specs.declared.parts.Subject.{Subject}
use Rattle.conditions.specs.Formulas.{Formula, says, deny, enclosed, join, counted, nodes_of, formula_of}
use Rattle.conditions.specs.Hiding.{alone, alone_both}
use Rattle.conditions.specs.Entries.{entry, entries_of, kept_nodes, alone_of, last_alone, alone_after, entries_with}
use Rattle.conditions.proofs.FormulaLemmas.{given_back}
use Rattle.conditions.proofs.EntryLemmas.{as_many, before_last, last_of, split_last, cut}

-- ---- the last entry of a condition

get_pushed : (xs : List Entry) (e : Entry) → slice_get (xs ++ e ∷ []) (length xs) ≡ Some e
get_pushed [] e = refl
get_pushed (x ∷ xs) e = get_pushed xs e

last_pushed : (xs : List Entry) (e : Entry) → last_alone (xs ++ e ∷ []) ≡ e.alone
unfolding last_alone
last_pushed xs e =
    let place : length (xs ++ e ∷ []) - 1 ≡ length xs = omega (arith, length-append xs (e ∷ [])) in
    ap (λ n. alone_of (slice_get (xs ++ e ∷ []) n)) place ∙ ap alone_of (get_pushed xs e)

last_after : (xs : List Entry) (f : Formula) → last_alone (xs ++ entries_of f) ≡ alone f
last_after xs f =
    ap (λ es. last_alone (xs ++ es)) (split_last f)
    ∙ ap last_alone (sym (append_assoc xs (before_last f) (entry (last_of f) (alone f) ∷ [])))
    ∙ last_pushed (xs ++ before_last f) (entry (last_of f) (alone f))

pub last_is : (f : Formula) (entries : List Entry) → entries ≡ entries_of f → last_alone entries ≡ alone f
last_is f entries is = ap last_alone is ∙ last_after [] f

-- ---- one after another

one_more : (es : List Entry) (n : Node) (who : Option Subject) (ns : List Node) → alone_after es n ≡ who
    → entries_with es (n ∷ ns) ≡ entries_with (es ++ entry n who ∷ []) ns
unfolding entries_with
one_more es n who ns is = ap (λ (w : Option Subject). entries_with (es ++ entry n w ∷ []) ns) is

-- those of a part's own parts, then its node
closed : (es xs : List Entry) (n : Node) (who : Option Subject) (ns : List Node) → alone_after (es ++ xs) n ≡ who
    → entries_with (es ++ xs) (n ∷ ns) ≡ entries_with (es ++ (xs ++ entry n who ∷ [])) ns
closed es xs n who ns is =
    one_more (es ++ xs) n who ns is ∙ ap (λ l. entries_with l ns) (append_assoc es xs (entry n who ∷ []))

both_after : (es : List Entry) (f g : Formula) (j : Joint) → alone_after ((es ++ entries_of f) ++ entries_of g) (node.Joined j (length (nodes_of g))) ≡ alone_both (alone f) (alone g)
unfolding alone_after
both_after es f g j =
    let all = (es ++ entries_of f) ++ entries_of g in
    let first : take (length all - length (nodes_of g)) all ≡ es ++ entries_of f =
    ap (λ n. take (length all - n) all) (sym (as_many g)) ∙ (cut (es ++ entries_of f) (entries_of g)).0 in
    ap (λ l. alone_both (last_alone l) (last_alone all)) first
    ∙ ap (λ (w : Option Subject). alone_both w (last_alone all)) (last_after es f)
    ∙ ap (λ (w : Option Subject). alone_both (alone f) w) (last_after (es ++ entries_of f) g)

pub made_with : (f : Formula) (es : List Entry) (ns : List Node) → entries_with es (nodes_of f ++ ns) ≡ entries_with (es ++ entries_of f) ns
unfolding nodes_of entries_of alone alone_after
made_with (says a) es ns = one_more es (node.Says a) (alone (says a)) ns refl
made_with (deny f) es ns =
    ap (entries_with es) (append_assoc (nodes_of f) (node.Not ∷ []) ns) ∙ made_with f es (node.Not ∷ ns)
    ∙ closed es (entries_of f) node.Not (alone f) ns (last_after es f)
made_with (enclosed f) es ns =
    ap (entries_with es) (append_assoc (nodes_of f) (node.Enclosed ∷ []) ns) ∙ made_with f es (node.Enclosed ∷ ns)
    ∙ closed es (entries_of f) node.Enclosed (alone f) ns (last_after es f)
made_with (join j f g) es ns =
    let last = node.Joined j (length (nodes_of g)) in
    ap (entries_with es) (append_assoc (nodes_of f) (nodes_of g ++ last ∷ []) ns)
    ∙ made_with f es ((nodes_of g ++ last ∷ []) ++ ns)
    ∙ ap (entries_with (es ++ entries_of f)) (append_assoc (nodes_of g) (last ∷ []) ns)
    ∙ made_with g (es ++ entries_of f) (last ∷ ns)
    ∙ closed (es ++ entries_of f) (entries_of g) last (alone_both (alone f) (alone g)) ns (both_after es f g j)
    ∙ ap (λ l. entries_with l ns) (append_assoc es (entries_of f) (entries_of g ++ entry last (alone_both (alone f) (alone g)) ∷ []))
made_with (counted f c n) es ns =
    ap (entries_with es) (append_assoc (nodes_of f) (node.Counted c n ∷ []) ns) ∙ made_with f es (node.Counted c n ∷ ns)
    ∙ closed es (entries_of f) (node.Counted c n) None ns refl

pub all_made : (f : Formula) (nodes : List Node) → nodes ≡ nodes_of f → entries_with [] nodes ≡ entries_of f
unfolding entries_with
all_made f nodes is = ap (entries_with []) (is ∙ sym (append-nil (nodes_of f))) ∙ made_with f [] []

-- ---- the loop: the entries so far, with those of the nodes that are left

pub left_more : (all : List Entry) (es : List Entry) (nodes : List Node) (place : ℕ) (n d : Node) (who : Option Subject) → place < length nodes
    → n ≡ get_or nodes place d → who ≡ alone_after es n → entries_with es (drop place nodes) ≡ all
    → entries_with (es ++ entry n who ∷ []) (drop (place + 1) nodes) ≡ all
unfolding entries_with
left_more all es nodes place n d who room here is now =
    let step : drop place nodes ≡ n ∷ drop (place + 1) nodes =
    drop_more nodes place d room ∙ ap (λ (m : Node). m ∷ drop (place + 1) nodes) (sym here) in
    sym (one_more es n who (drop (place + 1) nodes) (sym is)) ∙ ap (entries_with es) (sym step) ∙ now

pub left_none : (all : List Entry) (es : List Entry) (nodes : List Node) (place : ℕ) → length nodes ≤ place → entries_with es (drop place nodes) ≡ all → es ≡ all
unfolding entries_with
left_none all es nodes place end now = sym (ap (entries_with es) (drop_all place nodes end)) ∙ now

-- ---- the nodes of entries

pub nodes_kept : (f : Formula) → kept_nodes (entries_of f) ≡ nodes_of f
unfolding entries_of nodes_of
nodes_kept (says a) = refl
nodes_kept (deny f) = map-append _ (entries_of f) _ ∙ ap (λ l. l ++ node.Not ∷ []) (nodes_kept f)
nodes_kept (enclosed f) = map-append _ (entries_of f) _ ∙ ap (λ l. l ++ node.Enclosed ∷ []) (nodes_kept f)
nodes_kept (join j f g) =
    map-append _ (entries_of f) _ ∙ ap (λ l. l ++ kept_nodes (entries_of g ++ entry (node.Joined j (length (nodes_of g))) (alone (join j f g)) ∷ [])) (nodes_kept f)
    ∙ ap (λ l. nodes_of f ++ l) (map-append _ (entries_of g) _ ∙ ap (λ l. l ++ node.Joined j (length (nodes_of g)) ∷ []) (nodes_kept g))
nodes_kept (counted f c n) = map-append _ (entries_of f) _ ∙ ap (λ l. l ++ node.Counted c n ∷ []) (nodes_kept f)

-- so they are a condition's entries
pub kept_whole : (f : Formula) (entries : List Entry) → entries ≡ entries_of f → entries ≡ entries_of (formula_of (kept_nodes entries))
kept_whole f entries is = is ∙ ap entries_of (sym (given_back f (kept_nodes entries) (ap kept_nodes is ∙ nodes_kept f)))
