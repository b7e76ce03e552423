-- The nodes of a condition give it back.
use Rattle.std.proofs.Common.{◌≡◌, List, [], ◌∷◌, ◌++◌, length, refl, sym, ap, ◌∙◌, append_assoc}
use Rattle.std.proofs.lemmas.List.{append-nil}
use Rattle.conditions.specs.declared.parts.Node.{Node}
use Rattle.conditions.specs.declared.parts.Node.TheVariants as node
use Rattle.conditions.specs.Formulas.{Formula, says, deny, enclosed, join, counted, nodes_of, grow, grown, formula_of}

-- nodes of a condition and then others make it a part, and go on
grown_part : (f : Formula) (fs : List Formula) (ns : List Node) → grown fs (nodes_of f ++ ns) ≡ grown (f ∷ fs) ns
unfolding nodes_of grown grow
grown_part (says a) fs ns = refl
grown_part (deny f) fs ns =
    ap (grown fs) (append_assoc (nodes_of f) (node.Not ∷ []) ns) ∙ grown_part f fs (node.Not ∷ ns)
grown_part (enclosed f) fs ns =
    ap (grown fs) (append_assoc (nodes_of f) (node.Enclosed ∷ []) ns) ∙ grown_part f fs (node.Enclosed ∷ ns)
grown_part (join j f g) fs ns =
    let last = node.Joined j (length (nodes_of g)) in
    ap (grown fs) (append_assoc (nodes_of f) (nodes_of g ++ last ∷ []) ns)
    ∙ grown_part f fs ((nodes_of g ++ last ∷ []) ++ ns)
    ∙ ap (grown (f ∷ fs)) (append_assoc (nodes_of g) (last ∷ []) ns)
    ∙ grown_part g (f ∷ fs) (last ∷ ns)
grown_part (counted f c n) fs ns =
    ap (grown fs) (append_assoc (nodes_of f) (node.Counted c n ∷ []) ns) ∙ grown_part f fs (node.Counted c n ∷ ns)

pub given_back : (f : Formula) (nodes : List Node) → nodes ≡ nodes_of f → formula_of nodes ≡ f
unfolding formula_of grown
given_back f nodes is =
    let whole : grown [] (nodes_of f ++ []) ≡ f ∷ [] = grown_part f [] [] in
    let plain : nodes ≡ nodes_of f ++ [] = is ∙ sym (append-nil (nodes_of f)) in
    rw (plain, whole) refl

-- so these nodes are just those of the condition that they make
pub made_of : (f : Formula) (nodes : List Node) → nodes ≡ nodes_of f → nodes_of (formula_of nodes) ≡ nodes
made_of f nodes is = ap nodes_of (given_back f nodes is) ∙ sym is
