-- A condition as a tree, and the order in which its nodes are kept: each after its parts.
use Rattle.std.specs.Prelude.{ℕ, List, [], ◌∷◌, ◌++◌, length}
use Rattle.conditions.specs.declared.parts.Atom.{Atom}
use Rattle.conditions.specs.declared.parts.Atom.TheVariants.{HasStatus}
use Rattle.conditions.specs.declared.parts.Comparison.{Comparison}
use Rattle.conditions.specs.declared.parts.Joint.{Joint}
use Rattle.conditions.specs.declared.parts.Node.{Node}
use Rattle.conditions.specs.declared.parts.Node.TheVariants as node
use Rattle.conditions.specs.declared.parts.StatusTest.TheVariants.{Running}
use Rattle.conditions.specs.declared.parts.Subject.TheVariants.{Numbered}

-- An atom; `not`; a condition in parentheses; two parts that are joined; and how many harts a
-- condition holds of, each in turn, compared with a number.
pub data Formula : Type 0 where
  says : Atom → Formula
  deny : Formula → Formula
  enclosed : Formula → Formula
  join : Joint → Formula → Formula → Formula
  counted : Formula → Comparison → ℕ → Formula

unfoldable pub nodes_of : Formula → List Node
nodes_of (says a) = node.Says a ∷ []
nodes_of (deny f) = nodes_of f ++ node.Not ∷ []
nodes_of (enclosed f) = nodes_of f ++ node.Enclosed ∷ []
nodes_of (join j f g) = nodes_of f ++ (nodes_of g ++ node.Joined j (length (nodes_of g)) ∷ [])
nodes_of (counted f c n) = nodes_of f ++ node.Counted c n ∷ []

-- the parts that wait for their node, the last one first
unfoldable pub grow : Node → List Formula → List Formula
grow (node.Says a) fs = says a ∷ fs
grow node.Not (f ∷ fs) = deny f ∷ fs
grow node.Enclosed (f ∷ fs) = enclosed f ∷ fs
grow (node.Joined j n) (g ∷ f ∷ fs) = join j f g ∷ fs
grow (node.Counted c n) (f ∷ fs) = counted f c n ∷ fs
grow _ fs = fs

unfoldable pub grown : List Formula → List Node → List Formula
grown fs [] = fs
grown fs (n ∷ ns) = grown (grow n fs) ns

-- the tree of nodes that are a condition's
abbrev pub last_part : List Formula → Formula
last_part (f ∷ fs) = f
last_part [] = says (HasStatus (Numbered 0) Running)

unfoldable pub formula_of : List Node → Formula
formula_of nodes = last_part (grown [] nodes)
