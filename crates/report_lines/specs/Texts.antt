-- Texts made of smaller ones.
use Rattle.std.specs.Prelude.{ℕ, ◌+◌, List, [], ◌∷◌, ◌++◌}

-- one text and then another; it groups to the right
infixr 65 ◌+++◌
abbrev pub ◌+++◌ : List ℕ → List ℕ → List ℕ
first +++ second = first ++ second

-- every line ends with a newline
abbrev pub line : List ℕ → List ℕ
line text = text ++ 10 ∷ []

-- the text of each item of a list, given its number; the first item has this number
unfoldable pub numbered : {X : Type 0} → (ℕ → X → List ℕ) → ℕ → List X → List ℕ
numbered text number [] = []
numbered text number (item ∷ rest) = text number item ++ numbered text (number + 1) rest
