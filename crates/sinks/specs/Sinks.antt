-- What a sink has taken of a text.
use Rattle.std.specs.Prelude.{◌≡◌, ℕ, List, ◌++◌, Option}
use Rattle.std.specs.Io.KnownBytes.{Appends}

-- Between two moments a sink that tells its bytes took all of a text but what is left.
pub record TakesAllBut (before after : Option (List ℕ)) (left text : List ℕ) : Type 0 where
  pub taken : List ℕ
  pub grown : Appends before after taken
  pub parts : taken ++ left ≡ text

-- Between two moments a sink that tells its bytes took a prefix of a text.
abbrev pub TakesPrefix : Option (List ℕ) → Option (List ℕ) → List ℕ → Type 0
TakesPrefix before after text = (left : List ℕ) × TakesAllBut before after left text

-- A sink in memory: its bytes, the most that a put takes, how many puts from now on one fails, or 0
-- where none does, and how many have failed.
pub record Memory : Type 0 where
  pub bytes : List ℕ
  pub most : ℕ
  pub fails_in : ℕ
  pub failures : ℕ
