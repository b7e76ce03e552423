-- Steps that may have no answer.
use Rattle.std.specs.Prelude.{Option, Some, None}

-- a step that may have no answer, and what follows it
infixl 10 ◌>>=◌
abbrev pub ◌>>=◌ : {A B : Type 0} → Option A → (A → Option B) → Option B
(Some x) >>= f = f x
None >>= f = None
