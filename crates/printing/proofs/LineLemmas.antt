-- The line of a value whose text is known.
use Rattle.std.proofs.Common.{◌≡◌, ℕ, List, [], ◌∷◌, ◌++◌, Option, None, Some}
use Rattle.std.specs.Prelude.{IfSome}
use Rattle.std.specs.Fmt.{with_newline}
use Rattle.sinks.specs.Sinks.{TakesPrefix}
use Rattle.sinks.proofs.SinkLemmas.{takes_none}

-- a text with a newline is a line
pub line_written : (output : Option (List ℕ)) (bytes : List ℕ) → IfSome (with_newline output) (λ text. bytes ≡ text) →
    IfSome output (λ said. bytes ≡ said ++ 10 ∷ [])
line_written None bytes is = tt
line_written (Some said) bytes is = is

-- where no line is made, nothing is written
pub line_unwritten : (output : Option (List ℕ)) (at : Option (List ℕ)) → IfSome output (λ said. TakesPrefix at at (said ++ 10 ∷ []))
line_unwritten None at = tt
line_unwritten (Some said) at = (_, takes_none at _)
