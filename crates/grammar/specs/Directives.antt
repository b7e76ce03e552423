-- The directives of a listing (this project's own format).
use Rattle.std.specs.Prelude.{ℕ, ◌==◌, nat_le, Bool, ◌&&◌, List, [], ◌∷◌, length, slice_index}
use Rattle.std.specs.Prelude.{Option, codes}
use Rattle.cheri_model.specs.instructions.Tables.{found_at}
use Rattle.grammar.specs.declared.directives.Directive.{Directive}
use Rattle.grammar.specs.declared.directives.Directive.TheVariants.{Ram, Hart, Set, Bytes, Cap}

abbrev pub directive_table : List (List ℕ × Directive)
directive_table =
    (codes ".ram", Ram) ∷ (codes ".hart", Hart) ∷ (codes ".set", Set) ∷ (codes ".bytes", Bytes)
    ∷ (codes ".cap", Cap) ∷ []

-- a token that begins with a point, as each directive does
unfoldable pub has_point : List ℕ → Bool
has_point token = nat_le 1 (length token) && (slice_index token 0 == 0x2E)

-- the directive that a token names
unfoldable pub directive_of : List ℕ → Option Directive
directive_of token = found_at directive_table token
