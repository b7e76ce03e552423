-- A token that does not begin with a point is no directive.
use Rattle.std.proofs.Common.{◌≡◌, ℕ, ◌&&◌, Bool, true, false, List, [], ◌∷◌, None, refl, sym, ap, ◌∙◌}
use Rattle.std.specs.Prelude.{bytes_eq}
use Rattle.std.specs.List.{list_all}
use Rattle.std.proofs.lemmas.Slice.Eq.{bytes_eq-Decides}
use Rattle.grammar.specs.declared.directives.Directive.{Directive}
use Rattle.cheri_model.specs.instructions.Tables.{found_at}
use Rattle.grammar.specs.Directives.{has_point, directive_table, directive_of}

named_where : (row : List ℕ × Directive) (rows : List (List ℕ × Directive)) (token : List ℕ) (same : Bool) → bytes_eq row.0 token ≡ same → has_point row.0 ≡ true
    → has_point token ≡ false → found_at rows token ≡ None → found_at (row ∷ rows) token ≡ None
unfolding found_at
named_where row rows token true e point none h = absurd (let no : true ≡ false = sym point ∙ ap has_point ((bytes_eq-Decides row.0 token).0 e) ∙ none in cc)
named_where row rows token false e point none h = rw e h

rows_where : (row : List ℕ × Directive) (rows : List (List ℕ × Directive)) (token : List ℕ) (point rest : Bool) → has_point row.0 ≡ point → (point && rest) ≡ true
    → has_point token ≡ false → (rest ≡ true → found_at rows token ≡ None) → found_at (row ∷ rows) token ≡ None
rows_where row rows token true rest e all none h = named_where row rows token (bytes_eq row.0 token) refl e none (h all)
rows_where row rows token false rest e all none h = absurd (cc)

none_pointed : (rows : List (List ℕ × Directive)) (token : List ℕ) → list_all (λ row. has_point row.0) rows ≡ true → has_point token ≡ false → found_at rows token ≡ None
unfolding found_at
none_pointed [] token all none = refl
none_pointed (row ∷ rows) token all none =
    rows_where row rows token (has_point row.0) (list_all (λ r. has_point r.0) rows) refl all none (λ rest. none_pointed rows token rest none)

pub no_directive : (token : List ℕ) → has_point token ≡ false → None ≡ directive_of token
unfolding directive_of has_point
no_directive token none = sym (none_pointed directive_table token refl none)
