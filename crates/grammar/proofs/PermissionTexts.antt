-- A permission's name is text.
use Rattle.std.proofs.Common.{◌≡◌, ℕ, ◌<◌, ◌&&◌, ◌==◌, Bool, true, false, cond, List, [], ◌∷◌, length, Option, Some, None, refl, subst, nat_lt, nat_eq, All, arith}
use Rattle.std.specs.Prelude.{IsUtf8}
use Rattle.std.specs.List.{list_all}
use Rattle.std.specs.Cmp.Lexicographic.{pointwise}
use Rattle.std.proofs.lemmas.Slice.Eq.{bytes_eq-Decides}
use Rattle.std.proofs.lemmas.Str.{IsUtf8-from_ascii}
use Rattle.std.proofs.lemmas.Str.Ascii.{IsAscii-from_all}
use Rattle.std.proofs.lemmas.List.Elements.{All-nil, All-cons}
use Rattle.std.proofs.lemmas.Bool.Decides.{nat_tests}
use Rattle.bitflags.specs.Sets.{Row, find_row}
use Rattle.cap_model.specs.words.PermissionNames.{permission_table}
use Rattle.grammar.specs.Permissions.{permission_named}

abbrev are_ascii : List ℕ → Bool
are_ascii = list_all (λ b. nat_lt b 128)

-- what a conjunction says of its parts
pub first : (a b : Bool) → (a && b) ≡ true → a ≡ true
first true b e = refl
first false b e = e

pub second : (a b : Bool) → (a && b) ≡ true → b ≡ true
second true b e = e
second false b e = absurd (cc)

below_where : (b : ℕ) → nat_lt b 128 ≡ true → b < 128
below_where b e = grind (arith, nat_tests)

all_below : (bs : List ℕ) → are_ascii bs ≡ true → All (λ b. b < 128) bs
all_below [] e = All-nil (λ b. b < 128)
all_below (b ∷ bs) e = All-cons (λ b. b < 128) b bs (below_where b (first _ _ e)) (all_below bs (second _ _ e))

text_where : (bs : List ℕ) → are_ascii bs ≡ true → IsUtf8 bs
text_where bs e = IsUtf8-from_ascii bs (IsAscii-from_all bs (all_below bs e))

abbrev has_ascii_name : Row → Bool
has_ascii_name row = are_ascii row.0

row_or_later : (row : Row) (name : List ℕ) (later : Option ℕ) (same : Bool) → pointwise nat_eq row.0 name ≡ same → are_ascii row.0 ≡ true → ¬ (IsUtf8 name) → later ≡ None → cond same (Some row.1) later ≡ None
row_or_later row name later false at ascii h e = e
row_or_later row name later true at ascii h e = absurd (h (subst IsUtf8 ((bytes_eq-Decides row.0 name).0 at) (text_where row.0 ascii)))

-- where the names are ASCII, no row is at a name that is not text
no_row : (rows : List Row) (name : List ℕ) → list_all has_ascii_name rows ≡ true → ¬ (IsUtf8 name) → find_row rows name ≡ None
unfolding find_row
no_row [] name e h = refl
no_row (row ∷ rows) name e h = row_or_later row name _ _ refl (first _ _ e) h (no_row rows name (second _ _ e) h)

where_named : (empty : Bool) (found : Option ℕ) → found ≡ None → cond empty None found ≡ None
where_named true found e = refl
where_named false found e = e

-- a name that is not text is no permission's
pub no_name_beyond_text : (name : List ℕ) → ¬ (IsUtf8 name) → permission_named name ≡ None
unfolding permission_named
no_name_beyond_text name h = where_named (length name == 0) _ (no_row permission_table name refl h)
