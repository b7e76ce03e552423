-- A text is plain where each byte is, newlines between its lines aside.
use Rattle.std.proofs.Common.{◌≡◌, ℕ, ◌==◌, ◌<◌, ◌||◌, ◌&&◌, Bool, true, false, List, [], ◌∷◌, length, fold, get_or, refl, sym, ◌∙◌}
use Rattle.std.specs.List.{list_all, onto_first}
use Rattle.std.proofs.lemmas.List.Folds.{list_all_at}
use Rattle.grammar.specs.Lines.{is_plain, lines_of}

abbrev is_plain_line : List ℕ → Bool
is_plain_line line = list_all is_plain line

abbrev is_plain_here : ℕ → Bool
is_plain_here b = is_plain b || (b == 0x0A)

folded : (plain : Bool) (text : List ℕ) → fold (λ (some : Bool) b. some && is_plain_here b) plain text ≡ (plain && list_all is_plain_here text)
folded true [] = refl
folded false [] = refl
folded true (b ∷ text) = folded (is_plain_here b) text
folded false (b ∷ text) = folded false text

and_assoc : (a b c : Bool) → ((a && b) && c) ≡ (a && (b && c))
and_assoc true b c = refl
and_assoc false b c = refl

onto_plain : (x : ℕ) (parts : List (List ℕ)) → list_all is_plain_line (onto_first x parts) ≡ (is_plain x && list_all is_plain_line parts)
onto_plain x [] = and_assoc (is_plain x) true true
onto_plain x (part ∷ parts) = and_assoc (is_plain x) (list_all is_plain part) (list_all is_plain_line parts)

ended : (plain rest whole : Bool) → rest ≡ whole → ((plain || true) && rest) ≡ whole
ended true rest whole h = h
ended false rest whole h = h

inside : (plain rest whole : Bool) → rest ≡ whole → ((plain || false) && rest) ≡ (plain && whole)
inside true rest whole h = h
inside false rest whole h = refl

lines_where : (ends : Bool) (x : ℕ) (xs : List ℕ) → (x == 0x0A) ≡ ends → list_all is_plain_here xs ≡ list_all is_plain_line (lines_of xs)
    → list_all is_plain_here (x ∷ xs) ≡ list_all is_plain_line (lines_of (x ∷ xs))
lines_where true x xs e h = rw e (ended (is_plain x) _ _ h)
lines_where false x xs e h = rw e (inside (is_plain x) _ _ h ∙ sym (onto_plain x (lines_of xs)))

plain_lines : (text : List ℕ) → list_all is_plain_here text ≡ list_all is_plain_line (lines_of text)
plain_lines [] = refl
plain_lines (x ∷ xs) = lines_where (x == 0x0A) x xs refl (plain_lines xs)

pub each_line_plain : (text : List ℕ) → fold (λ (plain : Bool) b. plain && (is_plain b || (b == 0x0A))) true text ≡ list_all (λ line. list_all is_plain line) (lines_of text)
each_line_plain text = folded true text ∙ plain_lines text

plain_where : (all plain : Bool) (lines : List (List ℕ)) (place : ℕ) (line : List ℕ) → list_all is_plain_line lines ≡ all → list_all is_plain line ≡ plain
    → place < length lines → line ≡ get_or lines place line → all ≡ true → plain ≡ true
plain_where all true lines place line e f h is a = refl
plain_where all false lines place line e f h is a = absurd (let no = list_all_at is_plain_line lines place line h (rw (sym is) f) in cc)

-- a line of such a text is plain
pub plain_at : (text line : List ℕ) (place : ℕ) → place < length (lines_of text) → line ≡ get_or (lines_of text) place line
    → list_all (λ l. list_all is_plain l) (lines_of text) ≡ true → list_all is_plain line ≡ true
plain_at text line place h is all = plain_where _ _ (lines_of text) place line refl refl h is all
