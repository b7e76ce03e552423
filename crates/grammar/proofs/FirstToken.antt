-- The first token of a line, without the others.
use Rattle.std.proofs.Common.{◌≡◌, ℕ, suc, ◌+◌, ◌==◌, ◌||◌, Bool, true, false, cond, List, [], ◌∷◌, length, filter, take, drop, get_or, refl, sym, ap, ◌∙◌, arith}
use Rattle.std.specs.List.{slice_split, onto_first}
use Rattle.std.proofs.lemmas.Bool.Decides.{nat_tests}
use Rattle.grammar.specs.Lines.{before_comment}
use Rattle.grammar.specs.Tokens.{is_blank, is_filled, ends_token, after_blanks, before_end, tokens_of, token_at}

take_one : (n x : ℕ) (xs : List ℕ) → take (1 + n) (x ∷ xs) ≡ x ∷ take n xs
take_one n x xs = let e : 1 + n ≡ suc n = omega arith in ap (λ k. take k (x ∷ xs)) e

drop_one : (n x : ℕ) (xs : List ℕ) → drop (1 + n) (x ∷ xs) ≡ drop n xs
drop_one n x xs = let e : 1 + n ≡ suc n = omega arith in ap (λ k. drop k (x ∷ xs)) e

-- one byte more of what is before the comment, of a token, and of the blanks before it
pub comment_more : (x : ℕ) (xs : List ℕ) → (x == 0x23) ≡ false → before_comment (x ∷ xs) ≡ x ∷ before_comment xs
comment_more x xs e = rw e (take_one _ x xs)

pub comment_here : (x : ℕ) (xs : List ℕ) → (x == 0x23) ≡ true → before_comment (x ∷ xs) ≡ []
comment_here x xs e = rw e refl

pub token_more : (x : ℕ) (xs : List ℕ) → ends_token x ≡ false → before_end (x ∷ xs) ≡ x ∷ before_end xs
token_more x xs e = rw e (take_one _ x xs)

pub token_ends : (x : ℕ) (xs : List ℕ) → ends_token x ≡ true → before_end (x ∷ xs) ≡ []
token_ends x xs e = rw e refl

pub blank_more : (x : ℕ) (xs : List ℕ) → is_blank x ≡ true → after_blanks (x ∷ xs) ≡ after_blanks xs
blank_more x xs e = rw e (drop_one _ x xs)

pub token_begins : (x : ℕ) (xs : List ℕ) → is_blank x ≡ false → after_blanks (x ∷ xs) ≡ x ∷ xs
token_begins x xs e = rw e refl

pub ends_where : (x : ℕ) (blank hash : Bool) → is_blank x ≡ blank → (x == 0x23) ≡ hash → ends_token x ≡ (blank || hash)
unfolding ends_token
ends_where x blank hash e f = rw (e, f) refl

-- the parts of a line after one byte more
unfoldable pub first_part : List ℕ → List ℕ
first_part line = get_or (slice_split is_blank (before_comment line)) 0 []

pub cut : (x : ℕ) (line : List ℕ) → is_blank x ≡ true → slice_split is_blank (x ∷ line) ≡ [] ∷ slice_split is_blank line
cut x line e = rw e refl

pub uncut : (x : ℕ) (line : List ℕ) → is_blank x ≡ false → slice_split is_blank (x ∷ line) ≡ onto_first x (slice_split is_blank line)
uncut x line e = rw e refl

onto_part : (x : ℕ) (parts : List (List ℕ)) → get_or (onto_first x parts) 0 [] ≡ x ∷ get_or parts 0 []
onto_part x [] = refl
onto_part x (part ∷ parts) = refl

pub filled : (x : ℕ) (part : List ℕ) → is_filled (x ∷ part) ≡ true
filled x part = let e : (length (x ∷ part) == 0) ≡ false = grind (arith, nat_tests) in rw e refl

kept : (test : Bool) (part : List ℕ) (rest others : List (List ℕ)) → test ≡ true → get_or (cond test (part ∷ rest) others) 0 [] ≡ part
kept true part rest others e = refl
kept false part rest others e = absurd (cc)

onto_filled : (x : ℕ) (parts : List (List ℕ)) → get_or (filter is_filled (onto_first x parts)) 0 [] ≡ x ∷ get_or parts 0 []
onto_filled x [] = kept (is_filled (x ∷ [])) (x ∷ []) [] [] (filled x [])
onto_filled x (part ∷ parts) = kept (is_filled (x ∷ part)) (x ∷ part) (filter is_filled parts) (filter is_filled parts) (filled x part)

part_where : (blank hash : Bool) (x : ℕ) (xs : List ℕ) → is_blank x ≡ blank → (x == 0x23) ≡ hash → first_part xs ≡ before_end xs → first_part (x ∷ xs) ≡ before_end (x ∷ xs)
unfolding first_part
part_where true true x xs e f h = rw (comment_here x xs f) (sym (token_ends x xs (ends_where x true true e f)))
part_where true false x xs e f h = rw (comment_more x xs f, cut x (before_comment xs) e) (sym (token_ends x xs (ends_where x true false e f)))
part_where false true x xs e f h = rw (comment_here x xs f) (sym (token_ends x xs (ends_where x false true e f)))
part_where false false x xs e f h =
    rw (comment_more x xs f, uncut x (before_comment xs) e, token_more x xs (ends_where x false false e f))
    (onto_part x (slice_split is_blank (before_comment xs)) ∙ ap (λ part. x ∷ part) h)

-- a line's first part ends where a token would
pub part_of : (line : List ℕ) → first_part line ≡ before_end line
unfolding first_part
part_of [] = refl
part_of (x ∷ xs) = part_where (is_blank x) (x == 0x23) x xs refl refl (part_of xs)

pub blank_where : (hash : Bool) (x : ℕ) → is_blank x ≡ true → (x == 0x23) ≡ hash → hash ≡ false
unfolding is_blank
blank_where true x e f = absurd (grind (arith, nat_tests))
blank_where false x e f = refl

token_where : (blank hash : Bool) (x : ℕ) (xs : List ℕ) → is_blank x ≡ blank → (x == 0x23) ≡ hash
    → before_end (after_blanks xs) ≡ token_at (tokens_of xs) 0 → before_end (after_blanks (x ∷ xs)) ≡ token_at (tokens_of (x ∷ xs)) 0
unfolding tokens_of token_at first_part
token_where true true x xs e f h = absurd (let no : true ≡ false = blank_where true x e f in cc)
token_where true false x xs e f h = rw (blank_more x xs e, comment_more x xs f, cut x (before_comment xs) e) h
token_where false true x xs e f h = rw (token_begins x xs e, comment_here x xs f) (token_ends x xs (ends_where x false true e f))
token_where false false x xs e f h =
    rw (token_begins x xs e, comment_more x xs f, uncut x (before_comment xs) e)
    (token_more x xs (ends_where x false false e f) ∙ ap (λ part. x ∷ part) (sym (part_of xs))
    ∙ sym (onto_filled x (slice_split is_blank (before_comment xs))))

-- the first token of a line
pub first_token_of : (line : List ℕ) → before_end (after_blanks line) ≡ token_at (tokens_of line) 0
unfolding tokens_of token_at
first_token_of [] = refl
first_token_of (x ∷ xs) = token_where (is_blank x) (x == 0x23) x xs refl refl (first_token_of xs)
