-- A line's tokens, one after another.
use Rattle.std.proofs.Common.{◌≡◌, ℕ, ◌<◌, ◌≤◌, ◌==◌, Bool, true, false, cond, not, List, [], ◌∷◌, ◌++◌, length, filter, drop, get_or, refl, sym, ap, ◌∙◌, append_assoc, arith}
use Rattle.std.specs.List.{slice_split, onto_first, position_or_len}
use Rattle.std.proofs.lemmas.List.{length-drop, length-take, append-nil}
use Rattle.grammar.specs.Lines.{before_comment}
use Rattle.grammar.specs.Tokens.{is_blank, is_filled, after_blanks, before_end, tokens_of}
use Rattle.grammar.proofs.FirstToken.{comment_more, comment_here, token_more, token_ends, blank_more, token_begins, ends_where, first_part, cut, uncut, part_of, blank_where, filled}

-- the parts of a line after its first
other_parts : List ℕ → List (List ℕ)
other_parts line = drop 1 (slice_split is_blank (before_comment line))

onto_others : (x : ℕ) (parts : List (List ℕ)) → drop 1 (onto_first x parts) ≡ drop 1 parts
onto_others x [] = refl
onto_others x (part ∷ parts) = refl

others_where : (blank hash : Bool) (x : ℕ) (xs : List ℕ) → is_blank x ≡ blank → (x == 0x23) ≡ hash
    → filter is_filled (other_parts xs) ≡ tokens_of (drop (length (before_end xs)) xs)
    → filter is_filled (other_parts (x ∷ xs)) ≡ tokens_of (drop (length (before_end (x ∷ xs))) (x ∷ xs))
unfolding other_parts tokens_of
others_where true true x xs e f h = rw (token_ends x xs (ends_where x true true e f), comment_here x xs f) refl
others_where true false x xs e f h = rw (token_ends x xs (ends_where x true false e f), comment_more x xs f, cut x (before_comment xs) e) refl
others_where false true x xs e f h = rw (token_ends x xs (ends_where x false true e f), comment_here x xs f) refl
others_where false false x xs e f h =
    rw (token_more x xs (ends_where x false false e f), comment_more x xs f, uncut x (before_comment xs) e)
    (ap (filter is_filled) (onto_others x (slice_split is_blank (before_comment xs))) ∙ h)

-- the filled parts after the first are the tokens after it
others_of : (line : List ℕ) → filter is_filled (other_parts line) ≡ tokens_of (drop (length (before_end line)) line)
unfolding other_parts tokens_of
others_of [] = refl
others_of (x ∷ xs) = others_where (is_blank x) (x == 0x23) x xs refl refl (others_of xs)

keeps : (test : Bool) (part : List ℕ) (rest : List (List ℕ)) → test ≡ true → cond test (part ∷ rest) rest ≡ part ∷ rest
keeps true part rest e = refl
keeps false part rest e = absurd (cc)

onto_kept : (x : ℕ) (parts : List (List ℕ)) → filter is_filled (onto_first x parts) ≡ (x ∷ get_or parts 0 []) ∷ filter is_filled (drop 1 parts)
onto_kept x [] = keeps (is_filled (x ∷ [])) (x ∷ []) [] (filled x [])
onto_kept x (part ∷ parts) = keeps (is_filled (x ∷ part)) (x ∷ part) (filter is_filled parts) (filled x part)

-- a token and others, unless it is empty
and_others : List ℕ → List (List ℕ) → List (List ℕ)
and_others [] others = []
and_others (b ∷ token) others = (b ∷ token) ∷ others

first_of : List ℕ → List ℕ
first_of line = before_end (after_blanks line)

after_first : List ℕ → List ℕ
after_first line = drop (length (first_of line)) (after_blanks line)

tokens_where : (blank hash : Bool) (x : ℕ) (xs : List ℕ) → is_blank x ≡ blank → (x == 0x23) ≡ hash
    → tokens_of xs ≡ and_others (first_of xs) (tokens_of (after_first xs)) → tokens_of (x ∷ xs) ≡ and_others (first_of (x ∷ xs)) (tokens_of (after_first (x ∷ xs)))
unfolding tokens_of first_of after_first and_others first_part other_parts
tokens_where true true x xs e f h = absurd (let no : true ≡ false = blank_where true x e f in cc)
tokens_where true false x xs e f h = rw (blank_more x xs e, comment_more x xs f, cut x (before_comment xs) e) h
tokens_where false true x xs e f h = rw (token_begins x xs e, comment_here x xs f, token_ends x xs (ends_where x false true e f)) refl
tokens_where false false x xs e f h =
    rw (token_begins x xs e, token_more x xs (ends_where x false false e f), comment_more x xs f, uncut x (before_comment xs) e)
    (onto_kept x (slice_split is_blank (before_comment xs)) ∙ (λ i. (x ∷ part_of xs i) ∷ others_of xs i))

tokens_from : (line : List ℕ) → tokens_of line ≡ and_others (first_of line) (tokens_of (after_first line))
unfolding tokens_of first_of after_first and_others
tokens_from [] = refl
tokens_from (x ∷ xs) = tokens_where (is_blank x) (x == 0x23) x xs refl refl (tokens_from xs)

-- no token is left where the first is empty
pub no_tokens : (token line : List ℕ) → token ≡ before_end (after_blanks line) → length token ≡ 0 → tokens_of line ≡ []
unfolding first_of after_first and_others
no_tokens [] line e h = tokens_from line ∙ ap (λ t. and_others t (tokens_of (drop (length t) (after_blanks line)))) (sym e)
no_tokens (b ∷ token) line e h = absurd (omega (arith, h))

one_token : (token line : List ℕ) → token ≡ before_end (after_blanks line) → 1 ≤ length token → tokens_of line ≡ token ∷ tokens_of (drop (length token) (after_blanks line))
unfolding first_of after_first and_others
one_token [] line e h = absurd (omega (arith, h))
one_token (b ∷ token) line e h = tokens_from line ∙ ap (λ t. and_others t (tokens_of (drop (length t) (after_blanks line)))) (sym e)

-- the tokens so far and those that are left, after one more
pub token_taken : (some after whole : List (List ℕ)) (token line rest : List ℕ) → token ≡ before_end (after_blanks line) → 1 ≤ length token
    → rest ≡ drop (length token) (after_blanks line) → after ≡ some ++ token ∷ [] → some ++ tokens_of line ≡ whole → after ++ tokens_of rest ≡ whole
token_taken some after whole token line rest e h r a w =
    ap (λ l. l ++ tokens_of rest) a ∙ append_assoc some (token ∷ []) (tokens_of rest)
    ∙ ap (λ l. some ++ (token ∷ tokens_of l)) r ∙ ap (λ l. some ++ l) (sym (one_token token line e h)) ∙ w

pub tokens_end : (some whole : List (List ℕ)) (token line : List ℕ) → token ≡ before_end (after_blanks line) → length token ≡ 0 → some ++ tokens_of line ≡ whole → some ≡ whole
tokens_end some whole token line e h w = sym (append-nil some) ∙ ap (λ l. some ++ l) (sym (no_tokens token line e h)) ∙ w

pub within : (token start : List ℕ) → token ≡ before_end start → length token ≤ length start
within token start e = let n = ap length e ∙ length-take _ start in omega (arith, n)

-- what is left is shorter
pub fewer_left : (token line rest : List ℕ) → token ≡ before_end (after_blanks line) → 1 ≤ length token → rest ≡ drop (length token) (after_blanks line) → length rest < length line
fewer_left token line rest e h r =
    let left = ap length r ∙ length-drop (length token) (after_blanks line) in
    let from = length-drop (position_or_len (λ b. not (is_blank b)) line) line in
    let cut : length token ≤ length (after_blanks line) = within token (after_blanks line) e in
    omega (arith, left, from, cut, h)
