-- The words so far, and those of what is left.
use Rattle.std.proofs.Common.{◌≡◌, ℕ, zero, suc, ◌+◌, ◌-◌, ◌<◌, ◌≤◌, Bool, true, false, cond, not, nat_lt, List, [], ◌∷◌, ◌++◌, length, take, drop, map, Some, None, position, refl, sym, ap, ◌∙◌, append_assoc, arith}
use Rattle.std.specs.List.{position_or_len, before_first}
use Rattle.std.proofs.lemmas.Bool.Decides.{nat_tests}
use Rattle.std.proofs.lemmas.List.{take_all, map-append, append-nil}
use Rattle.asm_tokens.specs.Bytes.{is_blank}
use Rattle.asm_requests.specs.declared.words.Word.{Word}
use Rattle.asm_requests.specs.Words.{WordParts, word_parts, word_at, words_from}

found_at : (test : Bool) (at end : ℕ) → cond test (Some at) None ≡ Some end → at ≡ end
found_at true at end e = cc
found_at false at end e = absurd (cc)

within_where : (test : Bool) (at end : ℕ) → cond test (Some at) None ≡ Some end → test ≡ true
within_where true at end e = refl
within_where false at end e = absurd (cc)

not_found : (test : Bool) (at : ℕ) → cond test (Some at) None ≡ None → test ≡ false
not_found true at e = absurd (cc)
not_found false at e = refl

-- what is before the first byte that passes a test
pub before_some : (p : ℕ → Bool) (text : List ℕ) (end : ℕ) → position p text ≡ Some end → before_first p text ≡ take end text
before_some p text end e = ap (λ at. take at text) (found_at _ _ end e)

pub before_none : (p : ℕ → Bool) (text : List ℕ) → position p text ≡ None → before_first p text ≡ text
before_none p text e =
    let f : nat_lt (position_or_len p text) (length text) ≡ false = not_found _ (position_or_len p text) e in
    let all : length text ≤ position_or_len p text = grind (arith, nat_tests) in
    take_all (position_or_len p text) text all

-- a text's first word, by its first byte
no_word : (b : ℕ) (text : List ℕ) → is_blank b ≡ true → before_first is_blank (b ∷ text) ≡ []
no_word b text e = rw e refl

take_one : (n b : ℕ) (text : List ℕ) → take (1 + n) (b ∷ text) ≡ b ∷ take n text
take_one n b text = let next : 1 + n ≡ suc n = omega arith in ap (λ m. take m (b ∷ text)) next

word_more : (b : ℕ) (text : List ℕ) → is_blank b ≡ false → before_first is_blank (b ∷ text) ≡ b ∷ before_first is_blank text
word_more b text e = rw e (take_one (position_or_len is_blank text) b text)

-- the words after some bytes of one that began before
words_after : (skip column : ℕ) (text : List ℕ) → skip ≤ length text → words_from skip column text ≡ words_from 0 (column + skip) (drop skip text)
unfolding words_from
words_after zero column text h = let same : column ≡ column + 0 = omega arith in ap (λ c. words_from 0 c text) same
words_after (suc skip) column [] h = absurd (omega arith)
words_after (suc skip) column (b ∷ text) h =
    let next : column + 1 + skip ≡ column + suc skip = omega arith in
    words_after skip (column + 1) text (omega arith) ∙ ap (λ c. words_from 0 c (drop skip text)) next

taken_length : (n : ℕ) (text : List ℕ) → length (take n text) ≤ length text
taken_length zero text = omega arith
taken_length (suc n) [] = omega arith
taken_length (suc n) (b ∷ text) = let h = taken_length n text in omega arith

-- a blank is passed over
blank_where : (blank : Bool) (at b : ℕ) (text : List ℕ) → is_blank b ≡ blank → length (before_first is_blank (b ∷ text)) ≡ 0
    → words_from 0 at (b ∷ text) ≡ words_from 0 (at + 1) text
unfolding words_from
blank_where true at b text e h = rw e refl
blank_where false at b text e h = let more : suc (length (before_first is_blank text)) ≡ 0 = ap length (sym (word_more b text e)) ∙ h in absurd (omega arith)

blank_step : (at : ℕ) (rest : List ℕ) → 1 ≤ length rest → length (before_first is_blank rest) ≡ 0
    → words_from 0 at rest ≡ words_from 0 (at + 1) (drop 1 rest)
blank_step at [] some h = absurd (omega arith)
blank_step at (b ∷ text) some h = blank_where (is_blank b) at b text refl h

pub blank_passed : (words : List WordParts) (at : ℕ) (rest left word : List ℕ) (whole : List WordParts) → 1 ≤ length rest
    → word ≡ before_first is_blank rest → length word ≡ 0 → left ≡ drop 1 rest
    → words ++ words_from 0 at rest ≡ whole → words ++ words_from 0 (at + 1) left ≡ whole
blank_passed words at rest left word whole some is none left_is h =
    let empty : length (before_first is_blank rest) ≡ 0 = ap length (sym is) ∙ none in
    rw left_is (ap (λ more. words ++ more) (sym (blank_step at rest some empty)) ∙ h)

-- a word is taken
chosen : (blank : Bool) (x y : List WordParts) → blank ≡ false → cond blank x y ≡ y
chosen true x y e = absurd (cc)
chosen false x y e = refl

word_begins : (at b : ℕ) (text : List ℕ) → is_blank b ≡ false
    → words_from 0 at (b ∷ text) ≡ word_at at (b ∷ text) ∷ words_from (length (before_first is_blank text)) (at + 1) text
unfolding words_from
word_begins at b text e = chosen (is_blank b) _ _ e

word_where : (blank : Bool) (at b : ℕ) (text : List ℕ) → is_blank b ≡ blank → 1 ≤ length (before_first is_blank (b ∷ text))
    → words_from 0 at (b ∷ text)
    ≡ word_at at (b ∷ text) ∷ words_from 0 (at + length (before_first is_blank (b ∷ text))) (drop (length (before_first is_blank (b ∷ text))) (b ∷ text))
word_where true at b text e h = let none : length (before_first is_blank (b ∷ text)) ≡ 0 = ap length (no_word b text e) in absurd (omega arith)
word_where false at b text e h =
    let word = before_first is_blank text in
    let short : length word ≤ length text = taken_length (position_or_len is_blank text) text in
    let next : at + 1 + length word ≡ at + suc (length word) = omega arith in
    let size : suc (length word) ≡ length (before_first is_blank (b ∷ text)) = ap length (sym (word_more b text e)) in
    word_begins at b text e ∙ ap (λ more. word_at at (b ∷ text) ∷ more)
    (words_after (length word) (at + 1) text short ∙ ap (λ c. words_from 0 c (drop (length word) text)) next
    ∙ ap (λ n. words_from 0 (at + n) (drop n (b ∷ text))) size)

word_step : (at : ℕ) (rest : List ℕ) → 1 ≤ length (before_first is_blank rest)
    → words_from 0 at rest ≡ word_at at rest ∷ words_from 0 (at + length (before_first is_blank rest)) (drop (length (before_first is_blank rest)) rest)
word_step at [] h = absurd (omega arith)
word_step at (b ∷ text) h = word_where (is_blank b) at b text refl h

pub word_taken : (words all : List Word) (word : Word) (rest left : List ℕ) (whole : List WordParts)
    → word.text.now ≡ before_first is_blank rest → 1 ≤ length word.text.now → all ≡ words ++ word ∷ []
    → left ≡ drop (length word.text.now) rest
    → map word_parts words ++ words_from 0 word.column rest ≡ whole
    → map word_parts all ++ words_from 0 (word.column + length word.text.now) left ≡ whole
word_taken words all word rest left whole is some put left_is h =
    let same : length (before_first is_blank rest) ≡ length word.text.now = ap length (sym is) in
    let some_there : 1 ≤ length (before_first is_blank rest) = omega arith in
    let this : word_parts word ≡ word_at word.column rest = λ i. record { text = is i; column = word.column } in
    let step : words_from 0 word.column rest ≡ word_parts word ∷ words_from 0 (word.column + length word.text.now) (drop (length word.text.now) rest) =
    word_step word.column rest some_there
    ∙ ap (λ n. word_at word.column rest ∷ words_from 0 (word.column + n) (drop n rest)) same
    ∙ ap (λ w. w ∷ words_from 0 (word.column + length word.text.now) (drop (length word.text.now) rest)) (sym this) in
    let every : map word_parts all ≡ map word_parts words ++ word_parts word ∷ [] =
    ap (map word_parts) put ∙ map-append word_parts words (word ∷ []) in
    rw (left_is, every, append_assoc) (ap (λ more. map word_parts words ++ more) (sym step) ∙ h)

-- no word is left
pub words_end : (words : List WordParts) (at : ℕ) (rest : List ℕ) (whole : List WordParts) → length rest ≡ 0
    → words ++ words_from 0 at rest ≡ whole → words ≡ whole
unfolding words_from
words_end words at [] whole none h = rw append-nil at h
words_end words at (b ∷ rest) whole none h = absurd (omega arith)
