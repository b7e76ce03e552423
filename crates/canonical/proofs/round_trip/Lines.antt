-- Lines made of words: what their tokens are, and where a line ends.
use Rattle.std.proofs.Common.{◌≡◌, ℕ, ◌==◌, Bool, true, false, not, List, [], ◌∷◌, ◌++◌, length, drop, filter, refl, ap, ◌∙◌}
use Rattle.std.specs.List.{list_all, slice_split, before_first, All}
use Rattle.std.proofs.Math.Numerals.{one-add}
use Rattle.std.proofs.lemmas.List.Elements.{All-nil, All-cons}
use Rattle.std.proofs.lemmas.List.Splits.{slice_split_at, slice_split_none}
use Rattle.grammar.specs.Lines.{is_plain, lines_of}
use Rattle.grammar.specs.Tokens.{is_blank, is_filled, tokens_of}
use Rattle.grammar.proofs.PermissionTexts.{first, second}
use Rattle.canonical.proofs.round_trip.Words.{is_open, is_word_byte, IsWord, all_from, all_joined, open_byte, solid_byte, plain_byte, no_comment, no_newline}

-- a line without a comment, which has these tokens
pub record IsLine (line : List ℕ) (words : List (List ℕ)) : Type 0 where
  pub open_bytes : list_all is_open line ≡ true
  pub parts : filter is_filled (slice_split is_blank line) ≡ words

-- what no element passes
pub all_fail : {X : Type 0} (p q : X → Bool) (xs : List X) → ((x : X) → p x ≡ true → q x ≡ false) → list_all p xs ≡ true → All (λ x. q x ≡ false) xs
all_fail p q [] gives e = All-nil (λ x. q x ≡ false)
all_fail p q (x ∷ xs) gives e = All-cons (λ x. q x ≡ false) x xs (gives x (first _ _ e)) (all_fail p q xs gives (second (p x) _ e))

solid : (word : List ℕ) → IsWord word → All (λ b. is_blank b ≡ false) word
solid word w = all_fail is_word_byte is_blank word solid_byte w.bytes

open_word : (word : List ℕ) → IsWord word → list_all is_open word ≡ true
open_word word w = all_from is_word_byte is_open word open_byte w.bytes

kept : (word : List ℕ) (rest : List (List ℕ)) → is_filled word ≡ true → filter is_filled (word ∷ rest) ≡ word ∷ filter is_filled rest
kept word rest e = rw e refl

-- the last word of a line; a word, a space and the rest; a word, a comma with a space, and the rest
pub last_word : (word : List ℕ) → IsWord word → IsLine word (word ∷ [])
last_word word w = record {
  open_bytes = open_word word w;
  parts = ap (filter is_filled) (slice_split_none is_blank word (solid word w)) ∙ kept word [] w.filled;
}

pub then_space : (word rest : List ℕ) (words : List (List ℕ)) → IsWord word → IsLine rest words → IsLine (word ++ 0x20 ∷ rest) (word ∷ words)
unfolding is_blank is_open
then_space word rest words w l = record {
  open_bytes = all_joined is_open word (0x20 ∷ rest) (open_word word w) l.open_bytes;
  parts = ap (filter is_filled) (slice_split_at is_blank word 0x20 rest (solid word w) refl) ∙ kept word (slice_split is_blank rest) w.filled ∙ ap (λ ws. word ∷ ws) l.parts;
}

pub then_comma : (word rest : List ℕ) (words : List (List ℕ)) → IsWord word → IsLine rest words → IsLine (word ++ 0x2C ∷ 0x20 ∷ rest) (word ∷ words)
unfolding is_blank is_open
then_comma word rest words w l = record {
  open_bytes = all_joined is_open word (0x2C ∷ 0x20 ∷ rest) (open_word word w) l.open_bytes;
  parts = ap (filter is_filled) (slice_split_at is_blank word 0x2C (0x20 ∷ rest) (solid word w) refl) ∙ kept word (slice_split is_blank (0x20 ∷ rest)) w.filled ∙ ap (λ ws. word ∷ ws) l.parts;
}

-- a line without a comment is whole before it
pub none_before : {X : Type 0} (p : X → Bool) (xs : List X) → list_all (λ x. not (p x)) xs ≡ true → before_first p xs ≡ xs
none_before p [] e = refl
none_before p (x ∷ xs) e = rw (first (not (p x)) _ e, one-add) (ap (λ l. x ∷ l) (none_before p xs (second (not (p x)) _ e)))

-- what is before the first element that passes, and what begins with it
pub before_at : {X : Type 0} (p : X → Bool) (xs : List X) (y : X) (ys : List X) → list_all (λ x. not (p x)) xs ≡ true → not (p y) ≡ false → before_first p (xs ++ y ∷ ys) ≡ xs
before_at p [] y ys e f = rw f refl
before_at p (x ∷ xs) y ys e f = rw (first (not (p x)) _ e, one-add) (ap (λ l. x ∷ l) (before_at p xs y ys (second (not (p x)) _ e) f))

pub dropped_start : {X : Type 0} (xs ys : List X) → drop (length xs) (xs ++ ys) ≡ ys
dropped_start [] ys = refl
dropped_start (x ∷ xs) ys = dropped_start xs ys

pub tokens_of_line : (line : List ℕ) (words : List (List ℕ)) → IsLine line words → tokens_of line ≡ words
unfolding tokens_of
tokens_of_line line words l = ap (λ whole. filter is_filled (slice_split is_blank whole)) (none_before _ line (all_from is_open (λ b. not (b == 0x23)) line no_comment l.open_bytes)) ∙ l.parts

pub plain_line : (line : List ℕ) (words : List (List ℕ)) → IsLine line words → list_all is_plain line ≡ true
plain_line line words l = all_from is_open is_plain line plain_byte l.open_bytes

-- a line, a newline and the rest are that line and the lines of the rest
pub line_then : (line rest : List ℕ) (words : List (List ℕ)) → IsLine line words → lines_of (line ++ 0x0A ∷ rest) ≡ line ∷ lines_of rest
line_then line rest words l = slice_split_at (λ b. b == 0x0A) line 0x0A rest (all_fail is_open (λ b. b == 0x0A) line no_newline l.open_bytes) refl
