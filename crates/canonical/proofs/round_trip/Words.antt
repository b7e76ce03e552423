-- Words: runs of bytes that are one token each.
use Rattle.std.proofs.Common.{◌≡◌, ℕ, ◌<◌, ◌==◌, ◌&&◌, Bool, true, false, not, List, length, [], ◌∷◌, ◌++◌, refl, ◌∙◌, arith}
use Rattle.std.specs.List.{list_all}
use Rattle.std.proofs.lemmas.Bool.Decides.{nat_tests}
use Rattle.std.proofs.lemmas.List.Folds.{list_all-append}
use Rattle.grammar.specs.Lines.{is_plain}
use Rattle.grammar.specs.Tokens.{is_blank, is_filled}
use Rattle.grammar.proofs.PermissionTexts.{first, second}

-- a byte of a line without a comment, and a byte of a word
unfoldable pub is_open : ℕ → Bool
is_open b = is_plain b && not (b == 0x23)

unfoldable pub is_word_byte : ℕ → Bool
unfolding is_open
is_word_byte b = is_open b && not (is_blank b)

pub record IsWord (word : List ℕ) : Type 0 where
  pub filled : is_filled word ≡ true
  pub bytes : list_all is_word_byte word ≡ true

pub both : (a b : Bool) → a ≡ true → b ≡ true → (a && b) ≡ true
both true true e f = refl
both false b e f = e
both true false e f = f

-- what all elements pass, where one test gives another
pub all_from : {X : Type 0} (p q : X → Bool) (xs : List X) → ((x : X) → p x ≡ true → q x ≡ true) → list_all p xs ≡ true → list_all q xs ≡ true
all_from p q [] gives e = refl
all_from p q (x ∷ xs) gives e = both (q x) _ (gives x (first _ _ e)) (all_from p q xs gives (second (p x) _ e))

pub all_joined : {X : Type 0} (p : X → Bool) (xs ys : List X) → list_all p xs ≡ true → list_all p ys ≡ true → list_all p (xs ++ ys) ≡ true
all_joined p xs ys e f = list_all-append p xs ys ∙ both _ _ e f

pub open_byte : (b : ℕ) → is_word_byte b ≡ true → is_open b ≡ true
unfolding is_word_byte
open_byte b e = first _ _ e

pub negated : (a : Bool) → not a ≡ true → a ≡ false
negated false e = refl
negated true e = absurd (cc)

pub solid_byte : (b : ℕ) → is_word_byte b ≡ true → is_blank b ≡ false
unfolding is_word_byte
solid_byte b e = negated _ (second (is_open b) _ e)

pub plain_byte : (b : ℕ) → is_open b ≡ true → is_plain b ≡ true
unfolding is_open
plain_byte b e = first _ _ e

pub no_comment : (b : ℕ) → is_open b ≡ true → not (b == 0x23) ≡ true
unfolding is_open
no_comment b e = second (is_plain b) _ e

pub no_newline : (b : ℕ) → is_open b ≡ true → (b == 0x0A) ≡ false
unfolding is_open
no_newline b e = where_tested (b == 0x0A) b refl e
  where
    where_tested : (test : Bool) (b : ℕ) → (b == 0x0A) ≡ test → is_plain b && not (b == 0x23) ≡ true → test ≡ false
    where_tested false b t e = refl
    where_tested true b t e = absurd (grind (arith, nat_tests))

-- a word, and then more bytes of a word
pub filled_where : (part : List ℕ) → 0 < length part → is_filled part ≡ true
filled_where part h = grind (arith, nat_tests)

pub filled_cons : (b : ℕ) (part : List ℕ) → is_filled (b ∷ part) ≡ true
filled_cons b part = filled_where (b ∷ part) (omega arith)

-- a byte of a word, and then more of them
pub word_cons : (b : ℕ) (bytes : List ℕ) → is_word_byte b ≡ true → list_all is_word_byte bytes ≡ true → IsWord (b ∷ bytes)
word_cons b bytes e f = record { filled = filled_cons b bytes; bytes = both _ _ e f }

pub longer : (start rest : List ℕ) → IsWord start → list_all is_word_byte rest ≡ true → IsWord (start ++ rest)
longer [] rest w e = absurd (let h = w.filled in cc)
longer (b ∷ start) rest w e = record { filled = filled_cons b (start ++ rest); bytes = all_joined is_word_byte (b ∷ start) rest w.bytes e }
