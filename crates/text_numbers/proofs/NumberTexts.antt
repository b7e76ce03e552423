-- The digits of a number of two words are those of its upper word, and all of the lower one.
use Rattle.std.proofs.Common.{◌≡◌, ◌≢◌, ℕ, zero, suc, ◌+◌, ◌*◌, ◌/◌, ◌%◌, ◌^◌, ◌<◌, false, List, [], ◌∷◌, ◌++◌, refl, sym, ap, ◌∙◌, inl, inr, append_assoc, append-nil, arith}
use Rattle.std.specs.Prelude.{◌==◌}
use Rattle.std.proofs.lemmas.Bool.{cases_Bool}
use Rattle.std.proofs.lemmas.Bool.Decides.{nat_tests}
use Rattle.std.proofs.lemmas.Nat.{shr-shr}
use Rattle.std.proofs.Math.Nat.{div-le_self}
use Rattle.std.specs.Fmt.{digits, digits_onto, digit_glyph}
use Rattle.std.specs.Char.{digit_char}
use Rattle.text_numbers.specs.Hexadecimal.{hex_text}
use Rattle.text_numbers.proofs.HexDigits.{low_part}

-- the last digits of a number, this many at most
abbrev last : ℕ → ℕ → List ℕ
last k n = digits_onto k 16 false n []

-- digits before others
onto : (k n : ℕ) (acc : List ℕ) → digits_onto k 16 false n acc ≡ last k n ++ acc
onto zero n acc = refl
onto (suc k) n acc = elim (cases_Bool (n / 16 == 0)) [
  | inl ends ↦ rw (ends) refl
  | inr goes ↦
      (let more = onto k (n / 16) (digit_glyph false (n % 16) ∷ acc) in
      let one = onto k (n / 16) (digit_glyph false (n % 16) ∷ []) in
      rw (goes, more, one, append_assoc) refl)
]

-- the last digit, and those before it
step : (k n : ℕ) → (n / 16 == 0) ≡ false → last (suc k) n ≡ last k (n / 16) ++ digit_glyph false (n % 16) ∷ []
step k n goes = rw goes (onto k (n / 16) (digit_glyph false (n % 16) ∷ []))

-- a number has no more digits than fit
one_more : (k n : ℕ) → 0 < k → n < 16 ^ k → last (suc k) n ≡ last k n
one_more zero n some below = absurd (omega arith)
one_more (suc k) n some below = elim (cases_Bool (n / 16 == 0)) [
  | inl ends ↦ rw ends refl
  | inr goes ↦
      (let whole : 16 ^ suc k ≡ 16 * 16 ^ k = omega arith in
      let upper : 0 < n / 16 = grind (arith, nat_tests) in
      let less : n / 16 < 16 ^ k = omega arith in
      rw (step (suc k) n goes, step k n goes, one_more k (n / 16) (positive k (n / 16) less upper) less) refl)
]
  where
    positive : (k m : ℕ) → m < 16 ^ k → 0 < m → 0 < k
    positive zero m less upper = absurd (omega arith)
    positive (suc k) m less upper = omega arith

more : (j k n : ℕ) → 0 < k → n < 16 ^ k → last (j + k) n ≡ last k n
more zero k n some below = let same : 0 + k ≡ k = omega arith in ap (λ (f : ℕ). last f n) same
more (suc j) k n some below =
    let split : suc j + k ≡ suc (j + k) = omega arith in
    rw split (one_more (j + k) n (omega arith) (wide j k n below) ∙ more j k n some below)
  where
    wide : (j k n : ℕ) → n < 16 ^ k → n < 16 ^ (j + k)
    wide zero k n below = let same : 0 + k ≡ k = omega arith in rw same below
    wide (suc j) k n below =
        let split : suc j + k ≡ suc (j + k) = omega arith in
        let less = wide j k n below in
        let whole : 16 ^ suc (j + k) ≡ 16 * 16 ^ (j + k) = omega arith in
        rw split (omega arith)

same_digit : (d : ℕ) → d < 16 → digit_glyph false d ≡ digit_char d
same_digit d small = grind (arith, nat_tests)

-- the last digits, all of them, after the others
peel : (w bits k f n : ℕ) → bits ≡ 4 * w → f ≡ w + k → 0 < n / 2 ^ bits → last f n ≡ last k (n / 2 ^ bits) ++ hex_text w n
unfolding hex_text
peel zero bits k f n size is some =
    let same : f ≡ k = omega arith in
    let none : bits ≡ 0 = omega arith in
    let whole : n / 2 ^ bits ≡ n = rw none (omega arith) in
    rw (same, whole, append-nil) refl
peel (suc w) bits k f n size is some =
    let split : f ≡ suc (w + k) = omega arith in
    let wider : bits ≡ 4 + 4 * w = omega arith in
    let deeper : n / 16 / 2 ^ (4 * w) ≡ n / 2 ^ bits = rw wider (shr-shr n 4 (4 * w)) in
    let upper : 0 < n / 16 / 2 ^ (4 * w) = rw deeper some in
    let least = div-le_self (n / 16) (2 ^ (4 * w)) in
    let goes : (n / 16 == 0) ≡ false = grind (arith, nat_tests) in
    rw (split, step (w + k) n goes, peel w (4 * w) k (w + k) (n / 16) refl refl upper, deeper, same_digit (n % 16) (omega arith), append_assoc) refl

-- a number of one word, and one of two
pub one_word : (n upper lower : ℕ) → upper ≡ n / 2 ^ 64 → lower ≡ n % 2 ^ 64 → upper ≡ 0 →
    digits 16 false lower ≡ digits 16 false n
one_word n upper lower first second none = let same : lower ≡ n = omega arith in ap (digits 16 false) same

pub two_words : (n upper lower : ℕ) → n < 2 ^ 128 → upper ≡ n / 2 ^ 64 → lower ≡ n % 2 ^ 64 → upper ≢ 0 →
    digits 16 false upper ++ hex_text 16 lower ≡ digits 16 false n
unfolding digits
two_words n upper lower below first second some =
    let positive : 0 < n / 2 ^ 64 = omega arith in
    rw (first, second)
    (ap (λ (l : List ℕ). digits_onto 64 16 false (n / 2 ^ 64) [] ++ l) (low_part 16 64 n refl)
    ∙ ap (λ (l : List ℕ). l ++ hex_text 16 n) (more 16 48 (n / 2 ^ 64) (omega arith) (omega arith))
    ∙ sym (peel 16 64 48 64 n refl refl positive))
