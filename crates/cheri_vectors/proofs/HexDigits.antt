-- Hexadecimal digits: a number's are those of all but its last one, and then the last one.
use Rattle.std.proofs.Common.{◌≡◌, ℕ, ◌/◌, ◌%◌, ◌^◌, ◌<◌, ◌≤◌, ◌==◌, zero, suc, Bool, true, false, List, [], ◌∷◌, ◌++◌, refl, sym, ◌∙◌, inl, inr, arith, append_assoc, cond, eqb-true}
use Rattle.std.proofs.lemmas.Bool.{cases_Bool, false_from_ne_true}
use Rattle.std.proofs.lemmas.Fmt.{hex_one_digit}
use Rattle.std.proofs.Math.Nat.{pow-suc, div-lt_iff_lt-mul}
use Rattle.cap_model.proofs.Results.Rebuildings.{eqb-of}
use Rattle.std.specs.Fmt.{digit_glyph, digits_onto, digits}

-- one more digit in front of what there is
onto_more : (k n : ℕ) (acc : List ℕ) (test : Bool) → (n / 16 == 0) ≡ test →
    digits_onto (suc k) 16 false n acc ≡ cond test (digit_glyph false (n % 16) ∷ acc) (digits_onto k 16 false (n / 16) (digit_glyph false (n % 16) ∷ acc))
onto_more k n acc test is = rw is refl

onto_append : (k n : ℕ) (acc : List ℕ) → digits_onto k 16 false n acc ≡ digits_onto k 16 false n [] ++ acc
onto_append zero n acc = refl
onto_append (suc k) n acc = elim (cases_Bool (n / 16 == 0)) [
  | inl last ↦ rw (onto_more k n acc true last, onto_more k n [] true last) refl
  | inr more ↦
      rw (onto_more k n acc false more, onto_more k n [] false more)
      (onto_append k (n / 16) (digit_glyph false (n % 16) ∷ acc)
      ∙ sym (rw (onto_append k (n / 16) (digit_glyph false (n % 16) ∷ [])) (append_assoc (digits_onto k 16 false (n / 16) []) (digit_glyph false (n % 16) ∷ []) acc)))
]

-- more places than digits change nothing
onto_enough : (k n : ℕ) (acc : List ℕ) → n < 16 ^ suc k → digits_onto (suc (suc k)) 16 false n acc ≡ digits_onto (suc k) 16 false n acc
onto_enough zero n acc below =
    let last : (n / 16 == 0) ≡ true = eqb-of (n / 16) 0 (omega arith) in
    rw (onto_more 1 n acc true last, onto_more 0 n acc true last) refl
onto_enough (suc j) n acc below = elim (cases_Bool (n / 16 == 0)) [
  | inl last ↦ rw (onto_more (suc (suc j)) n acc true last, onto_more (suc j) n acc true last) refl
  | inr more ↦
      (let fewer : n / 16 < 16 ^ suc j = (div-lt_iff_lt-mul {k = 16} {x = n} {y = 16 ^ suc j} (omega arith)).1 (rw (pow-suc 16 (suc j)) at below) in
      rw (onto_more (suc (suc j)) n acc false more, onto_more (suc j) n acc false more) (onto_enough j (n / 16) (digit_glyph false (n % 16) ∷ acc) fewer))
]

-- the last digit, after the others
pub hex_last : (n : ℕ) → 16 ≤ n → n < 2 ^ 68 → digits 16 false n ≡ digits 16 false (n / 16) ++ digits 16 false (n % 16)
unfolding digits
hex_last n some below =
    let more : (n / 16 == 0) ≡ false = false_from_ne_true _ (λ t. let none = eqb-true (n / 16) 0 t in omega arith) in
    let one : digits_onto 64 16 false (n % 16) [] ≡ digit_glyph false (n % 16) ∷ [] = hex_one_digit false (n % 16) (omega arith) in
    let fits : n / 16 < 16 ^ 63 = omega arith in
    onto_more 63 n [] false more
    ∙ onto_append 63 (n / 16) (digit_glyph false (n % 16) ∷ [])
    ∙ rw (one, onto_enough 62 (n / 16) [] fits) refl

-- the same of two numbers that are written one after the other
pub hex_parts : (n above last : ℕ) → 2 ^ 64 ≤ n → n < 2 ^ 68 → above ≡ n / 16 → last ≡ n % 16 → digits 16 false n ≡ digits 16 false above ++ digits 16 false last
hex_parts n above last some below e f = rw (e, f) (hex_last n (omega arith) below)
