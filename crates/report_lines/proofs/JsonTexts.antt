-- The texts of digits in quotes, their order, and the text of a step that was done.
use Rattle.std.proofs.Common.{◌≡◌, Equal, Greater, ℕ, zero, suc, ◌+◌, ◌*◌, ◌/◌, ◌%◌, ◌^◌, ◌<◌, ◌≤◌, List, [], ◌∷◌, ◌++◌, codes, decimal, refl, sym, ap, ◌∙◌, inl, inr, append_assoc, arith}
use Rattle.std.proofs.Math.Nat.{div-lt_iff_lt-mul}
use Rattle.std.proofs.lemmas.Nat.{le-div, pow-add, pow_pos, mod_below, div-add-mod'}
use Rattle.std.proofs.lemmas.Bool.{cases_lt}
use Rattle.std.proofs.lemmas.Bool.Decides.{nat_tests}
use Rattle.std.specs.Char.{digit_char}
use Rattle.std.specs.Cmp.{nat_cmp_is}
use Rattle.std.specs.Cmp.Lexicographic.{slice_cmp}
use Rattle.std.specs.Ordering.{nat_cmp}
use Rattle.serde_json.proofs.OnLiterals.{serde_json_on_literals}
use Rattle.serde_json.specs.Data.{string, object}
use Rattle.serde_json.specs.Written.{compact_text}
use Rattle.cheri_model.specs.declared.trace.Outcome.TheVariants as outcome
use Rattle.report_lines.specs.EventData.{step_members}
use Rattle.report_lines.specs.ValueData.{count}
use Rattle.report_lines.specs.ValueText.{hex_text}
use Rattle.text_numbers.proofs.HexDigits.{first_digit, low_part}

-- ---- digits in quotes

-- one digit more, which stands for itself
quoted_digit : (d : ℕ) (s t : List ℕ) → d < 16 → compact_text (string s) ≡ 34 ∷ t
    → compact_text (string (digit_char d ∷ s)) ≡ 34 ∷ digit_char d ∷ t
unfolding serde_json_on_literals
quoted_digit d s t small same = grind (arith, nat_tests)

pub plain_digits : (width n : ℕ) → compact_text (string (hex_text width n)) ≡ 34 ∷ (hex_text width n ++ 34 ∷ [])
unfolding hex_text
plain_digits zero n = refl
plain_digits (suc width) n =
    rw (first_digit width (4 * width) n refl) (quoted_digit (n / 2 ^ (4 * width) % 16) _ _ (omega arith) (plain_digits width n))

-- ---- digits in order

digit_order : (d e : ℕ) → e < d → d < 16 → digit_char e < digit_char d
digit_order d e less small = grind (arith, nat_tests)

cmp_more : (x y : ℕ) (xs ys : List ℕ) → y < x → slice_cmp nat_cmp (x ∷ xs) (y ∷ ys) ≡ Greater
cmp_more x y xs ys less = rw (sym (nat_cmp_is x y Greater less)) refl

cmp_same : (x : ℕ) (xs ys : List ℕ) → slice_cmp nat_cmp xs ys ≡ Greater → slice_cmp nat_cmp (x ∷ xs) (x ∷ ys) ≡ Greater
cmp_same x xs ys more = rw (sym (nat_cmp_is x x Equal refl)) more

same_quotient : (a b k : ℕ) → b < a → a / k ≤ b / k → 0 < k → b / k ≡ a / k
same_quotient a b k less least positive =
    let ordered : b / k ≤ a / k = le-div (b / k) a k positive (omega (arith, div-add-mod' b k)) in omega arith

pub hex_order : (width bits a b : ℕ) → bits ≡ 4 * width → a < 2 ^ bits → b < a →
    slice_cmp nat_cmp (hex_text width a) (hex_text width b) ≡ Greater
hex_order zero bits a b is below less = let none : bits ≡ 0 = omega arith in let small = rw none at below in absurd (omega arith)
hex_order (suc width) bits a b is below less =
    let k : ℕ = 4 * width in
    let more : bits ≡ k + 4 = omega arith in
    let size : 2 ^ bits ≡ 16 * 2 ^ k = rw more (omega (arith, pow-add 2 k 4)) in
    let first : a / 2 ^ k < 16 = (div-lt_iff_lt-mul {k = 2 ^ k} {x = a} {y = 16} (pow_pos k)).1 (omega arith) in
    let whole_a = div-add-mod' a (2 ^ k) in
    let whole_b = div-add-mod' b (2 ^ k) in
    rw (first_digit width k a refl, first_digit width k b refl)
    (elim (cases_lt (b / 2 ^ k) (a / 2 ^ k)) [
      | inl lower ↦
          (let other : b / 2 ^ k % 16 ≡ b / 2 ^ k = omega arith in
          let own : a / 2 ^ k % 16 ≡ a / 2 ^ k = omega arith in
          rw (own, other) (cmp_more (digit_char (a / 2 ^ k)) (digit_char (b / 2 ^ k)) (hex_text width a) (hex_text width b) (digit_order (a / 2 ^ k) (b / 2 ^ k) lower first)))
      | inr least ↦
          (let same : b / 2 ^ k ≡ a / 2 ^ k = same_quotient a b (2 ^ k) less least (pow_pos k) in
          let scaled = ap (λ (z : ℕ). z * 2 ^ k) same in
          let rest : b % 2 ^ k < a % 2 ^ k = omega arith in
          let later = hex_order width k (a % 2 ^ k) (b % 2 ^ k) refl (mod_below a (2 ^ k) (pow_pos k)) rest in
          rw same (cmp_same (digit_char (a / 2 ^ k % 16)) (hex_text width a) (hex_text width b) (rw (low_part width k a refl, low_part width k b refl) at later)))
    ])

-- ---- an event

pub done_text : (hart pc : ℕ) → compact_text (object (step_members (count hart) (string (hex_text 16 pc)) outcome.Done))
    ≡ codes "{\"hart\":" ++ (decimal hart ++ (codes ",\"outcome\":\"done\",\"pc\":\"" ++ (hex_text 16 pc ++ codes "\"}")))
unfolding serde_json_on_literals
done_text hart pc =
    ap (λ (l : List ℕ). codes "{\"hart\":" ++ (decimal hart ++ (codes ",\"outcome\":\"done\",\"pc\":" ++ (l ++ codes "}")))) (plain_digits 16 pc)
    ∙ ap (λ (l : List ℕ). codes "{\"hart\":" ++ (decimal hart ++ (codes ",\"outcome\":\"done\",\"pc\":\"" ++ l)))
    (append_assoc (hex_text 16 pc) (34 ∷ []) (codes "}"))
