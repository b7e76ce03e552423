-- What a word of digits says.
use Rattle.std.proofs.Common.{◌≡◌, ℕ, zero, suc, ◌+◌, ◌-◌, ◌*◌, ◌/◌, ◌%◌, ◌^◌, ◌<◌, ◌≤◌, List, [], ◌∷◌, ◌++◌, length, drop, Option, Some, None, option_and_then, IfSome, arith, ap, sym, ◌∙◌, refl, inl, inr, pow-add, lt-ltb, le-ltb}
use Rattle.std.specs.Prelude.{slice_index, slice_set}
use Rattle.std.proofs.Math.Nat.{suc-mul, zero-mul, mul-le-mul_right}
use Rattle.std.proofs.Math.Pow.{pow_mono}
use Rattle.std.proofs.lemmas.Nat.{mul-add-lt, div-mul-add, mod-mul-add}
use Rattle.std.proofs.lemmas.Bool.{cases_lt}
use Rattle.std.proofs.lemmas.List.{append-nil, append_assoc, at_drop_more, drop_all, drop-set}
use Rattle.std.proofs.lemmas.Option.{none-some, same_Some}
use Rattle.graph_nodes.specs.Packing.{with_digit, with_digits, wrapped, packed, unpacked}

-- a word has room for one more digit
pub digit_fits : (bits word digit : ℕ) → bits ≤ 32 → word < 2 ^ (64 - bits) → digit < 2 ^ bits → word * 2 ^ bits + digit < 2 ^ 64
digit_fits bits word digit few room small =
    let whole : bits + (64 - bits) ≡ 64 = omega arith in
    let product : 2 ^ bits * 2 ^ (64 - bits) ≡ 2 ^ 64 = sym (pow-add 2 bits (64 - bits)) ∙ ap (λ k. 2 ^ k) whole in
    let below : word * 2 ^ bits + digit < 2 ^ bits * 2 ^ (64 - bits) = mul-add-lt word (2 ^ bits) digit (2 ^ (64 - bits)) room small in
    rw product at below

pub digit_there : (bits word digit : ℕ) → word < 2 ^ (64 - bits) → digit < 2 ^ bits → with_digit bits word digit ≡ Some (word * 2 ^ bits + digit)
unfolding with_digit
digit_there bits word digit room small = rw (lt-ltb digit (2 ^ bits) small, lt-ltb word (2 ^ (64 - bits)) room) refl

pub digit_too_large : (bits word digit : ℕ) → 2 ^ bits ≤ digit → with_digit bits word digit ≡ None
unfolding with_digit
digit_too_large bits word digit large = rw (le-ltb digit (2 ^ bits) large) refl

pub word_too_large : (bits word digit : ℕ) → digit < 2 ^ bits → 2 ^ (64 - bits) ≤ word → with_digit bits word digit ≡ None
unfolding with_digit
word_too_large bits word digit small large = rw (lt-ltb digit (2 ^ bits) small, le-ltb word (2 ^ (64 - bits)) large) refl

-- a word that has one more digit is taken apart as it was put together
digit_back : (bits n word digit more : ℕ) → with_digit bits word digit ≡ Some more →
    unpacked bits (suc n) more ≡ unpacked bits n word ++ digit ∷ []
unfolding unpacked
digit_back bits n word digit more is =
    elim (cases_lt digit (2 ^ bits)) [
      | inr large ↦ absurd (none-some more (sym (digit_too_large bits word digit large) ∙ is))
      | inl small ↦ elim (cases_lt word (2 ^ (64 - bits))) [
        | inr large ↦ absurd (none-some more (sym (word_too_large bits word digit small large) ∙ is))
        | inl room ↦
            let same : word * 2 ^ bits + digit ≡ more = same_Some (word * 2 ^ bits + digit) more (sym (digit_there bits word digit room small) ∙ is) in
            let front = div-mul-add word (2 ^ bits) digit small in
            let back = mod-mul-add word (2 ^ bits) digit small in
            rw (← same, front, back) refl
      ]
    ]

-- and so is a word that has more of them
pub digits_back : (bits n word more : ℕ) (digits : List ℕ) → with_digits bits word digits ≡ Some more →
    unpacked bits (length digits + n) more ≡ unpacked bits n word ++ digits
unfolding with_digits
digits_back bits n word more [] is =
    let e : 0 + n ≡ n = omega arith in
    rw (← same_Some word more is, append-nil (unpacked bits n word)) (ap (λ k. unpacked bits k word) e)
digits_back bits n word more (digit ∷ digits) is = on (λ w e. digits_back bits (suc n) w more digits e)
    (with_digit bits word digit) refl is
  where
    on : ((w : ℕ) → with_digits bits w digits ≡ Some more →
        unpacked bits (length digits + suc n) more ≡ unpacked bits (suc n) w ++ digits) →
        (with : Option ℕ) → with_digit bits word digit ≡ with →
        option_and_then (λ w. with_digits bits w digits) with ≡ Some more →
        unpacked bits (suc (length digits) + n) more ≡ unpacked bits n word ++ digit ∷ digits
    on rest None e is = absurd (none-some more is)
    on rest (Some with) e is =
        let place : length digits + suc n ≡ suc (length digits) + n = omega arith in
        rw (
          ← place,
          rest with is,
          digit_back bits n word digit with e,
          append_assoc (unpacked bits n word) (digit ∷ []) digits,
        ) refl

-- the word with these digits behind it, of which the first bits are lost where they don't fit
pub all_wrapped : ℕ → ℕ → List ℕ → ℕ
all_wrapped bits word [] = word
all_wrapped bits word (digit ∷ digits) = all_wrapped bits (wrapped bits word digit) digits

pub wrapped_from : (bits word : ℕ) (digits : List ℕ) (i : ℕ) → i < length digits →
    all_wrapped bits word (drop i digits)
    ≡ all_wrapped bits (wrapped bits word (slice_index digits i)) (drop (i + 1) digits)
unfolding all_wrapped
wrapped_from bits word digits i below = at_drop_more (all_wrapped bits word) digits i 0 below

pub wrapped_end : (bits word : ℕ) (digits : List ℕ) (i : ℕ) → length digits ≤ i →
    all_wrapped bits word (drop i digits) ≡ word
unfolding all_wrapped
wrapped_end bits word digits i past = rw (drop_all i digits past) refl

-- a digit is too large
pub one_too_large : (bits word : ℕ) (digits : List ℕ) (k : ℕ) → k < length digits → 2 ^ bits ≤ slice_index digits k →
    with_digits bits word digits ≡ None
unfolding with_digits
one_too_large bits word [] k below large = absurd (omega arith)
one_too_large bits word (digit ∷ digits) zero below large =
    ap (option_and_then (λ w. with_digits bits w digits)) (digit_too_large bits word digit large)
one_too_large bits word (digit ∷ digits) (suc k) below large =
    none_after (λ w. with_digits bits w digits) (λ w. one_too_large bits w digits k (omega arith) large)
    (with_digit bits word digit)
  where
    none_after : (f : ℕ → Option ℕ) → ((w : ℕ) → f w ≡ None) → (o : Option ℕ) → option_and_then f o ≡ None
    none_after f none None = refl
    none_after f none (Some w) = none w

-- the powers of a word's rooms before and after a digit
room_after : (bits n : ℕ) → suc n * bits ≤ 64 → 2 ^ bits * 2 ^ (64 - suc n * bits) ≡ 2 ^ (64 - n * bits)
room_after bits n few =
    let e = suc-mul n bits in
    let sum : bits + (64 - suc n * bits) ≡ 64 - n * bits = omega arith in
    sym (pow-add 2 bits (64 - suc n * bits)) ∙ ap (λ k. 2 ^ k) sum

-- the word is too large for so many digits
pub no_room : (bits word : ℕ) (digits : List ℕ) → bits ≤ 32 → length digits * bits ≤ 64 → word < 2 ^ 64 →
    2 ^ (64 - length digits * bits) ≤ word → with_digits bits word digits ≡ None
unfolding with_digits
no_room bits word [] small few whole large = absurd (too_large 0 bits word (zero-mul bits) whole large)
  where
    too_large : (n bits word : ℕ) → n * bits ≡ 0 → word < 2 ^ 64 → 2 ^ (64 - n * bits) ≤ word → ⊥
    too_large n bits word none whole large =
        let above : 2 ^ (64 - 0) ≤ word = rw none at large in
        omega arith
no_room bits word (digit ∷ digits) small few whole large =
    elim (cases_lt digit (2 ^ bits)) [
      | inr big ↦ ap (option_and_then (λ w. with_digits bits w digits)) (digit_too_large bits word digit big)
      | inl low ↦ elim (cases_lt word (2 ^ (64 - bits))) [
        | inr big ↦ ap (option_and_then (λ w. with_digits bits w digits)) (word_too_large bits word digit low big)
        | inl room ↦
            let e = suc-mul (length digits) bits in
            let more = word * 2 ^ bits + digit in
            let fits : more < 2 ^ 64 = digit_fits bits word digit small room low in
            let product = room_after bits (length digits) few in
            let scaled = mul-le-mul_right (2 ^ bits) large in
            let large_more : 2 ^ (64 - length digits * bits) ≤ more = omega arith in
            ap (option_and_then (λ w. with_digits bits w digits)) (digit_there bits word digit room low)
            ∙ no_room bits more digits small (omega arith) fits large_more
      ]
    ]

-- all digits fit
pub all_fit : (bits word : ℕ) (digits : List ℕ) → bits ≤ 32 → length digits * bits ≤ 64 →
    ((k : ℕ) → k < length digits → slice_index digits k < 2 ^ bits) → word < 2 ^ (64 - length digits * bits) →
    with_digits bits word digits ≡ Some (all_wrapped bits word digits)
unfolding with_digits all_wrapped
all_fit bits word [] small few low room = refl
all_fit bits word (digit ∷ digits) small few low room =
    let n = length digits in
    let e = suc-mul n bits in
    let first : digit < 2 ^ bits = low 0 (omega arith) in
    let product = room_after bits n few in
    let more = word * 2 ^ bits + digit in
    let below : more < 2 ^ bits * 2 ^ (64 - suc n * bits) =
    mul-add-lt word (2 ^ bits) digit (2 ^ (64 - suc n * bits)) room first in
    let next : more < 2 ^ (64 - n * bits) = rw product at below in
    let less : 2 ^ (64 - suc n * bits) ≤ 2 ^ (64 - bits) = pow_mono (omega arith) in
    let fits : word < 2 ^ (64 - bits) = omega arith in
    let whole : more < 2 ^ 64 = digit_fits bits word digit small fits first in
    let same : wrapped bits word digit ≡ more = omega arith in
    ap (option_and_then (λ w. with_digits bits w digits)) (digit_there bits word digit fits first)
    ∙ all_fit bits more digits small (omega arith) (λ k under. low (suc k) (omega arith)) next
    ∙ ap (λ w. Some (all_wrapped bits w digits)) (sym same)

-- a row whose word this is is the word's
pub row_back : (bits word first : ℕ) (digits : List ℕ) → first < 2 ^ 32 → with_digits bits first digits ≡ Some word →
    unpacked bits (length digits) word ≡ first ∷ digits
unfolding unpacked
row_back bits word first digits small is =
    let e : length digits + 0 ≡ length digits = omega arith in
    let back = digits_back bits 0 first word digits is in
    let low : first % 2 ^ 32 ≡ first = omega arith in
    rw (← e, back, low) refl

pub no_first : (bits : ℕ) (row : List ℕ) → length row ≡ 0 → packed bits row ≡ None
unfolding packed
no_first bits [] empty = refl
no_first bits (first ∷ digits) empty = absurd (omega arith)

pub row_packed : (bits first : ℕ) (digits row : List ℕ) (made : Option ℕ) → row ≡ first ∷ digits → first < 2 ^ 32 →
    made ≡ with_digits bits first digits → IfSome made (λ word. unpacked bits (length row - 1) word ≡ row)
row_packed bits first digits row None parts small is = tt
row_packed bits first digits row (Some word) parts small is =
    let e : suc (length digits) - 1 ≡ length digits = omega arith in
    rw (parts, e) (row_back bits word first digits small (sym is))

-- a digit is written to its place, and what is left of the word stands for the numbers before it
pub digit_written : (bits place rest : ℕ) (row whole : List ℕ) → 0 < place → place < length row →
    unpacked bits place rest ++ drop (place + 1) row ≡ whole →
    unpacked bits (place - 1) (rest / 2 ^ bits) ++ drop (place - 1 + 1) (slice_set row place (rest % 2 ^ bits)) ≡ whole
unfolding unpacked
digit_written bits zero rest row whole some below is = absurd (omega arith)
digit_written bits (suc n) rest row whole some below is =
    let e : suc n - 1 ≡ n = omega arith in
    let at : n + 1 ≡ suc n = omega arith in
    let set = drop-set row (suc n) (rest % 2 ^ bits) below in
    let digits = drop (suc n + 1) row in
    rw (e, at, set) (sym (append_assoc (unpacked bits n (rest / 2 ^ bits)) (rest % 2 ^ bits ∷ []) digits) ∙ is)

-- the first number is what is left of the word
pub first_written : (bits place rest : ℕ) (row whole : List ℕ) → place ≤ 0 → place < length row →
    unpacked bits place rest ++ drop (place + 1) row ≡ whole → slice_set row 0 (rest % 2 ^ 32) ≡ whole
unfolding unpacked
first_written bits zero rest [] whole last below is = absurd (omega arith)
first_written bits zero rest (x ∷ xs) whole last below is = is
first_written bits (suc n) rest row whole last below is = absurd (omega arith)
