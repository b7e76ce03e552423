-- Numbers that move, and comparisons that stay as they are wanted to be.
use Rattle.std.proofs.Common.{◌≡◌, ℕ, zero, suc, ◌+◌, ◌≤◌, ◌==◌, arith, refl, ap}
use Rattle.std.specs.Prelude.{Bool, true, false, not, ◌||◌, if◌then◌else◌}
use Rattle.std.proofs.lemmas.Bool.Decides.{nat_tests}
use Rattle.conditions.specs.declared.parts.Comparison.{Comparison}
use Rattle.conditions.specs.declared.parts.Comparison.TheVariants.{Equal, NotEqual, Less, AtMost, Greater, AtLeast}
use Rattle.conditions.specs.declared.ways.Way.{Way}
use Rattle.conditions.specs.declared.ways.Way.TheVariants.{Falls, Rises, Stays}
use Rattle.conditions.specs.Holding.{how_many}
use Rattle.conditions.specs.Values.{compares}
use Rattle.conditions.specs.Hiding.{left_way, opposite, moves, count_needs}

pub moves_not : (way : Way) (x : ℕ) → moves way x x ≡ true
unfolding moves
moves_not Falls x = grind (arith, nat_tests)
moves_not Rises x = grind (arith, nat_tests)
moves_not Stays x = grind (arith, nat_tests)

-- both sides of a comparison moved as they may
pub compares_still : (wanted : Bool) (c : Comparison) (x y z w : ℕ) → moves (left_way wanted c) x z ≡ true → moves (opposite (left_way wanted c)) y w ≡ true
    → compares c x y ≡ wanted → compares c z w ≡ wanted
unfolding left_way moves compares
compares_still true Equal x y z w one other is = grind (arith, nat_tests)
compares_still true NotEqual x y z w one other is = grind (arith, nat_tests)
compares_still true Less x y z w one other is = grind (arith, nat_tests)
compares_still true AtMost x y z w one other is = grind (arith, nat_tests)
compares_still true Greater x y z w one other is = grind (arith, nat_tests)
compares_still true AtLeast x y z w one other is = grind (arith, nat_tests)
compares_still false Equal x y z w one other is = grind (arith, nat_tests)
compares_still false NotEqual x y z w one other is = grind (arith, nat_tests)
compares_still false Less x y z w one other is = grind (arith, nat_tests)
compares_still false AtMost x y z w one other is = grind (arith, nat_tests)
compares_still false Greater x y z w one other is = grind (arith, nat_tests)
compares_still false AtLeast x y z w one other is = grind (arith, nat_tests)

some : (n : ℕ) → (suc n == 0) ≡ false
some n = grind (arith, nat_tests)

some_needs : (n : ℕ) (value : Bool) → count_needs true Equal (suc n) value ≡ true
some_needs n value = ap (λ b. not b || not value) (some n)

others_need : (n : ℕ) (value : Bool) → count_needs false Equal (suc n) value ≡ true
others_need n value = ap (λ b. not b || not (not value)) (some n)

-- a count moved as it may
pub count_still : (wanted : Bool) (c : Comparison) (n x z : ℕ) → (count_needs wanted c n true ≡ true → x ≤ z)
    → (count_needs wanted c n false ≡ true → z ≤ x) → compares c x n ≡ wanted → compares c z n ≡ wanted
unfolding compares
count_still true AtLeast n x z up down is = let more = up refl in grind (arith, nat_tests)
count_still true Greater n x z up down is = let more = up refl in grind (arith, nat_tests)
count_still true AtMost n x z up down is = let less = down refl in grind (arith, nat_tests)
count_still true Less n x z up down is = let less = down refl in grind (arith, nat_tests)
count_still true NotEqual n x z up down is = let more = up refl in let less = down refl in grind (arith, nat_tests)
count_still true Equal zero x z up down is = let less = down refl in grind (arith, nat_tests)
count_still true Equal (suc n) x z up down is =
    let more = up (some_needs n true) in let less = down (some_needs n false) in grind (arith, nat_tests)
count_still false AtLeast n x z up down is = let less = down refl in grind (arith, nat_tests)
count_still false Greater n x z up down is = let less = down refl in grind (arith, nat_tests)
count_still false AtMost n x z up down is = let more = up refl in grind (arith, nat_tests)
count_still false Less n x z up down is = let more = up refl in grind (arith, nat_tests)
count_still false NotEqual n x z up down is = let more = up refl in let less = down refl in grind (arith, nat_tests)
count_still false Equal zero x z up down is = let more = up refl in grind (arith, nat_tests)
count_still false Equal (suc n) x z up down is =
    let more = up (others_need n true) in let less = down (others_need n false) in grind (arith, nat_tests)

one_at_most : (x y : Bool) (m n : ℕ) → m ≤ n → (x ≡ true → y ≡ true) → m + (if x then 1 else 0) ≤ n + (if y then 1 else 0)
one_at_most true true m n less gives = omega (arith, less)
one_at_most true false m n less gives = let clash : false ≡ true = gives refl in absurd (cc)
one_at_most false true m n less gives = omega (arith, less)
one_at_most false false m n less gives = omega (arith, less)

-- what holds of more harts is counted at least as often
pub many_at_most : (p q : ℕ → Bool) (n : ℕ) → ((k : ℕ) → p k ≡ true → q k ≡ true) → how_many p n ≤ how_many q n
unfolding how_many
many_at_most p q zero gives = omega arith
many_at_most p q (suc n) gives = one_at_most (p n) (q n) (how_many p n) (how_many q n) (many_at_most p q n gives) (gives n)

contrary : (x y : Bool) → (y ≡ false → x ≡ false) → x ≡ true → y ≡ true
contrary x true gives is = refl
contrary x false gives is = let clash : x ≡ false = gives refl in absurd (cc)

pub many_fewer : (p q : ℕ → Bool) (n : ℕ) → ((k : ℕ) → p k ≡ false → q k ≡ false) → how_many q n ≤ how_many p n
many_fewer p q n gives = many_at_most q p n (λ k is. contrary (q k) (p k) (gives k) is)
