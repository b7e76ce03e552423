-- The numbers that stand for values are those of no other values.
use Rattle.std.proofs.Common.{◌≡◌, ℕ, ◌+◌, ◌*◌, ◌/◌, ◌%◌, ◌^◌, ◌<◌, ◌≤◌, List, [], ◌∷◌, ◌++◌, length, map, refl, sym, ap, ◌∙◌, arith, add-one, drop-cons, append_assoc, append-nil}
use Rattle.std.proofs.Math.ListN.{drop_of_length-le}
use Rattle.std.specs.Prelude.{slice_index_or, drop, Option}
use Rattle.cheri_model.specs.runs.Machine.{MachineState}
use Rattle.std.proofs.lemmas.List.{length-map}
use Rattle.conditions.specs.declared.parts.Shown.{Shown}
use Rattle.outcomes.specs.declared.items.ItemValue.{ItemValue}
use Rattle.outcomes.specs.declared.items.ItemValue.TheVariants.{Number, Running, Halted, Trapped}
use Rattle.outcomes.specs.Items.{five, code_of, codes_of, value_of, values_of}
use Rattle.outcomes.specs.Rows.{values_at}
use Rattle.shown_states.specs.Meant.{state_meant}

-- the number at a place of two lists that are the same
at_place : (xs ys : List ℕ) (i : ℕ) → xs ≡ ys → slice_index_or xs i 0 ≡ slice_index_or ys i 0
at_place xs ys i same = ap (λ (l : List ℕ). slice_index_or l i 0) same

-- a number is its digits
from_digit : (a b : ℕ) → a / 2 ^ 32 ≡ b / 2 ^ 32 → a % 2 ^ 32 ≡ b % 2 ^ 32 → a ≡ b
from_digit a b upper lower = omega (arith, upper, lower)

five_number : (k l a b : ℕ) (xs ys : List ℕ) → five k a ++ xs ≡ five l b ++ ys → (k ≡ l) × (a ≡ b) × (xs ≡ ys)
five_number k l a b xs ys same =
    let fourth = from_digit (a / 2 ^ 32 / 2 ^ 32) (b / 2 ^ 32 / 2 ^ 32) (at_place _ _ 1 same) (at_place _ _ 2 same) in
    let third = from_digit (a / 2 ^ 32) (b / 2 ^ 32) fourth (at_place _ _ 3 same) in (
      at_place _ _ 0 same,
      from_digit a b third (at_place _ _ 4 same),
      ap (λ (l : List ℕ). drop 5 l) same,
    )

different : {A : Type 0} (k l a b : ℕ) (xs ys : List ℕ) → ¬ (k ≡ l) → five k a ++ xs ≡ five l b ++ ys → A
different k l a b xs ys other same = absurd (other (at_place _ _ 0 same))

code_same : (v w : ItemValue) (xs ys : List ℕ) → code_of v ++ xs ≡ code_of w ++ ys → (v ≡ w) × (xs ≡ ys)
unfolding code_of
code_same (Number a) (Number b) xs ys same = let p = five_number 0 0 a b xs ys same in (ap Number p.1, p.2)
code_same (Number a) Running xs ys same = different 0 1 a 0 xs ys (λ e. omega (arith, e)) same
code_same (Number a) Halted xs ys same = different 0 2 a 0 xs ys (λ e. omega (arith, e)) same
code_same (Number a) (Trapped b) xs ys same = different 0 3 a b xs ys (λ e. omega (arith, e)) same
code_same Running (Number b) xs ys same = different 1 0 0 b xs ys (λ e. omega (arith, e)) same
code_same Running Running xs ys same = (refl, (five_number 1 1 0 0 xs ys same).2)
code_same Running Halted xs ys same = different 1 2 0 0 xs ys (λ e. omega (arith, e)) same
code_same Running (Trapped b) xs ys same = different 1 3 0 b xs ys (λ e. omega (arith, e)) same
code_same Halted (Number b) xs ys same = different 2 0 0 b xs ys (λ e. omega (arith, e)) same
code_same Halted Running xs ys same = different 2 1 0 0 xs ys (λ e. omega (arith, e)) same
code_same Halted Halted xs ys same = (refl, (five_number 2 2 0 0 xs ys same).2)
code_same Halted (Trapped b) xs ys same = different 2 3 0 b xs ys (λ e. omega (arith, e)) same
code_same (Trapped a) (Number b) xs ys same = different 3 0 a b xs ys (λ e. omega (arith, e)) same
code_same (Trapped a) Running xs ys same = different 3 1 a 0 xs ys (λ e. omega (arith, e)) same
code_same (Trapped a) Halted xs ys same = different 3 2 a 0 xs ys (λ e. omega (arith, e)) same
code_same (Trapped a) (Trapped b) xs ys same = let p = five_number 3 3 a b xs ys same in (ap Trapped p.1, p.2)

code_size : (v : ItemValue) (xs : List ℕ) → length (code_of v ++ xs) ≡ 5 + length xs
unfolding code_of
code_size (Number a) xs = omega arith
code_size Running xs = omega arith
code_size Halted xs = omega arith
code_size (Trapped a) xs = omega arith

none_or_more : {A : Type 0} (v : ItemValue) (xs : List ℕ) → [] ≡ code_of v ++ xs → A
none_or_more v xs same =
    let size = code_size v xs in
    let none : 0 ≡ length (code_of v ++ xs) = ap length same in
    absurd (omega (arith, size, none))

-- values with the same numbers are the same
pub codes_same : (vs ws : List ItemValue) → codes_of vs ≡ codes_of ws → vs ≡ ws
unfolding codes_of
codes_same [] [] same = refl
codes_same [] (w ∷ ws) same = none_or_more w (codes_of ws) same
codes_same (v ∷ vs) [] same = none_or_more v (codes_of vs) (sym same)
codes_same (v ∷ vs) (w ∷ ws) same =
    let p = code_same v w (codes_of vs) (codes_of ws) same in
    ap (λ (u : ItemValue). u ∷ vs) p.0 ∙ ap (λ (us : List ItemValue). w ∷ us) (codes_same vs ws p.1)

-- five numbers stand for a value
pub codes_size : (vs : List ItemValue) → length (codes_of vs) ≡ 5 * length vs
unfolding codes_of
codes_size [] = refl
codes_size (v ∷ vs) = let more = codes_size vs in omega (arith, code_size v (codes_of vs), more)

-- so are rows of values
pub rows_same : (at : ℕ → Option MachineState) (items : List Shown) (m n : ℕ)
    → codes_of (values_at at items m) ≡ codes_of (values_at at items n) → values_at at items m ≡ values_at at items n
rows_same at items m n same = codes_same (values_at at items m) (values_at at items n) same

-- and they are as many
pub row_size : (at : ℕ → Option MachineState) (items : List Shown) (n : ℕ) → length (codes_of (values_at at items n)) ≡ 5 * length items
unfolding values_at values_of
row_size at items n =
    codes_size (map (value_of (state_meant (at n))) items) ∙ ap (λ (k : ℕ). 5 * k) (length-map items (value_of (state_meant (at n))))

-- the numbers of one value more
pub code_more : (vs : List ItemValue) (i : ℕ) (d v : ItemValue) (before after all : List ℕ) → i < length vs → v ≡ slice_index_or vs i d
    → after ≡ before ++ code_of v → before ++ codes_of (drop i vs) ≡ all → after ++ codes_of (drop (i + 1) vs) ≡ all
unfolding codes_of
code_more vs i d v before after all within is pushed whole =
    let here : drop i vs ≡ slice_index_or vs i d ∷ drop (i + 1) vs = rw add-one (drop-cons vs i d within) in
    rw (pushed, is, append_assoc) (rw here at whole)

pub code_end : (vs : List ItemValue) (i : ℕ) (before all : List ℕ) → length vs ≤ i → before ++ codes_of (drop i vs) ≡ all → before ≡ all
unfolding codes_of
code_end vs i before all past whole =
    let none : drop i vs ≡ [] = drop_of_length-le vs past in
    rw append-nil at (rw none at whole)
