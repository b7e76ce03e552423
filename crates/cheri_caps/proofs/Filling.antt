-- Filling an array from another one, place by place.
use Rattle.std.proofs.Common.{◌≡◌, ℕ, ◌+◌, ◌<◌, zero, suc, List, [], ◌∷◌, ◌++◌, length, map, take, drop, get_or, refl, ap, arith, add-one}
use Rattle.std.proofs.Math.ListN.{set}

pub fill_more : {A B : Type 0} (f : A → B) (xs : List A) (ys : List B) (i : ℕ) (d : A) → i < length xs → i < length ys →
    set (map f (take i xs) ++ drop i ys) i (f (get_or xs i d)) ≡ map f (take (i + 1) xs) ++ drop (i + 1) ys
fill_more f [] ys i d h k = absurd (omega arith)
fill_more f (x ∷ xs) [] i d h k = absurd (omega arith)
fill_more f (x ∷ xs) (y ∷ ys) zero d h k = refl
fill_more f (x ∷ xs) (y ∷ ys) (suc i) d h k =
    rw add-one (ap (λ zs. f x ∷ zs) (rw add-one at (fill_more f xs ys i d (omega arith) (omega arith))))
