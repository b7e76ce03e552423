-- A stack is a vector whose last item comes first.
use Rattle.std.proofs.Common.{◌≡◌, List, [], ◌∷◌, ◌++◌, reverse, length, drop, refl, sym, ap, ◌∙◌, arith}
use Rattle.std.proofs.lemmas.List.{reverse-append}

pub pushed : {X : Type 0} (xs : List X) (x : X) → reverse (xs ++ x ∷ []) ≡ x ∷ reverse xs
pushed xs x = reverse-append xs (x ∷ [])

pub popped_some : {X : Type 0} (xs ys : List X) (x : X) → xs ≡ ys ++ x ∷ [] → reverse xs ≡ x ∷ reverse ys
popped_some xs ys x e = ap reverse e ∙ pushed ys x

pub nothing : {X : Type 0} (xs : List X) → length xs ≡ 0 → reverse xs ≡ []
nothing [] e = refl
nothing (x ∷ xs) e = absurd (omega arith)

pub rest_after : {X : Type 0} (xs ys : List X) (x : X) → xs ≡ ys ++ x ∷ [] → reverse ys ≡ drop 1 (reverse xs)
rest_after xs ys x e = sym (ap (drop 1) (popped_some xs ys x e))
