-- A loop over what a chain of iterators yields.
use Rattle.std.proofs.Common.{◌≡◌, ℕ, ◌+◌, ◌<◌, suc, List, ◌∷◌, length, get_or, drop, map, Option, Some, None, sym, ap, ◌∙◌, add-one}
use Rattle.std.proofs.Math.Seq.{drop-cons}
use Rattle.std.specs.Iterator.{Yields}
use Rattle.std.proofs.lemmas.Iterator.{YieldsList}
use Rattle.std.proofs.lemmas.Iterator.Consumers.{YieldsList-turn, YieldsList-end}

-- where a chain yields its next item, and that no item is left at its end: the chain comes last, so that the others show what it is
pub turn_of : {S A B : Type 0} {steps : S → Option A → S → Type 0} {v : A → B} {s : S} {all : List B} (xs : List A) (t : S) (y : Yields steps s xs t) (r : Option A) (u : S) (x : A) → r ≡ Some x → steps t r u → YieldsList steps v s all → (length xs < length all) × (v x ≡ get_or all (length xs) (v x))
turn_of xs t y r u x is p chain = YieldsList-turn chain xs t y r u x is p

pub end_of : {S A B : Type 0} {steps : S → Option A → S → Type 0} {v : A → B} {s : S} {all : List B} (xs : List A) (t : S) (y : Yields steps s xs t) (r : Option A) (u : S) → r ≡ None → steps t r u → YieldsList steps v s all → (map v xs ≡ all) × (length xs ≡ length all)
end_of xs t y r u is p chain = YieldsList-end chain xs t y r u is p

-- the items from a place on are the one there and those after it
pub from_here : {X : Type 0} (all : List X) (place : ℕ) (x : X) → place < length all → x ≡ get_or all place x → drop place all ≡ x ∷ drop (place + 1) all
from_here all place x h e = rw add-one (drop-cons all place x h ∙ ap (λ y. y ∷ drop (suc place) all) (sym e))
