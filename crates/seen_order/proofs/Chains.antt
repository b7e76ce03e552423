-- How chains of links grow.
use Rattle.std.proofs.Common.{◌≡◌, ℕ, ◌==◌, Bool, true, false, List, [], ◌∷◌, ◌++◌, refl, ap, sym, ◌∙◌, arith}
use Rattle.std.proofs.lemmas.Bool.Decides.{nat_tests}
use mathlib.Core.List.{IsPrefix}
use Rattle.logbook.specs.Pages.{Cell, cell}
use Rattle.seen_order.specs.declared.links.Link.{Link}
use Rattle.cheri_model.specs.declared.operation.Op.{Op}
use Rattle.seen_order.specs.Orders.{order, open_end, either_order, either_key}
use Rattle.seen_order.specs.Steps.{AreSpent}

-- more links go on where the chain so far ended
pub order_more : (key : ℕ) (xs ys : List Link) → order key (xs ++ ys) ≡ order key xs ++ order (open_end key xs) ys
unfolding order open_end
order_more key [] ys = refl
order_more key (x ∷ xs) ys = by_pen (x.pen == key) (order_more x.next xs ys) (order_more key xs ys)
  where
    by_pen : (b : Bool) → order x.next (xs ++ ys) ≡ order x.next xs ++ order (open_end x.next xs) ys
        → order key (xs ++ ys) ≡ order key xs ++ order (open_end key xs) ys
        → either_order b (x.operation ∷ order x.next (xs ++ ys)) (order key (xs ++ ys))
        ≡ either_order b (x.operation ∷ order x.next xs) (order key xs)
        ++ order (either_key b (open_end x.next xs) (open_end key xs)) ys
    by_pen true its other = ap (λ (os : List Op). x.operation ∷ os) its
    by_pen false its other = other

pub open_end_more : (key : ℕ) (xs ys : List Link) → open_end key (xs ++ ys) ≡ open_end (open_end key xs) ys
unfolding open_end
open_end_more key [] ys = refl
open_end_more key (x ∷ xs) ys = by_pen (x.pen == key) (open_end_more x.next xs ys) (open_end_more key xs ys)
  where
    by_pen : (b : Bool) → open_end x.next (xs ++ ys) ≡ open_end (open_end x.next xs) ys
        → open_end key (xs ++ ys) ≡ open_end (open_end key xs) ys
        → either_key b (open_end x.next (xs ++ ys)) (open_end key (xs ++ ys))
        ≡ open_end (either_key b (open_end x.next xs) (open_end key xs)) ys
    by_pen true its other = its
    by_pen false its other = other

-- so a prefix of the links gives a prefix of the order
pub order_prefix : (key : ℕ) (xs ys : List Link) → IsPrefix xs ys → IsPrefix (order key xs) (order key ys)
order_prefix key xs ys p = (order (open_end key xs) p.0, sym (order_more key xs p.0) ∙ ap (order key) p.1)

-- a pen that is not spent wrote no link
not_written : (cells : List Cell) (key : ℕ) (link : Link) → (cell cells key).1 ≡ false → (cell cells link.pen).1 ≡ true → (link.pen == key) ≡ false
not_written cells key link away spent = by_test (link.pen == key) refl
  where
    by_test : (b : Bool) → (link.pen == key) ≡ b → b ≡ false
    by_test false is = refl
    by_test true is =
        let same : link.pen ≡ key = grind (arith, nat_tests) in
        let both : true ≡ false = sym spent ∙ (ap (λ k. (cell cells k).1) same ∙ away) in absurd cc

pub order_away : (cells : List Cell) (key : ℕ) (links : List Link) → (cell cells key).1 ≡ false → AreSpent cells links → order key links ≡ []
unfolding order
order_away cells key [] away is = refl
order_away cells key (l ∷ ls) away is =
    ap (λ b. either_order b (l.operation ∷ order l.next ls) (order key ls)) (not_written cells key l away is.0)
    ∙ order_away cells key ls away is.1

pub open_end_away : (cells : List Cell) (key : ℕ) (links : List Link) → (cell cells key).1 ≡ false → AreSpent cells links → open_end key links ≡ key
unfolding open_end
open_end_away cells key [] away is = refl
open_end_away cells key (l ∷ ls) away is =
    ap (λ b. either_key b (open_end l.next ls) (open_end key ls)) (not_written cells key l away is.0)
    ∙ open_end_away cells key ls away is.1
