-- The two steps on a book keep its rule.
use Rattle.std.proofs.Common.{◌≡◌, ℕ, zero, suc, ◌<◌, ◌==◌, true, false, List, [], ◌∷◌, ◌++◌, length, set, refl, ap, sym, subst, ◌∙◌, arith, inl, length-append, length-set, Option}
use Rattle.std.proofs.lemmas.List.{append-nil}
use Rattle.std.proofs.lemmas.Bool.Decides.{nat_tests}
use mathlib.Core.List.{IsPrefix}
use prog.Atomic.{either}
use Rattle.logbook.specs.Pages.{Cell, cell, adds, gives, Nib, no_nib, may_write, step, Moves}
use Rattle.seen_order.specs.declared.links.Link.{Link}
use Rattle.seen_order.specs.Orders.{order, open_end, either_order, either_key}
use Rattle.seen_order.specs.Steps.{IsSpent, AreSpent, IsKept, MakesPen, AddsLink}
use Rattle.seen_order.proofs.Chains.{order_more, open_end_more, order_away, open_end_away}

abbrev pub shown : List Link → List Link
shown links = []

abbrev pub moved : List Link → List Link → ℕ → Type 0
moved xs ys n = Unit {0}

-- what is spent stays so
spent_set : (cells : List Cell) (j k n : ℕ) → IsSpent cells k → IsSpent (set cells j (n, true)) k
spent_set [] j k n is = is
spent_set (c ∷ cells) zero zero n is = refl
spent_set (c ∷ cells) zero (suc k) n is = is
spent_set (c ∷ cells) (suc j) zero n is = is
spent_set (c ∷ cells) (suc j) (suc k) n is = spent_set cells j k n is

spent_push : (cells : List Cell) (k : ℕ) (more : List Cell) → IsSpent cells k → IsSpent (cells ++ more) k
spent_push [] k more is = absurd cc
spent_push (c ∷ cells) zero more is = is
spent_push (c ∷ cells) (suc k) more is = spent_push cells k more is

spent_here : (cells : List Cell) (k n : ℕ) → k < length cells → IsSpent (set cells k (n, true)) k
spent_here [] k n inside = absurd (omega arith)
spent_here (c ∷ cells) zero n inside = refl
spent_here (c ∷ cells) (suc k) n inside = spent_here cells k n (omega arith)

-- no cell lies past the last
none_past : (cells : List Cell) → (cell cells (length cells)).1 ≡ false
none_past [] = refl
none_past (c ∷ cells) = none_past cells

links_spent_still : (cells after : List Cell) → ((k : ℕ) → IsSpent cells k → IsSpent after k) → (links : List Link) → AreSpent cells links → AreSpent after links
links_spent_still cells after stays [] is = tt
links_spent_still cells after stays (l ∷ ls) is = (stays l.pen is.0, links_spent_still cells after stays ls is.1)

links_spent_push : (cells : List Cell) (links : List Link) (l : Link) → AreSpent cells links → IsSpent cells l.pen → AreSpent cells (links ++ l ∷ [])
links_spent_push cells [] l is here = (here, tt)
links_spent_push cells (x ∷ links) l is here = (is.0, links_spent_push cells links l is.1 here)

links_spent_rest : (cells : List Cell) (xs ys : List Link) → AreSpent cells (xs ++ ys) → AreSpent cells ys
links_spent_rest cells [] ys is = is
links_spent_rest cells (x ∷ xs) ys is = links_spent_rest cells xs ys is.1

-- whatever the book is, the step makes a pen that wrote nothing
pub makes_moves : (v : List Link) (s : Option ℕ) (e : Link) →
    Moves IsKept shown moved 0 (v, (no_nib, s)) (λ n. either (n == 0) 0 n) (MakesPen (step 0 0 0 e) (v, (no_nib, s)))
makes_moves v s e cells log kept pre away =
    let n : ℕ = either ((cell cells 0).0 == 0) 0 (cell cells 0).0 in
    let all : log ++ [] ≡ log = append-nil log in
    let spent : AreSpent (set cells 0 (n, true) ++ (0, false) ∷ []) (log ++ []) =
    subst (AreSpent (set cells 0 (n, true) ++ (0, false) ∷ [])) (sym all)
    (links_spent_still cells _ (λ k is. spent_push (set cells 0 (n, true)) k ((0, false) ∷ []) (spent_set cells 0 k n is)) log kept.spent) in (
      kept.there,
      kept.head,
      (
        adds,
        [],
        s,
        tt,
        record {
          there = (let there = kept.there in omega (arith, length-append (set cells 0 (n, true)) ((0, false) ∷ []), length-set cells 0 (n, true)));
          head = spent_push (set cells 0 (n, true)) 0 ((0, false) ∷ []) (spent_set cells 0 0 n kept.head);
          spent = spent;
        },
        inl (refl, refl),
        (
          refl,
          ap (order (length cells)) all ∙ order_away cells (length cells) log (none_past cells) kept.spent,
          ap (open_end (length cells)) all ∙ open_end_away cells (length cells) log (none_past cells) kept.spent,
        ),
      ),
    )

-- what the links that were not seen did to a chain whose pen is not spent: nothing
pub record Ended (first pen : ℕ) (v log : List Link) : Type 0 where
  pub order_is : order first log ≡ order first v
  pub end_is : open_end first log ≡ pen

ended : (cells : List Cell) (first pen : ℕ) (v log : List Link) → IsPrefix v log → AreSpent cells log → (cell cells pen).1 ≡ false → open_end first v ≡ pen → Ended first pen v log
ended cells first pen v log pre spent away end =
    let rest = pre.0 in
    let after : AreSpent cells rest = links_spent_rest cells v rest (subst (AreSpent cells) (sym pre.1) spent) in
    record {
      order_is = ap (order first) (sym pre.1) ∙ order_more first v rest
          ∙ ap (λ os. order first v ++ os) (ap (λ k. order k rest) end ∙ order_away cells pen rest away after)
          ∙ append-nil (order first v);
      end_is = ap (open_end first) (sym pre.1) ∙ open_end_more first v rest
          ∙ ap (λ k. open_end k rest) end ∙ open_end_away cells pen rest away after;
    }

same_pen : (k : ℕ) → (k == k) ≡ true
same_pen k = grind (arith, nat_tests)

one_link : (l : Link) → order l.pen (l ∷ []) ≡ l.operation ∷ []
unfolding order
one_link l = ap (λ b. either_order b (l.operation ∷ []) []) (same_pen l.pen)

one_end : (l : Link) → open_end l.pen (l ∷ []) ≡ l.next
unfolding open_end
one_end l = ap (λ b. either_key b l.next l.pen) (same_pen l.pen)

added : (first : ℕ) (v log : List Link) (e : Link) → Ended first e.pen v log →
    (order first (log ++ e ∷ []) ≡ order first v ++ e.operation ∷ []) × (open_end first (log ++ e ∷ []) ≡ e.next)
added first v log e is = (
  order_more first log (e ∷ []) ∙ ap (λ os. os ++ order (open_end first log) (e ∷ [])) is.order_is
      ∙ ap (λ os. order first v ++ os) (ap (λ k. order k (e ∷ [])) is.end_is ∙ one_link e),
  open_end_more first log (e ∷ []) ∙ ap (λ k. open_end k (e ∷ [])) is.end_is ∙ one_end e,
)

-- whatever the book is, the step adds the link to the chain that its pen goes on
pub adds_moves : (v : List Link) (p : Nib) (s : Option ℕ) (e : Link) → p.right ≡ may_write → e.pen ≡ p.key →
    Moves IsKept shown moved 0 (v, (p, s)) (λ n. either (n == 0) 0 n) (AddsLink (step 0 0 0 e) (v, (p, s)))
adds_moves v p s e right key cells log kept pre away =
    let n : ℕ = either ((cell cells 0).0 == 0) 0 (cell cells 0).0 in
    let there = (away right).0 in
    let gone : (cell cells e.pen).1 ≡ false = ap (λ k. (cell cells k).1) key ∙ (away right).1 in
    let later : List Cell = set (set cells 0 (n, true)) p.key (p.value, true) in
    let inside : p.key < length (set cells 0 (n, true)) = omega (arith, there, length-set cells 0 (n, true)) in
    let here : IsSpent later e.pen = subst (IsSpent later) (sym key) (spent_here (set cells 0 (n, true)) p.key p.value inside) in
    let spent = links_spent_still cells later (λ k is. spent_set (set cells 0 (n, true)) p.key k p.value (spent_set cells 0 k n is)) log kept.spent in (
      kept.there,
      kept.head,
      (
        gives,
        e ∷ [],
        s,
        right,
        record {
          there = (let there = kept.there in omega (arith, length-set (set cells 0 (n, true)) p.key (p.value, true), length-set cells 0 (n, true)));
          head = spent_set (set cells 0 (n, true)) p.key 0 p.value (spent_set cells 0 0 n kept.head);
          spent = links_spent_push later log e spent here;
        },
        inl (refl, refl),
        λ first same. added first v log e (ended cells first e.pen v log pre kept.spent gone same),
      ),
    )
