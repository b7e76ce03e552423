-- Rows of values that are found to be the same are.
use Rattle.std.proofs.Common.{◌≡◌, ℕ, ◌==◌, ◌&&◌, Bool, true, List, [], ◌∷◌, refl, ap, ◌∙◌, arith, eqb-true}
use Rattle.std.proofs.lemmas.Bool.Decides.{nat_tests}
use Rattle.std.proofs.lemmas.Bool.{and_parts}
use Rattle.outcomes.specs.declared.items.ItemValue.{ItemValue}
use Rattle.outcomes.specs.declared.items.ItemValue.TheVariants.{Number, Running, Halted, Trapped}
use Rattle.sample_tallies.specs.SameStates.{same_lists}
use Rattle.sample_texts.specs.ShownRows.{same_item, same_row}

numbers : (m n : ℕ) → (m == n) ≡ true → m ≡ n
numbers m n h = eqb-true m n h

one_item : (v w : ItemValue) → same_item v w ≡ true → v ≡ w
unfolding same_item
one_item (Number a) (Number b) h = ap Number (numbers a b h)
one_item (Number a) Running h = absurd (cc)
one_item (Number a) Halted h = absurd (cc)
one_item (Number a) (Trapped b) h = absurd (cc)
one_item Running (Number b) h = absurd (cc)
one_item Running Running h = refl
one_item Running Halted h = absurd (cc)
one_item Running (Trapped b) h = absurd (cc)
one_item Halted (Number b) h = absurd (cc)
one_item Halted Running h = absurd (cc)
one_item Halted Halted h = refl
one_item Halted (Trapped b) h = absurd (cc)
one_item (Trapped a) (Number b) h = absurd (cc)
one_item (Trapped a) Running h = absurd (cc)
one_item (Trapped a) Halted h = absurd (cc)
one_item (Trapped a) (Trapped b) h = ap Trapped (numbers a b h)

item_itself : (v : ItemValue) → same_item v v ≡ true
unfolding same_item
item_itself (Number a) = grind (arith, nat_tests)
item_itself Running = refl
item_itself Halted = refl
item_itself (Trapped a) = grind (arith, nat_tests)

pub one_row : (vs ws : List ItemValue) → same_row vs ws ≡ true → vs ≡ ws
unfolding same_lists
one_row [] [] h = refl
one_row [] (w ∷ ws) h = absurd (cc)
one_row (v ∷ vs) [] h = absurd (cc)
one_row (v ∷ vs) (w ∷ ws) h =
    let p = and_parts (same_item v w) (same_row vs ws) h in
    ap (λ (u : ItemValue). u ∷ vs) (one_item v w p.0) ∙ ap (λ (us : List ItemValue). w ∷ us) (one_row vs ws p.1)

pub row_itself : (vs : List ItemValue) → same_row vs vs ≡ true
unfolding same_lists
row_itself [] = refl
row_itself (v ∷ vs) =
    ap (λ (b : Bool). b && same_row vs vs) (item_itself v) ∙ row_itself vs
