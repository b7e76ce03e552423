-- A step for each item: those so far, and those that are left.
use Rattle.std.proofs.Common.{◌≡◌, ◌⊎◌, inl, inr, ℕ, ◌+◌, ◌<◌, ◌≤◌, List, [], ◌∷◌, length, drop, get_or, Ok, Err, sym, ap, ◌∙◌, drop-cons, add-one}
use Rattle.std.specs.Prelude.{Result}
use Rattle.std.proofs.Math.ListN.{drop_of_length-le}
use Rattle.asm_tokens.specs.Faults.{◌>>=◌}
use Rattle.asm_files.specs.Steps.{each_from}

module _ {X S E : Type 0} (step : ℕ → X → S → Result S E) (items : List X) (number : ℕ) (d item : X) (state : S)
    (whole : Result S E) (inside : number < length items) (here : item ≡ get_or items number d)
    (so_far : each_from step number (drop number items) state ≡ whole) where
  from_here : (step number item state >>= λ next. each_from step (number + 1) (drop (number + 1) items) next) ≡ whole
  unfolding each_from
  from_here =
      let split : drop number items ≡ item ∷ drop (number + 1) items = rw (here, add-one) (drop-cons items number d inside) in
      ap (λ (rest : List X). each_from step number rest state) (sym split) ∙ so_far

  pub item_next : (next : S) → step number item state ≡ Ok next → each_from step (number + 1) (drop (number + 1) items) next ≡ whole
  item_next next done = rw done at from_here

  pub item_refused : (N : Type 0) (fault : E) → N ⊎ (step number item state ≡ Err fault) → N ⊎ (whole ≡ Err fault)
  item_refused N fault (inl none) = inl none
  item_refused N fault (inr refused) = inr (sym (rw refused at from_here))

-- no item is left
pub items_done : {X S E : Type 0} (step : ℕ → X → S → Result S E) (items : List X) (number : ℕ) (state : S)
    (whole : Result S E) → length items ≤ number → each_from step number (drop number items) state ≡ whole → whole ≡ Ok state
unfolding each_from
items_done step items number state whole ended so_far =
    let none : drop number items ≡ [] = drop_of_length-le items ended in
    sym (rw none at so_far)
