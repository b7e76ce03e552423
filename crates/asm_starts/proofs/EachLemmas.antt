-- A step for each item: those so far, and those that are left.
use Rattle.std.proofs.Common.{◌≡◌, ◌⊎◌, inl, inr, ℕ, ◌+◌, ◌<◌, ◌≤◌, List, ◌∷◌, length, drop, get_or, map, Ok, Err, sym, ap, ◌∙◌, drop-cons, add-one}
use Rattle.std.specs.Prelude.{Result}
use Rattle.std.proofs.Math.ListN.{drop_of_length-le}
use Rattle.asm_tokens.specs.Faults.{◌>>=◌}
use Rattle.asm_starts.specs.Words.{each_put}

module _ {X Y S E : Type 0} (view : X → Y) (step : Y → S → Result S E) (items : List X) (place : ℕ) (d item : X) (state : S)
    (whole : Result S E) (inside : place < length items) (here : item ≡ get_or items place d)
    (so_far : each_put step (map view (drop place items)) state ≡ whole) where
  next_item : drop place items ≡ item ∷ drop (place + 1) items
  next_item = rw (here, add-one) (drop-cons items place d inside)

  from_here : (step (view item) state >>= λ next. each_put step (map view (drop (place + 1) items)) next) ≡ whole
  unfolding each_put
  from_here = ap (λ (left : List X). each_put step (map view left) state) (sym next_item) ∙ so_far

  pub each_step : (next : S) → step (view item) state ≡ Ok next → each_put step (map view (drop (place + 1) items)) next ≡ whole
  each_step next done = rw done at from_here

  pub each_refused : (fault : E) → step (view item) state ≡ Err fault → whole ≡ Err fault
  each_refused fault refused = sym (rw refused at from_here)

  pub each_refused_or : (Other : Type 0) (fault : E) → Other ⊎ (step (view item) state ≡ Err fault) → Other ⊎ (whole ≡ Err fault)
  each_refused_or Other fault (inl other) = inl other
  each_refused_or Other fault (inr refused) = inr (each_refused fault refused)

-- no item is left
pub each_end : {X Y S E : Type 0} (view : X → Y) (step : Y → S → Result S E) (items : List X) (place : ℕ) (state : S)
    (whole : Result S E) → length items ≤ place → each_put step (map view (drop place items)) state ≡ whole → whole ≡ Ok state
unfolding each_put
each_end view step items place state whole ended so_far =
    let none = drop_of_length-le items ended in
    sym (rw none at so_far)
