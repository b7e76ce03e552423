-- A step for each item: those so far, and those that are left.
use Rattle.std.proofs.Common.{◌≡◌, ℕ, ◌+◌, ◌<◌, ◌≤◌, List, [], ◌∷◌, length, drop, get_or, map, sym, ap, ◌∙◌, drop-cons, add-one}
use Rattle.std.proofs.Math.ListN.{drop_of_length-le}
use Rattle.asm_code.specs.Beginning.{steps_from}

pub steps_next : {Y X S : Type 0} (step : ℕ → X → S → S) (view : Y → X) (items : List Y) (number : ℕ) (d item : Y) (state next whole : S)
    → number < length items → item ≡ get_or items number d → steps_from step number (map view (drop number items)) state ≡ whole
    → next ≡ step number (view item) state → steps_from step (number + 1) (map view (drop (number + 1) items)) next ≡ whole
unfolding steps_from
steps_next step view items number d item state next whole inside here so_far done =
    let split : drop number items ≡ item ∷ drop (number + 1) items = rw (here, add-one) (drop-cons items number d inside) in
    rw done (rw split at so_far)

pub steps_end : {Y X S : Type 0} (step : ℕ → X → S → S) (view : Y → X) (items : List Y) (number : ℕ) (state whole : S)
    → length items ≤ number → steps_from step number (map view (drop number items)) state ≡ whole → state ≡ whole
unfolding steps_from
steps_end step view items number state whole ended so_far = rw (drop_of_length-le items ended) at so_far
