-- Lists whose items belong to one another.
use Rattle.std.proofs.Common.{ℕ, List, [], ◌∷◌, ◌++◌, Option, Some, None, arith, refl, inl, inr, length-append}
use Rattle.std.proofs.lemmas.Option.{none-some, slice_get_within}
use Rattle.graph_nodes.specs.Sending.{ArePairs, IsTarget}
use Rattle.graph_nodes.specs.declared.parted.Sent.{Sent}
use Rattle.graph_nodes.proofs.GetLemmas.{got_last}

pub no_pairs : {X Y : Type 0} (belongs : X → Y → Type 0) → ArePairs belongs [] []
no_pairs belongs = record {
  same_count = refl;
  each = λ i x y at _. absurd (none-some x at);
}

pub pairs_more : {X Y : Type 0} (belongs : X → Y → Type 0) (xs : List X) (ys : List Y) (x : X) (y : Y) →
    ArePairs belongs xs ys → belongs x y → ArePairs belongs (xs ++ x ∷ []) (ys ++ y ∷ [])
pairs_more belongs xs ys x y pairs one = record {
  same_count = omega (arith, length-append xs (x ∷ []), length-append ys (y ∷ []), pairs.same_count);
  each = λ i a b at_a at_b. elim (got_last xs x i a at_a) [
    | inl early ↦ elim (got_last ys y i b at_b) [
      | inl also ↦ pairs.each i a b early also
      | inr (last, same) ↦ absurd (omega (arith, slice_get_within xs i a early, pairs.same_count, last))
    ]
    | inr (last, same) ↦ elim (got_last ys y i b at_b) [
      | inl early ↦ absurd (omega (arith, slice_get_within ys i b early, pairs.same_count, last))
      | inr (also, is) ↦ rw (same, is) one
    ]
  ];
}

pub pairs_map : {X Y : Type 0} (one other : X → Y → Type 0) (xs : List X) (ys : List Y) →
    ((x : X) (y : Y) → one x y → other x y) → ArePairs one xs ys → ArePairs other xs ys
pairs_map one other xs ys then pairs = record {
  same_count = pairs.same_count;
  each = λ i x y at_x at_y. then x y (pairs.each i x y at_x at_y);
}

-- a target's row
pub target_then : (one other : Sent → List ℕ → Type 0) → ((sent : Sent) (row : List ℕ) → one sent row → other sent row) →
    (sent : Option Sent) (target : Option (List ℕ)) → IsTarget one sent target → IsTarget other sent target
target_then one other then None None is = is
target_then one other then (Some sent) (Some row) is = then sent row is
target_then one other then None (Some row) is = is
target_then one other then (Some sent) None is = is
