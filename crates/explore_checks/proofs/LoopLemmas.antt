-- Whether a property asks of loops, one by one.
use Rattle.std.proofs.Common.{◌≡◌, ℕ, ◌+◌, ◌<◌, ◌≤◌, List, ◌∷◌, length, drop, add-one, drop-cons}
use Rattle.std.specs.Prelude.{true, false, slice_index_or}
use Rattle.std.proofs.Math.ListN.{drop_of_length-le}
use Rattle.explore_checks.specs.Checks.{asks_of_loops, one_asks}
use Rattle.explore_properties.specs.Properties.{PropertyParts}

module _ (list : List PropertyParts) (i : ℕ) (d : PropertyParts) (within : i < length list) where
  left : drop i list ≡ slice_index_or list i d ∷ drop (i + 1) list
  left = rw add-one (drop-cons list i d within)

  pub none_so_far : asks_of_loops (slice_index_or list i d).claim ≡ false → one_asks (drop i list) ≡ one_asks list →
      one_asks (drop (i + 1) list) ≡ one_asks list
  unfolding one_asks
  none_so_far is so = rw is at (rw left at so)

  pub this_asks : asks_of_loops (slice_index_or list i d).claim ≡ true → one_asks (drop i list) ≡ one_asks list →
      true ≡ one_asks list
  unfolding one_asks
  this_asks is so = rw is at (rw left at so)

pub none_asks : (list : List PropertyParts) (i : ℕ) → length list ≤ i → one_asks (drop i list) ≡ one_asks list →
    false ≡ one_asks list
unfolding one_asks
none_asks list i past so = rw (drop_of_length-le list past) at so
