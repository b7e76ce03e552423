-- The first property that is violated, one by one.
use Rattle.std.proofs.Common.{◌≡◌, ℕ, ◌+◌, ◌<◌, ◌≤◌, List, ◌∷◌, length, drop, add-one, drop-cons}
use Rattle.std.specs.Prelude.{true, false, Some, None, slice_index_or}
use Rattle.std.proofs.Math.ListN.{drop_of_length-le}
use Rattle.explore_checks.specs.Checks.{first_violated, is_violated}
use Rattle.explore_verdicts.specs.declared.verdict.PropertyVerdict.{PropertyVerdict}

module _ (list : List PropertyVerdict) (i : ℕ) (d : PropertyVerdict) (within : i < length list) where
  left : drop i list ≡ slice_index_or list i d ∷ drop (i + 1) list
  left = rw add-one (drop-cons list i d within)

  pub none_more : is_violated (slice_index_or list i d).verdict ≡ false → first_violated (drop i list) ≡ first_violated list →
      first_violated (drop (i + 1) list) ≡ first_violated list
  unfolding first_violated
  none_more is so = rw is at (rw left at so)

  pub one_found : is_violated (slice_index_or list i d).verdict ≡ true → first_violated (drop i list) ≡ first_violated list →
      Some (slice_index_or list i d).property.now.line ≡ first_violated list
  unfolding first_violated
  one_found is so = rw is at (rw left at so)

pub none_left : (list : List PropertyVerdict) (i : ℕ) → length list ≤ i → first_violated (drop i list) ≡ first_violated list →
    None ≡ first_violated list
unfolding first_violated
none_left list i past so = rw (drop_of_length-le list past) at so
