-- Ranges, one by one.
use Rattle.std.proofs.Common.{◌≡◌, ℕ, suc, ◌+◌, ◌<◌, ◌≤◌, List, [], ◌∷◌, length, drop, map, get_or, refl, ap, drop-cons, add-one}
use Rattle.std.proofs.Math.ListN.{drop_of_length-le}
use Rattle.std.specs.Prelude.{Bool, true, false, fold, if◌then◌else◌}
use Rattle.explore_sweeps.specs.declared.Sweep.{Sweep}
use Rattle.schedules.specs.declared.ranges.SweepRange.{SweepRange}
use Rattle.sample_slices.specs.Sweeps.{is_among, range_of, same_range, same_ranges, with_range}

-- ---- whether one is among others

module _ (list : List SweepRange) (i : ℕ) (d range : SweepRange) (room : i < length list) where
  left : drop i list ≡ get_or list i d ∷ drop (i + 1) list
  left = rw add-one (drop-cons list i d room)

  pub range_missed : same_range (get_or list i d) range ≡ false → is_among (drop i list) range ≡ is_among list range
      → is_among (drop (i + 1) list) range ≡ is_among list range
  unfolding is_among
  range_missed is so = rw is at (rw left at so)

  pub range_found : same_range (get_or list i d) range ≡ true → is_among (drop i list) range ≡ is_among list range
      → true ≡ is_among list range
  unfolding is_among
  range_found is so = rw is at (rw left at so)

pub no_range_left : (list : List SweepRange) (i : ℕ) (range : SweepRange) → length list ≤ i
    → is_among (drop i list) range ≡ is_among list range → false ≡ is_among list range
unfolding is_among
no_range_left list i range past so = rw (drop_of_length-le list past) at so

pub ruleset among = (range_missed, range_found, no_range_left)

-- ---- whether two lists are the same

shorter : (same rest : Bool) → false ≡ rest → false ≡ (if same then rest else false)
shorter true rest is = is
shorter false rest is = refl

module _ (list others : List SweepRange) (i : ℕ) (d e : SweepRange) (all : Bool) (room : i < length list) (also : i < length others) where
  ahead : drop i list ≡ get_or list i d ∷ drop (i + 1) list
  ahead = rw add-one (drop-cons list i d room)

  beside : drop i others ≡ get_or others i e ∷ drop (i + 1) others
  beside = rw add-one (drop-cons others i e also)

  pub same_more : same_range (get_or list i d) (get_or others i e) ≡ true → same_ranges (drop i list) (drop i others) ≡ all
      → same_ranges (drop (i + 1) list) (drop (i + 1) others) ≡ all
  unfolding same_ranges
  same_more is so = rw is at (rw (ahead, beside) at so)

  pub other_found : same_range (get_or list i d) (get_or others i e) ≡ false → same_ranges (drop i list) (drop i others) ≡ all
      → false ≡ all
  unfolding same_ranges
  other_found is so = rw is at (rw (ahead, beside) at so)

pub same_end : (list others : List SweepRange) (i : ℕ) (all : Bool) → length list ≤ i → length others ≤ i
    → same_ranges (drop i list) (drop i others) ≡ all → true ≡ all
unfolding same_ranges
same_end list others i all past also so = rw (drop_of_length-le list past, drop_of_length-le others also) at so

pub other_length : (list others : List SweepRange) → ¬ (length list ≡ length others) → false ≡ same_ranges list others
unfolding same_ranges
other_length [] [] other = absurd (other refl)
other_length [] (y ∷ others) other = refl
other_length (x ∷ list) [] other = refl
other_length (x ∷ list) (y ∷ others) other =
    shorter (same_range x y) (same_ranges list others) (other_length list others (λ e. other (ap suc e)))

pub ruleset same = (same_more, other_found, same_end, other_length)

-- ---- ranges with others

module _ (list : List SweepRange) (i : ℕ) (d : SweepRange) (now next all : List SweepRange) where
  pub range_added : i < length list → next ≡ with_range now (get_or list i d) → fold with_range now (drop i list) ≡ all
      → fold with_range next (drop (i + 1) list) ≡ all
  range_added room is so =
      let left : drop i list ≡ get_or list i d ∷ drop (i + 1) list = rw add-one (drop-cons list i d room) in
      rw is (rw left at so)

  pub ranges_end : length list ≤ i → fold with_range now (drop i list) ≡ all → now ≡ all
  ranges_end past so = rw (drop_of_length-le list past) at so

module _ (list : List Sweep) (i : ℕ) (d : Sweep) (now next all : List SweepRange) where
  pub sweep_added : i < length list → next ≡ with_range now (range_of (get_or list i d))
      → fold with_range now (map range_of (drop i list)) ≡ all
      → fold with_range next (map range_of (drop (i + 1) list)) ≡ all
  sweep_added room is so =
      let left : drop i list ≡ get_or list i d ∷ drop (i + 1) list = rw add-one (drop-cons list i d room) in
      rw is (rw left at so)

  pub sweeps_end : length list ≤ i → fold with_range now (map range_of (drop i list)) ≡ all → now ≡ all
  sweeps_end past so = rw (drop_of_length-le list past) at so
