-- How the code gathers what is looked at.
use Rattle.std.proofs.Common.{◌≡◌, ℕ, ◌+◌, ◌<◌, ◌≤◌, length, get_or, List, take, refl, sym, ap, ◌∙◌}
use Rattle.std.specs.Prelude.{Bool, true, false, ◌||◌, slice_index_or}
use Rattle.std.specs.List.{list_any}
use Rattle.std.proofs.lemmas.Bool.{or_right}
use Rattle.std.proofs.lemmas.List.{take_all}
use Rattle.std.proofs.lemmas.List.Folds.{list_any_more}
use Rattle.asked_granules.specs.AskedGranules.{AreReadShared, IsWith}

or_three : (x y z : Bool) → ((x || y) || z) ≡ (x || (y || z))
or_three true y z = refl
or_three false y z = refl

-- first what one looks at, then what another does
pub with_both : (first second third : List Bool) (one other : ℕ → Bool) → IsWith first one second →
    IsWith second other third → IsWith first (λ granule. one granule || other granule) third
with_both first second third one other left right = (
  right.0 ∙ left.0,
  λ granule.
      right.1 granule ∙ ap (λ (b : Bool). b || other granule) (left.1 granule)
      ∙ or_three (slice_index_or first granule true) (one granule) (other granule),
)

-- ---- the first nodes

module _ {X : Type 0} (reads : X → ℕ → Bool) where
  pub first_more : (shared some more : List Bool) (xs : List X) (number : ℕ) (default x : X) → number < length xs →
      x ≡ get_or xs number default → IsWith shared (λ granule. list_any (λ y. reads y granule) (take number xs)) some →
      IsWith some (reads x) more → IsWith shared (λ granule. list_any (λ y. reads y granule) (take (number + 1) xs)) more
  first_more shared some more xs number default x inside is so now =
      let both = with_both shared some more (λ granule. list_any (λ y. reads y granule) (take number xs)) (reads x) so now in (
        both.0,
        λ granule.
            both.1 granule
            ∙ ap (λ (y : X). slice_index_or shared granule true || (list_any (λ z. reads z granule) (take number xs) || reads y granule)) is
            ∙ ap (λ (b : Bool). slice_index_or shared granule true || b)
            (sym (list_any_more (λ y. reads y granule) xs number default inside)),
      )

  pub first_all : (shared some : List Bool) (xs : List X) (number : ℕ) → length xs ≤ number →
      IsWith shared (λ granule. list_any (λ x. reads x granule) (take number xs)) some →
      IsWith shared (λ granule. list_any (λ x. reads x granule) xs) some
  first_all shared some xs number past so = (
    so.0,
    λ granule.
        so.1 granule ∙ ap (λ (ys : List X). slice_index_or shared granule true || list_any (λ x. reads x granule) ys) (take_all number xs past),
  )

-- ---- what is looked at is shared

pub reads_shared : (shared all : List Bool) (reads : ℕ → Bool) → IsWith shared reads all → AreReadShared reads all
reads_shared shared all reads is granule looks = is.1 granule ∙ or_right (slice_index_or shared granule true) (reads granule) looks
