-- How the code computes sets of harts.
use Rattle.std.proofs.Common.{◌≡◌, ◌<◌, ◌≤◌, ℕ, length, List, refl, ◌∙◌}
use Rattle.std.specs.Prelude.{Bool, ◌||◌}
use Rattle.named_harts.specs.NamedHarts.{has, IsSetOf}

-- what a set has after the harts below a number of another were added
pub record IsUnion (one other all : List Bool) (number : ℕ) : Type 0 where
  pub size : length all ≡ 8
  pub below : (hart : ℕ) → hart < number → has all hart ≡ (has one hart || has other hart)
  pub above : (hart : ℕ) → number ≤ hart → has all hart ≡ has one hart

-- what two sets are of, both are of
pub both_are : (one other all : List Bool) (names more : ℕ → Bool) → IsSetOf names one → IsSetOf more other →
    IsSetOf (λ hart. has one hart || has other hart) all → IsSetOf (λ hart. names hart || more hart) all
both_are one other all names more left right is hart inside =
    is hart inside ∙ rw (left hart inside, right hart inside) refl
