-- The limits of a drawing's parts.
use Rattle.std.proofs.Common.{◌≡◌, ℕ, ◌≤◌, nat_le, true, ◌&&◌, length, Some, subst, sym, arith}
use Rattle.std.proofs.lemmas.Bool.{and_parts}
use Rattle.std.proofs.lemmas.Bool.Decides.{nat_tests}
use Rattle.std.specs.Prelude.{Option}
use Rattle.sample_draws.specs.declared.drawing.TheConstants.{MAX_SEED, MAX_LENGTH, MAX_DEPTH, MAX_SWEEPS}
use Rattle.sample_draws.specs.Drawings.{DrawingParts, is_drawing, is_depth, is_length, are_ranges}

pub record IsWithin (d : DrawingParts) : Type 0 where
  pub seed : d.seed ≤ MAX_SEED
  pub some : 1 ≤ d.length
  pub most : d.length ≤ MAX_LENGTH
  pub depth : is_depth d.depth ≡ true
  pub sweeps : length d.sweeps ≤ MAX_SWEEPS
  pub ranges : are_ranges d.sweeps ≡ true

le_of : (m n : ℕ) → nat_le m n ≡ true → m ≤ n
le_of m n is = grind (arith, nat_tests)

pub drawing_within : (d : DrawingParts) → is_drawing d ≡ true → IsWithin d
unfolding is_drawing
drawing_within d is =
    let a = nat_le d.seed MAX_SEED in
    let b = is_length d.length in
    let e = is_depth d.depth in
    let f = nat_le (length d.sweeps) MAX_SWEEPS in
    let one = and_parts (((a && b) && e) && f) (are_ranges d.sweeps) is in
    let two = and_parts ((a && b) && e) f one.0 in
    let three = and_parts (a && b) e two.0 in
    let four = and_parts a b three.0 in
    let lengths = and_parts (nat_le 1 d.length) (nat_le d.length MAX_LENGTH) four.1 in
    record {
      seed = le_of d.seed MAX_SEED four.0;
      some = le_of 1 d.length lengths.0;
      most = le_of d.length MAX_LENGTH lengths.1;
      depth = three.1;
      sweeps = le_of (length d.sweeps) MAX_SWEEPS two.1;
      ranges = one.1;
    }

pub seed_within : (d : DrawingParts) (seed : ℕ) → is_drawing d ≡ true → seed ≡ d.seed → seed ≤ MAX_SEED
seed_within d seed is same = let within = drawing_within d is in omega arith

some_depth : (depth : ℕ) → is_depth (Some depth) ≡ true → (1 ≤ depth) × (depth ≤ MAX_DEPTH)
some_depth depth is =
    let parts = and_parts (nat_le 1 depth) (nat_le depth MAX_DEPTH) is in
    (le_of 1 depth parts.0, le_of depth MAX_DEPTH parts.1)

pub depth_within : (d : DrawingParts) (depth : ℕ) → is_drawing d ≡ true → Some depth ≡ d.depth
    → (1 ≤ depth) × (depth ≤ MAX_DEPTH)
depth_within d depth is same =
    let P : Option ℕ → Type 0 = λ o. is_depth o ≡ true in
    some_depth depth (subst P (sym same) (drawing_within d is).depth)
