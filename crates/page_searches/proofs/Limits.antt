-- What the limits of the numbers say that draw orders.
use Rattle.std.proofs.Common.{◌≡◌, ℕ, ◌≤◌, arith}
use Rattle.std.proofs.Math.Bool.{and-false}
use Rattle.std.proofs.lemmas.Bool.Decides.{nat_tests}
use Rattle.std.specs.Prelude.{◌==◌, nat_le, false, true}
use Rattle.sample_draws.specs.Drawings.{is_depth, is_drawing}
use Rattle.sample_draws.specs.declared.drawing.TheConstants.{MAX_DEPTH}
use Rattle.page_searches.specs.Drawn.{depth_of, is_drawn}
use Rattle.page_searches.specs.declared.drawn.Drawn.{Drawn}
use Rattle.page_searches.specs.declared.drawn.TheConstants.{MOST_RUNS}

no_depth : (depth : ℕ) → 256 ≤ depth → is_depth (depth_of depth) ≡ false
no_depth depth past =
    let some : (depth == 0) ≡ false = grind (arith, nat_tests) in
    let deep : nat_le depth MAX_DEPTH ≡ false = grind (arith, nat_tests) in
    grind (arith, some, deep)

pub too_deep : (drawn : Drawn) → 256 ≤ drawn.depth → is_drawn drawn ≡ false
unfolding is_drawn is_drawing
too_deep drawn past = rw (no_depth drawn.depth past) (simp and-false)

pub some_runs : (drawn : Drawn) → is_drawn drawn ≡ true → 1 ≤ drawn.runs
unfolding is_drawn
some_runs drawn is = grind (arith, nat_tests)

pub few_runs : (drawn : Drawn) → is_drawn drawn ≡ true → drawn.runs ≤ MOST_RUNS
unfolding is_drawn
few_runs drawn is = grind (arith, nat_tests)

pub ruleset limits = (too_deep, some_runs, few_runs)
