-- Statements and files from the last to the first.
use Rattle.std.proofs.Common.{◌≡◌, ℕ, zero, suc, ◌-◌, ◌<◌, Bool, true, false, ◌||◌, List, Option, refl, sym, arith}
use Rattle.asm_values.specs.declared.values.Value.{Value}
use Rattle.asm_files.specs.Programs.{ProgramParts}
use Rattle.asm_tables.specs.Tables.{count_in}
use Rattle.asm_chains.specs.Scenes.{SceneParts}
use Rattle.asm_late.specs.Reach.{leaves_code, file_leaves, some_leaves}

module _ (program : ProgramParts) (scene : SceneParts) (values : List (Option Value)) where
  file_step : (file left : ℕ) (whole : Bool) → 0 < left → file_leaves program scene values file left ≡ whole
      → (leaves_code program scene values file (left - 1) || file_leaves program scene values file (left - 1)) ≡ whole
  unfolding file_leaves
  file_step file zero whole some so_far = absurd (omega arith)
  file_step file (suc n) whole some so_far =
      let same : suc n - 1 ≡ n = omega arith in rw same so_far

  pub file_on : (file left : ℕ) (whole here : Bool) → 0 < left → file_leaves program scene values file left ≡ whole → here ≡ leaves_code program scene values file (left - 1)
      → here ≡ false → file_leaves program scene values file (left - 1) ≡ whole
  file_on file left whole here some so_far is off = rw (← is, off) at (file_step file left whole some so_far)

  pub file_found : (file left : ℕ) (whole here : Bool) → 0 < left → file_leaves program scene values file left ≡ whole → here ≡ leaves_code program scene values file (left - 1)
      → here ≡ true → true ≡ whole
  file_found file left whole here some so_far is on = rw (← is, on) at (file_step file left whole some so_far)

  pub file_none : (file left : ℕ) (whole : Bool) → left ≡ 0 → file_leaves program scene values file left ≡ whole → false ≡ whole
  unfolding file_leaves
  file_none file left whole none so_far = rw none at so_far

  some_step : (left : ℕ) (whole : Bool) → 0 < left → some_leaves program scene values left ≡ whole
      → (file_leaves program scene values (left - 1) (count_in program (left - 1)) || some_leaves program scene values (left - 1)) ≡ whole
  unfolding some_leaves
  some_step zero whole some so_far = absurd (omega arith)
  some_step (suc n) whole some so_far =
      let same : suc n - 1 ≡ n = omega arith in rw same so_far

  pub some_on : (left count : ℕ) (whole here : Bool) → 0 < left → some_leaves program scene values left ≡ whole → count ≡ count_in program (left - 1)
      → here ≡ file_leaves program scene values (left - 1) count → here ≡ false → some_leaves program scene values (left - 1) ≡ whole
  some_on left count whole here some so_far count_is is off = rw (← count_is, ← is, off) at (some_step left whole some so_far)

  pub some_found : (left count : ℕ) (whole here : Bool) → 0 < left → some_leaves program scene values left ≡ whole → count ≡ count_in program (left - 1)
      → here ≡ file_leaves program scene values (left - 1) count → here ≡ true → true ≡ whole
  some_found left count whole here some so_far count_is is on = rw (← count_is, ← is, on) at (some_step left whole some so_far)

  pub some_none : (left : ℕ) (whole : Bool) → left ≡ 0 → some_leaves program scene values left ≡ whole → false ≡ whole
  unfolding some_leaves
  some_none left whole none so_far = rw none at so_far
