-- Symbols that stand for others, one after the other.
use Rattle.std.proofs.Common.{◌≡◌, ℕ, zero, suc, ◌-◌, ◌<◌, ◌≤◌, List, Option, Some, None, Ok, Err, refl, sym, ap, ◌∙◌, arith}
use Rattle.std.specs.Prelude.{Result}
use Rattle.asm_tokens.specs.declared.fault.AsmFaultKind.{AsmFaultKind}
use Rattle.asm_tokens.specs.declared.fault.AsmFaultKind.TheVariants.{Expression}
use Rattle.asm_files.specs.Programs.{ProgramParts}
use Rattle.asm_tables.specs.Names.{alias_of, goes_on, behind}

module _ (program : ProgramParts) (seen : List ℕ → Option ℕ) (left symbol : ℕ) (whole : Result ℕ AsmFaultKind)
    (so_far : behind program seen left symbol ≡ whole) where
  behind_at : (more : ℕ) → left ≡ suc more → goes_on symbol (alias_of program seen symbol) (behind program seen more) ≡ whole
  unfolding behind
  behind_at more is = rw is at so_far

  behind_here : 0 < left → goes_on symbol (alias_of program seen symbol) (behind program seen (left - 1)) ≡ whole
  behind_here some = let is : left ≡ suc (left - 1) = omega arith in behind_at (left - 1) is

  pub behind_refused : 0 < left → (kind : AsmFaultKind) → alias_of program seen symbol ≡ Err kind → whole ≡ Err kind
  behind_refused some kind is = sym (rw is at (behind_here some))

  pub behind_place : 0 < left → alias_of program seen symbol ≡ Ok None → whole ≡ Ok symbol
  behind_place some is = sym (rw is at (behind_here some))

  pub behind_next : 0 < left → (next : ℕ) → alias_of program seen symbol ≡ Ok (Some next) → behind program seen (left - 1) next ≡ whole
  behind_next some next is = rw is at (behind_here some)

  pub behind_last : left ≡ 0 → whole ≡ Err Expression
  unfolding behind
  behind_last none = sym (rw none at so_far)
