-- What is before the bracket of a memory operand.
use Rattle.std.proofs.Common.{◌≡◌, ℕ, ◌≤◌, ◌==◌, false, nat_lt, List, length, take, Some, None, ap, position, arith}
use Rattle.std.specs.List.{position_or_len}
use Rattle.std.proofs.lemmas.Bool.Decides.{nat_tests}
use Rattle.std.proofs.lemmas.List.{take_all}
use Rattle.grammar.specs.Operands.{before_bracket}
use Rattle.grammar.proofs.LineLemmas.{found_at, not_found}

module _ (token : List ℕ) where
  pub at_bracket : (at : ℕ) → position (λ b. b == 0x28) token ≡ Some at → before_bracket token ≡ take at token
  at_bracket at e = ap (λ n. take n token) (found_at _ _ at e)

  pub without_bracket : position (λ b. b == 0x28) token ≡ None → before_bracket token ≡ token
  without_bracket e =
      let p = position_or_len (λ b. b == 0x28) token in
      let f : nat_lt p (length token) ≡ false = not_found _ p e in
      let long : length token ≤ p = grind (arith, nat_tests) in
      take_all p token long
