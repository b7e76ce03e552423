-- A text up to its first point.
use Rattle.std.proofs.Common.{◌≡◌, ℕ, ◌==◌, List, take, Some, None}
use Rattle.std.specs.Prelude.{position}
use Rattle.std.specs.List.{before_first}
use Rattle.grammar.proofs.LineLemmas.{before_first_some, before_first_none}

pub before_point_some : (text : List ℕ) (end : ℕ) → position (λ b. b == 0x2E) text ≡ Some end → before_first (λ b. b == 0x2E) text ≡ take end text
before_point_some text end e = before_first_some (λ b. b == 0x2E) text end e

pub before_point_none : (text : List ℕ) → position (λ b. b == 0x2E) text ≡ None → before_first (λ b. b == 0x2E) text ≡ text
before_point_none text e = before_first_none (λ b. b == 0x2E) text e
