-- A plain line is ASCII, and so is what is left of it.
use Rattle.std.proofs.Common.{◌≡◌, ℕ, zero, suc, ◌<◌, List, [], ◌∷◌, arith}
use Rattle.std.specs.Prelude.{true, slice_index}
use Rattle.std.specs.List.{list_all}
use Rattle.std.specs.Str.{IsAscii}
use Rattle.std.proofs.lemmas.Bool.Decides.{nat_tests}
use Rattle.std.proofs.lemmas.Bool.{and_parts}
use Rattle.grammar.specs.Lines.{is_plain}

low : (b : ℕ) → is_plain b ≡ true → b < 128
low b is = grind (arith, nat_tests)

pub plain_at : (line : List ℕ) → list_all is_plain line ≡ true → (i : ℕ) → slice_index line i < 128
plain_at [] is i = omega arith
plain_at (b ∷ line) is zero = low b (and_parts (is_plain b) (list_all is_plain line) is).0
plain_at (b ∷ line) is (suc i) = plain_at line (and_parts (is_plain b) (list_all is_plain line) is).1 i

pub plain_ascii : (line : List ℕ) → list_all is_plain line ≡ true → IsAscii line
plain_ascii line is = λ i. plain_at line is i
