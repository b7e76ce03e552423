use Rattle.std.proofs.Common.{ℕ, ◌/◌, ◌%◌, refl}
use Rattle.cheri_vectors.proofs.HexDigits.{hex_parts}
use Rattle.cheri_vectors.proofs.hex.TopDisplay.fmt.Goals as goal

pub returns-else-self-clause-writes : goal.returns-else-self-clause-writes
returns-else-self-clause-writes g c =
    λ plain ok.
    let n : ℕ = c.args.self.now.number in
    rw (hex_parts n (n / 16) (n % 16) c.if-self.false c.args.self.now.below refl refl) (c.fmt.ensures.writes plain ok)
