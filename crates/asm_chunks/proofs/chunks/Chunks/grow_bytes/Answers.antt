use Rattle.std.proofs.Common.{◌≡◌, ℕ, ◌*◌, subst, arith}
use Rattle.asm_chunks.specs.Chunks.{Fills, chunks_parts}
use Rattle.asm_chunks.specs.Growth.{grown}
use Rattle.asm_chunks.proofs.chunks.Chunks.grow_bytes.Goals as goal

pub returns : goal.returns
returns c =
    let one : 1 * c.args.count ≡ c.args.count = omega arith in
    subst (λ (n : ℕ). Fills c.grow.result (chunks_parts c.grow.new.self) (grown (chunks_parts c.args.self.now) n)) one c.grow.ensures
