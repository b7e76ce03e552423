-- the granules so far are stored, and memory keeps its size
use Rattle.std.proofs.Common.{◌≡◌, ◌*◌, length, take}
use Rattle.std.specs.Prelude.{fold}
use Rattle.cheri_model.specs.steps.Memory.{cleared_memory, store_capability}
use Rattle.cores.proofs.opening.opening_ram.Given as goal

abbrev pub invariant-loop-addr : goal.invariant-loop-addr
invariant-loop-addr l =
    (l.ram ≡ fold (λ memory entry. store_capability memory entry.0 entry.1) (cleared_memory l.image.ram) (take l.addr-index l.image.granules))
    × (16 * length l.ram ≡ l.image.ram)
