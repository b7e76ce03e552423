use Rattle.std.proofs.Common.{◌≡◌, ◌+◌, ◌*◌, ◌/◌, ◌++◌, take, drop}
use Rattle.cheri_model.specs.steps.Memory.{ram_base}
use Rattle.listings.specs.Meaning.{listed_from}
use Rattle.asm_memory.proofs.memory.listed_granules.Given as goal

-- those so far, and then those from here on, are all
abbrev pub invariant-loop-number : goal.invariant-loop-number
invariant-loop-number l =
    l.granules.items ++ listed_from (ram_base + 16 * l.number) (drop l.number (take (l.size / 16) l.ram))
    ≡ listed_from ram_base (take (l.size / 16) l.ram)
