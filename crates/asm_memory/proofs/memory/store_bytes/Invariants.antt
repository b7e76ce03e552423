use Rattle.std.proofs.Common.{◌≡◌, ◌+◌, drop, length}
use Rattle.listings.specs.Draft.{stored_bytes}
use Rattle.asm_memory.proofs.memory.store_bytes.Given as goal

abbrev pub invariant-loop-offset : goal.invariant-loop-offset
invariant-loop-offset l =
    (length l.ram ≡ length l.initial.ram)
    × (stored_bytes l.ram (l.addr + l.offset) (drop l.offset l.bytes) ≡ stored_bytes l.initial.ram l.addr l.bytes)
