use Rattle.std.proofs.Common.{◌≡◌, ◌+◌, ◌-◌}
use Rattle.tagged_mem.specs.Packed.{with_number}
use Rattle.tagged_mem.proofs.packed.put_bytes.Given as goal

-- what is left to write makes of the bytes what was asked for at first
abbrev pub invariant-loop-k : goal.invariant-loop-k
invariant-loop-k l =
    with_number l.bytes (l.index + l.k) (l.count - l.k) l.rest ≡ with_number l.initial.bytes l.index l.count l.number
