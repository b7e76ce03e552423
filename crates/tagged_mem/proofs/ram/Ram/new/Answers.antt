use Rattle.std.proofs.Common.{◌≡◌, ◌+◌, ◌/◌, rules, arith}
use Rattle.tagged_mem.proofs.ClearedMemory.{zeros, cleared_is, cleared_packed}
use Rattle.tagged_mem.proofs.ram.Ram.new.Goals as goal

pub invariant_of-result : goal.invariant_of-result
invariant_of-result c =
    let bytes : c.in_ok-bytes.bytes.items ≡ zeros c.args.bytes = search rules in
    let tags : c.in_ok-tags.tags.items ≡ zeros (c.args.bytes / 128 + 1) = search rules in
    rw (bytes, tags) (cleared_packed c.args.bytes (c.args.bytes / 128 + 1) (search rules) (search rules) (search rules) (omega arith))

pub returns-clause-cleared : goal.returns-clause-cleared
returns-clause-cleared c =
    let bytes : c.in_ok-bytes.bytes.items ≡ zeros c.args.bytes = search rules in
    let tags : c.in_ok-tags.tags.items ≡ zeros (c.args.bytes / 128 + 1) = search rules in
    rw (bytes, tags) (cleared_is c.args.bytes (c.args.bytes / 128 + 1))
