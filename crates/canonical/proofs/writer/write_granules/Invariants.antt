-- The lines so far, followed by those of the other items, are those of all.
use Rattle.std.proofs.Common.{◌≡◌, ◌++◌, drop, string_bytes}
use Rattle.canonical.specs.Canon.{each, granule_line}
use Rattle.canonical.proofs.writer.write_granules.Given as goal

abbrev pub invariant-loop-addr : goal.invariant-loop-addr
invariant-loop-addr l =
    string_bytes l.out ++ each granule_line (drop l.addr-index l.granules) ≡ string_bytes l.initial.out ++ each granule_line l.granules
