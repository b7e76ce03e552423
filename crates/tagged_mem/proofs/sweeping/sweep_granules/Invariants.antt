-- the granules so far were swept, and the tags that this cleared are counted
use Rattle.tagged_mem.specs.SweptTags.{cleared_between, IsSweptBetween}
use Rattle.std.proofs.Common.{◌≡◌}
use Rattle.tagged_mem.proofs.sweeping.sweep_granules.Given as goal

abbrev pub invariant-loop-granule : goal.invariant-loop-granule
invariant-loop-granule l = record {
  swept : IsSweptBetween l.lo l.hi l.bytes l.initial.tags l.tags l.from l.granule;
  counted : l.cleared ≡ cleared_between l.lo l.hi l.bytes l.initial.tags l.from l.granule;
}
