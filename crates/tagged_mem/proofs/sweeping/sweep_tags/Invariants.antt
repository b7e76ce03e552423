-- the granules of the bytes so far were swept, and the tags that this cleared are counted
use Rattle.std.proofs.Common.{◌≡◌, ◌*◌, ◌/◌, length, min}
use Rattle.tagged_mem.specs.SweptTags.{cleared_between, IsSweptBetween}
use Rattle.tagged_mem.proofs.sweeping.sweep_tags.Given as goal

abbrev pub invariant-loop-index : goal.invariant-loop-index
invariant-loop-index l = record {
  swept : IsSweptBetween l.lo l.hi l.bytes l.initial.tags l.tags 0 (min (8 * l.index) (length l.bytes / 16));
  counted : l.cleared ≡ cleared_between l.lo l.hi l.bytes l.initial.tags 0 (min (8 * l.index) (length l.bytes / 16));
}
