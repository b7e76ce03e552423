use Rattle.std.proofs.Common.{◌+◌, length, arith, sym}
use Rattle.tagged_mem.proofs.PackedRam.{most_bytes}
use Rattle.tagged_mem.proofs.SweptRam.{none_swept, packed_swept, joined, cleared_none, cleared_most, granule_more}
use Rattle.tagged_mem.proofs.sweeping.sweep_granules.Goals as goal

pub loop-granule-init : goal.loop-granule-init
loop-granule-init c = record { swept = none_swept _ _ _ _ _; counted = sym (cleared_none _ _ _ _ _) }

pub sweep_granule-cleared-requires-clause-packed : goal.sweep_granule-cleared-requires-clause-packed
sweep_granule-cleared-requires-clause-packed c = packed_swept _ _ _ _ _ _ _ c.requires.packed c.loop-granule.invariant.swept

pub overflow_add-cleared : goal.overflow_add-cleared
overflow_add-cleared c =
    let a = c.args in
    let more = granule_more a.lo a.hi a.bytes.now a.tags.now c.loop-granule.tags a.from c.loop-granule.granule c.loop-granule.auto.granule c.loop-granule.invariant.swept in
    let most = cleared_most a.lo a.hi a.bytes.now a.tags.now a.from (c.loop-granule.granule + 1) in
    omega (arith, more, most, most_bytes (length a.bytes.now) c.requires.packed.size, c.sweep_granule-cleared.ensures.cleared, c.loop-granule.invariant.counted)

pub loop-granule-preserved : goal.loop-granule-preserved
loop-granule-preserved c =
    let a = c.args in
    let before = c.loop-granule.invariant in
    let more = granule_more a.lo a.hi a.bytes.now a.tags.now c.loop-granule.tags a.from c.loop-granule.granule c.loop-granule.auto.granule before.swept in
    record {
      swept = joined _ _ _ _ _ _ _ _ _ c.loop-granule.auto.granule (omega arith) before.swept c.sweep_granule-cleared.ensures.swept;
      counted = omega (arith, more, before.counted, c.sweep_granule-cleared.ensures.cleared);
    }
