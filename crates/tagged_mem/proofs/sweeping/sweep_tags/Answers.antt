use Rattle.std.proofs.Common.{◌≡◌, ◌+◌, ◌*◌, ◌/◌, ◌<◌, min, length, arith, sym}
use Rattle.tagged_mem.proofs.PackedRam.{most_bytes, whole_granules}
use Rattle.tagged_mem.proofs.SweptRam.{none_swept, packed_swept, cleared_none, cleared_most, byte_swept, byte_cleared}
use Rattle.tagged_mem.proofs.sweeping.sweep_tags.Goals as goal

pub loop-index-init : goal.loop-index-init
loop-index-init c =
    let none : min 0 (length c.args.bytes.now / 16) ≡ 0 = omega arith in
    rw none (record { swept = none_swept _ _ _ _ _; counted = sym (cleared_none _ _ _ _ _) })

pub sweep_byte-cleared-requires-clause-packed : goal.sweep_byte-cleared-requires-clause-packed
sweep_byte-cleared-requires-clause-packed c = packed_swept _ _ _ _ _ _ _ c.requires.packed c.loop-index.invariant.swept

pub sweep_byte-cleared-requires-clause-inside : goal.sweep_byte-cleared-requires-clause-inside
sweep_byte-cleared-requires-clause-inside c = omega (arith, whole_granules (length c.args.bytes.now) c.requires.packed.size, c.div_ceil-index-end.ensures)

pub overflow_add-cleared : goal.overflow_add-cleared
overflow_add-cleared c =
    let a = c.args in
    let size = c.requires.packed.size in
    let inside : 8 * c.loop-index.index < length a.bytes.now / 16 = omega (arith, whole_granules (length a.bytes.now) size, c.div_ceil-index-end.ensures) in
    let counted = c.loop-index.invariant.counted in
    let more = byte_cleared a.lo a.hi a.bytes.now a.tags.now c.loop-index.tags c.sweep_byte-cleared.new.tags c.loop-index.index _ inside c.loop-index.invariant.swept in
    let most = cleared_most a.lo a.hi a.bytes.now a.tags.now 0 (min (8 * (c.loop-index.index + 1)) (length a.bytes.now / 16)) in
    omega (arith, more, most, most_bytes (length a.bytes.now) size, counted, c.sweep_byte-cleared.ensures.cleared)

pub loop-index-preserved : goal.loop-index-preserved
loop-index-preserved c =
    let a = c.args in
    let inside : 8 * c.loop-index.index < length a.bytes.now / 16 =
    omega (arith, whole_granules (length a.bytes.now) c.requires.packed.size, c.div_ceil-index-end.ensures) in
    let before = c.loop-index.invariant in
    let more = byte_cleared a.lo a.hi a.bytes.now a.tags.now c.loop-index.tags c.sweep_byte-cleared.new.tags c.loop-index.index _ inside before.swept in
    record {
      swept = byte_swept _ _ _ _ _ _ _ _ inside before.swept c.sweep_byte-cleared.ensures.swept;
      counted = omega (arith, more, before.counted, c.sweep_byte-cleared.ensures.cleared);
    }
