use Rattle.std.proofs.Common.{◌≡◌, ◌+◌, ◌∙◌, ap, length, arith}
use Rattle.listings.proofs.GranuleLemmas.{in_ram_from, in_ram_to, byte_fits, length_stored, stored_step, stored_end}
use Rattle.asm_memory.proofs.memory.store_bytes.Goals as goal

pub overflow_add-addr : goal.overflow_add-addr
overflow_add-addr c =
    let high = in_ram_to c.args.ram.now c.args.addr (length c.args.bytes.now) c.requires in
    omega (arith, high)

pub store-requires : goal.store-requires
store-requires c =
    let low = in_ram_from c.args.ram.now c.args.addr (length c.args.bytes.now) c.requires in
    let high = in_ram_to c.args.ram.now c.args.addr (length c.args.bytes.now) c.requires in
    let same : length c.loop-offset.ram ≡ length c.args.ram.now = c.loop-offset.invariant.0 in
    byte_fits c.loop-offset.ram (c.args.addr + c.loop-offset.offset) (omega (arith, low)) (omega (arith, high, same))

pub loop-offset-preserved : goal.loop-offset-preserved
loop-offset-preserved c = (
  ap length c.store.ensures ∙ length_stored c.loop-offset.ram _ _ _ ∙ c.loop-offset.invariant.0,
  stored_step c.loop-offset.ram _ _ c.args.addr c.loop-offset.offset c.from.result c.args.bytes.now c.loop-offset-test.true c.from.ensures
      c.store.ensures c.loop-offset.invariant.1,
)

pub returns : goal.returns
returns c = stored_end _ _ c.args.addr c.loop-offset.offset c.args.bytes.now c.loop-offset-test.false c.loop-offset.invariant.1
