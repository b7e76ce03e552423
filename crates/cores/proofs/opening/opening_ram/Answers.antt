-- Each granule of an image fits the memory, which keeps its size.
use Rattle.std.proofs.Common.{◌≡◌, take, sym, ap, ◌∙◌}
use Rattle.std.specs.Prelude.{fold, All, false}
use Rattle.std.proofs.lemmas.Bool.{false≢true}
use Rattle.std.proofs.lemmas.List.Sums.{fold_more}
use Rattle.cheri_model.specs.steps.Memory.{store_capability, cleared_memory, is_ram_size}
use Rattle.cheri_model.proofs.Granules.ImageGranules.{IsPlaced, image_placed, placed_fits}
use Rattle.hart.proofs.OpenedHarts.{at_item, length-store_capability, image_ram_size}
use Rattle.cores.proofs.opening.opening_ram.Goals as goal

pub store_cap-requires : goal.store_cap-requires
store_cap-requires c =
    let image = c.args.image.now in
    let each : All (IsPlaced image.ram) c.granules-granules.result.now = rw c.granules-granules.ensures.value (image_placed image c.granules-granules.ensures.formed) in
    let placed = at_item (IsPlaced image.ram) c.granules-granules.result.now c.loop-addr.addr-index c.loop-addr-item.result c.loop-addr-test.true c.loop-addr-item.is each in
    placed_fits image.ram c.loop-addr.ram c.loop-addr-item.result c.loop-addr.invariant.1 placed

pub loop-addr-preserved : goal.loop-addr-preserved
loop-addr-preserved c =
    let image = c.args.image.now in
    let item = c.loop-addr-item.result in
    let inside = rw c.granules-granules.ensures.value at c.loop-addr-test.true in
    let read = rw c.granules-granules.ensures.value at c.loop-addr-item.is in
    let stored : c.store_cap.new.self ≡ store_capability c.loop-addr.ram item.0 item.1 =
    c.store_cap.ensures ∙ ap (store_capability c.loop-addr.ram item.0) c.of_value.ensures in (
      stored
          ∙ ap (λ memory. store_capability memory item.0 item.1) c.loop-addr.invariant.0
          ∙ ap (λ entry. store_capability (fold (λ memory entry. store_capability memory entry.0 entry.1) (cleared_memory image.ram) (take c.loop-addr.addr-index image.granules)) entry.0 entry.1) read
          ∙ sym (fold_more (λ memory entry. store_capability memory entry.0 entry.1) (cleared_memory image.ram) image.granules c.loop-addr.addr-index item inside),
      rw (stored, length-store_capability c.loop-addr.ram item.0 item.1) c.loop-addr.invariant.1,
    )

pub unreachable-requires : goal.unreachable-requires
unreachable-requires c =
    let lawful = image_ram_size c.args.image.now c.granules-granules.ensures.formed in
    let size = rw c.in-Err-Size.field-0-is at c.in-Err-Size.is in
    let unlawful : is_ram_size c.args.image.now.ram ≡ false = rw c.ram.ensures at (c.new.ensures.size.0 size) in
    false≢true (sym unlawful ∙ lawful)
