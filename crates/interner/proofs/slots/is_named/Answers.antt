use Rattle.std.proofs.Common.{◌≡◌, ℕ, ◌+◌, ◌-◌, ◌<◌, ◌^◌, List, arith, ap, sym, ◌∙◌}
use Rattle.interner.specs.Hashes.{tag_of}
use Rattle.interner.specs.Rows.{row_at}
use Rattle.interner.specs.Slots.{slot_of, link_in, tag_in, tag_at}
use Rattle.interner.proofs.SlotLemmas.{link_slot, tag_slot}
use Rattle.interner.proofs.slots.is_named.Goals as goal

linked : (width : ℕ) (numbers : List ℕ) (slot i : ℕ) → i + 1 < 2 ^ 32 → slot ≡ slot_of (tag_at width numbers i) i →
    link_in slot ≡ i + 1
linked width numbers slot i few is = ap link_in is ∙ link_slot (tag_at width numbers i) i few

tagged : (width : ℕ) (numbers row : List ℕ) (slot i : ℕ) → i + 1 < 2 ^ 32 → slot ≡ slot_of (tag_at width numbers i) i →
    row_at width numbers (link_in slot - 1) ≡ row → tag_in slot ≡ tag_of row
tagged width numbers row slot i few is same =
    let link = linked width numbers slot i few is in
    let e : link_in slot - 1 ≡ i = omega arith in
    ap tag_in is ∙ tag_slot (tag_at width numbers i) i few
    ∙ ap tag_of (ap (row_at width numbers) (sym e) ∙ same)

pub returns-then-tag_in-tag-clause-other : goal.returns-then-tag_in-tag-clause-other
returns-then-tag_in-tag-clause-other c _ same =
    let n = c.requires.named in
    c.if-tag_in-tag.true (c.tag_in.ensures
    ∙ tagged c.args.width c.args.numbers.now c.args.row.now c.args.slot n.0 n.2 n.3 same ∙ sym c.requires.tag)

pub number_in-requires : goal.number_in-requires
number_in-requires c =
    let n = c.requires.named in
    let link = linked c.args.width c.args.numbers.now c.args.slot n.0 n.2 n.3 in
    omega arith

pub row_at-requires : goal.row_at-requires
row_at-requires c =
    let n = c.requires.named in
    let link = linked c.args.width c.args.numbers.now c.args.slot n.0 n.2 n.3 in
    let number = c.number_in.ensures in
    let e : c.number_in.result + 1 ≡ n.0 + 1 = omega arith in
    rw e n.1
