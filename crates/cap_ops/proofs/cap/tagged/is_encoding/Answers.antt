use Rattle.std.proofs.Common.{◌≡◌, ◌+◌, ◌*◌, ◌/◌, ◌%◌, ◌^◌, ◌<◌, ◌≤◌, arith, refl, sym, ◌∙◌}
use Rattle.std.proofs.lemmas.Grind.{common_steps}
use Rattle.cap_ops.proofs.RawLengths.{length_below}
use Rattle.cap_ops.proofs.Encodings.{halves_fail, halves_pass, field_widths, decided_at_most}
use Rattle.cap_ops.proofs.cap.tagged.is_encoding.Goals as goal

pub returns-then-parts-ne0 : goal.returns-then-parts-ne0
returns-then-parts-ne0 c =
    sym (halves_fail c.args.upper c.args.addr c.ranges.upper.fits c.ranges.addr.fits
    (λ says. let h = says.reserved in grind (arith, common_steps)))

pub returns-then-parts : goal.returns-then-parts
returns-then-parts c =
    sym (halves_fail c.args.upper c.args.addr c.ranges.upper.fits c.ranges.addr.fits
    (λ says. says.not_reserved (rw c.fields-parts.ensures.otype at c.if-parts.true)))

pub returns-then-parts-2 : goal.returns-then-parts-2
returns-then-parts-2 c =
    sym (halves_fail c.args.upper c.args.addr c.ranges.upper.fits c.ranges.addr.fits
    (λ says. says.not_reserved_either (rw c.fields-parts.ensures.otype at c.if-parts-2.true)))

pub returns-then-stored_exponent-gt-MAX_EXPONENT : goal.returns-then-stored_exponent-gt-MAX_EXPONENT
returns-then-stored_exponent-gt-MAX_EXPONENT c =
    sym (halves_fail c.args.upper c.args.addr c.ranges.upper.fits c.ranges.addr.fits
    (λ says. let h = says.bounds.exponent in omega arith))

pub overflow_shr-base : goal.overflow_shr-base
overflow_shr-base c = omega (arith, field_widths)

pub returns-then-base-parts : goal.returns-then-base-parts
returns-then-base-parts c =
    sym (halves_fail c.args.upper c.args.addr c.ranges.upper.fits c.ranges.addr.fits
    (λ says.
    c.if-base-parts.true
    (rw (c.decode_base-base.ensures, c.fields-parts.ensures.e, c.base_digits.ensures.value) says.bounds.digits)))

pub overflow_shl-len : goal.overflow_shl-len
overflow_shl-len c = omega (arith, field_widths)

pub overflow_add-result : goal.overflow_add-result
overflow_add-result c =
    let fits : c.from.result * 2 ^ c.fields-parts.result.e < 2 ^ 65 =
    rw c.from.ensures (length_below c.length_steps.result c.fields-parts.result.e c.length_steps.ensures.below (omega (arith, field_widths))) in
    omega arith

pub returns : goal.returns
returns c =
    let len : c.from.result * 2 ^ c.fields-parts.result.e ≡ c.length_steps.result * 2 ^ c.fields-parts.result.e = rw c.from.ensures refl in
    let fits = length_below c.length_steps.result c.fields-parts.result.e c.length_steps.ensures.below (omega (arith, field_widths)) in
    decided_at_most _ _ _
    (λ (within : c.from-2.result + c.from.result * 2 ^ c.fields-parts.result.e % 2 ^ 128 ≤ 2 ^ 64).
    halves_pass c.args.upper c.args.addr c.ranges.upper.fits c.ranges.addr.fits
    (record {
      reserved = sym c.fields-parts.ensures.reserved ∙ c.if-parts-ne0.false;
      not_reserved = rw c.fields-parts.ensures.otype at c.if-parts.false;
      not_reserved_either = rw c.fields-parts.ensures.otype at c.if-parts-2.false;
      bounds = record {
        exponent = omega arith;
        digits = rw (c.decode_base-base.ensures, c.fields-parts.ensures.e, c.base_digits.ensures.value) at c.if-base-parts.false;
        room = rw (← c.decode_base-base.ensures, ← c.fields-parts.ensures.e, ← c.length_steps.ensures.value) (omega arith);
      };
    }))
    (λ beyond.
    halves_fail c.args.upper c.args.addr c.ranges.upper.fits c.ranges.addr.fits
    (λ says.
    let room = rw (← c.decode_base-base.ensures, ← c.fields-parts.ensures.e, ← c.length_steps.ensures.value) at says.bounds.room in
    omega arith))
