use Rattle.std.proofs.Common.{◌≡◌, ◌∙◌, ap, get_or, map, length, None, refl, arith}
use Rattle.asm_symbols.specs.Definitions.{definition_parts}
use Rattle.asm_places.specs.Places.{places_parts}
use Rattle.asm_labels.specs.Labels.{first_label}
use Rattle.asm_labels.specs.Before.{last_label}
use Rattle.asm_labels.proofs.BeforeLemmas.{longer, next_label, all_labels}
use Rattle.asm_labels.proofs.before.labels_before.Goals as goal

pub loop-number-init : goal.loop-number-init
unfolding last_label
loop-number-init c = (ap length c.new-labels.ensures.items, refl, λ n h. absurd (omega arith))

pub loop-number-preserved : goal.loop-number-preserved
loop-number-preserved c =
    let places = places_parts c.args.places in
    let symbols = map definition_parts c.args.symbols.now in
    let first_is : c.first_at.result ≡ first_label places c.loop-number.number 0 symbols =
    c.first_at.ensures ∙ ap (λ xs. get_or xs c.loop-number.number None) c.deref.ensures.value
    ∙ c.in_ok-firsts.ensures.labels c.loop-number.number c.loop-number-test.true in (
      longer places symbols c.loop-number.labels.items c.push.new.self.items c.args.count c.loop-number.number _ _ _ c.loop-number.invariant.0 first_is
          c.loop-number.invariant.1 c.or_before-before.ensures c.in_ok-push.ensures.items,
      next_label places symbols c.loop-number.labels.items c.push.new.self.items c.args.count c.loop-number.number _ _ _ c.loop-number.invariant.0 first_is
          c.loop-number.invariant.1 c.or_before-before.ensures c.in_ok-push.ensures.items,
      all_labels places symbols c.loop-number.labels.items c.push.new.self.items c.args.count c.loop-number.number _ _ _ c.loop-number.invariant.0 first_is
          c.loop-number.invariant.1 c.or_before-before.ensures c.in_ok-push.ensures.items c.loop-number.invariant.2,
    )
