use Rattle.std.proofs.Common.{◌≡◌, ◌<◌, length, true, false, refl, sym, ap, ◌∙◌, rules, arith}
use Rattle.cheri_model.specs.steps.HartStep.{Stepped}
use Rattle.sample_steps.proofs.StoreLemmas.{unchanged, changed, undone, not_changed}
use Rattle.sample_steps.proofs.writes.step_hart.Goals as goal

pub returns-then-same_value-clause-changed : goal.returns-then-same_value-clause-changed
returns-then-same_value-clause-changed c =
    let m = c.args.ram.now in
    let one = c.in-Some.ensures.one m (sym c.granule_count.ensures.count) in
    let h : c.in-Some.granule < length m = omega (arith, c.in-Some.ensures.within, c.granule_count.ensures.count) in
    let same : c.same_value.result ≡ true = search rules in
    not_changed m c.step-outcome-in-Some.new.ram
    (unchanged m c.step-outcome-in-Some.new.ram c.in-Some.granule one.0 c.granule-value.result c.granule.result h
    (sym (ap (λ (s : Stepped). s.memory) c.step-outcome-in-Some.ensures.value) ∙ one.1)
    c.granule-value.ensures.value c.granule.ensures.value c.granule-value.ensures.lawful c.granule.ensures.lawful
    (sym c.same_value.ensures ∙ same))

pub returns-then-same_value-clause-same : goal.returns-then-same_value-clause-same
returns-then-same_value-clause-same c = λ none.
    let m = c.args.ram.now in
    let one = c.in-Some.ensures.one m (sym c.granule_count.ensures.count) in
    let h : c.in-Some.granule < length m = omega (arith, c.in-Some.ensures.within, c.granule_count.ensures.count) in
    let same : c.same_value.result ≡ true = search rules in
    unchanged m c.step-outcome-in-Some.new.ram c.in-Some.granule one.0 c.granule-value.result c.granule.result h
    (sym (ap (λ (s : Stepped). s.memory) c.step-outcome-in-Some.ensures.value) ∙ one.1)
    c.granule-value.ensures.value c.granule.ensures.value c.granule-value.ensures.lawful c.granule.ensures.lawful
    (sym c.same_value.ensures ∙ same)

pub returns-in-None-clause-changed : goal.returns-in-None-clause-changed
returns-in-None-clause-changed c =
    let m = c.args.ram.now in
    not_changed m c.step-outcome.new.ram
    (sym (ap (λ (s : Stepped). s.memory) c.step-outcome.ensures.value)
    ∙ c.in-None.ensures.stays m (sym c.granule_count.ensures.count) refl)

pub returns-else-same_value-clause-changed : goal.returns-else-same_value-clause-changed
returns-else-same_value-clause-changed c =
    let m = c.args.ram.now in
    let one = c.in-Some.ensures.one m (sym c.granule_count.ensures.count) in
    let h : c.in-Some.granule < length m = omega (arith, c.in-Some.ensures.within, c.granule_count.ensures.count) in
    let apart : c.same_value.result ≡ false = search rules in
    changed m c.step-outcome-in-Some.new.ram c.in-Some.granule one.0 c.granule-value.result c.granule.result h
    (sym (ap (λ (s : Stepped). s.memory) c.step-outcome-in-Some.ensures.value) ∙ one.1)
    c.granule-value.ensures.value c.granule.ensures.value (sym c.same_value.ensures ∙ apart)

pub returns-else-same_value-clause-back : goal.returns-else-same_value-clause-back
returns-else-same_value-clause-back c =
    let m = c.args.ram.now in
    let one = c.in-Some.ensures.one m (sym c.granule_count.ensures.count) in
    undone m c.step-outcome-in-Some.new.ram c.in-Some.granule one.0 c.granule-value.result
    (sym (ap (λ (s : Stepped). s.memory) c.step-outcome-in-Some.ensures.value) ∙ one.1)
    c.granule-value.ensures.value
