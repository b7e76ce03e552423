use Rattle.std.proofs.Common.{ℕ, ap, sym, ◌∙◌, not}
use Rattle.std.specs.Bool.{beq}
use Rattle.std.specs.Int.Bits.{bit_xor}
use Rattle.std.proofs.lemmas.Bool.{or_parts, not-true}
use Rattle.cheri_model.specs.steps.Hart.{register}
use Rattle.sample_tallies.proofs.KnownLemmas.{more_agree, all_agree}
use Rattle.sample_tallies.proofs.DifferenceLemmas.{none_or, none_xor, same_tags, halves_are}
use Rattle.sample_tallies.proofs.same.are_same_registers.Goals as goal

pub loop-number-preserved : goal.loop-number-preserved
loop-number-preserved c = λ uppers addrs tags.
    let a = c.args.a.now in
    let b = c.args.b.now in
    let upper = none_or c.loop-number.uppers (bit_xor c.high.result c.high-in-loop-number.result) uppers in
    let addr = none_or c.loop-number.addrs (bit_xor c.addr.result c.addr-in-loop-number.result) addrs in
    let tag = or_parts c.loop-number.tags (not (beq c.tag.result c.tag-in-loop-number.result)) tags in
    more_agree a b c.loop-number.number _ _ (c.loop-number.invariant upper.0 addr.0 tag.0)
    (c.register-one.ensures.value ∙ ap (λ (k : ℕ). register a k) c.new-reg.ensures)
    (c.register-other.ensures.value ∙ ap (λ (k : ℕ). register b k) c.new-reg.ensures)
    (halves_are c.register-one.result c.register-other.result c.register-one.ensures.lawful c.register-other.ensures.lawful
    (sym c.high.ensures.value ∙ none_xor c.high.result c.high-in-loop-number.result upper.1
    ∙ c.high-in-loop-number.ensures.value)
    (sym c.addr.ensures.bits ∙ none_xor c.addr.result c.addr-in-loop-number.result addr.1
    ∙ c.addr-in-loop-number.ensures.bits)
    (sym c.tag.ensures.value ∙ same_tags c.tag.result c.tag-in-loop-number.result tag.1
    ∙ c.tag-in-loop-number.ensures.value))

pub returns-then-addrs-eq0 : goal.returns-then-addrs-eq0
returns-then-addrs-eq0 c = λ none.
    all_agree c.args.a.now.regs c.args.b.now.regs c.loop-number.number c.pcc.ensures.formed.count
    c.pcc-2.ensures.formed.count c.loop-number-test.false
    (c.loop-number.invariant c.if-addrs-eq0.true.0 c.if-addrs-eq0.true.1 (not-true c.loop-number.tags none))
