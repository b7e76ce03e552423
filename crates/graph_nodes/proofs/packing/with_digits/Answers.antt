use Rattle.std.proofs.Common.{◌≡◌, ℕ, ◌+◌, ◌-◌, ◌*◌, ◌^◌, ◌<◌, ◌≤◌, length, drop, Some, arith, rules, ap, sym, ◌∙◌, inl, inr}
use Rattle.std.proofs.lemmas.Bool.{cases_lt}
use Rattle.graph_nodes.proofs.PackingLemmas.{all_wrapped, wrapped_from, wrapped_end, one_too_large, no_room, all_fit}
use Rattle.graph_nodes.proofs.packing.with_digits.Goals as goal

pub loop-digit-preserved : goal.loop-digit-preserved
loop-digit-preserved c =
    let at = c.loop-digit.digit-index in
    let digits = c.args.digits.now in
    let was = c.loop-digit.invariant in
    let most = c.max-largest.ensures in
    record {
      word = ap (λ (w : ℕ). all_wrapped c.args.bits w (drop (at + 1) digits)) c.with_digit-word.ensures
          ∙ sym (wrapped_from c.args.bits c.loop-digit.word digits at c.loop-digit-test.true)
          ∙ was.word;
      above = λ k below. elim (cases_lt k at) [
        | inl early ↦ omega (arith, was.above k early, most)
        | inr late ↦ let e : k ≡ at = omega arith in rw e (omega (arith, most))
      ];
      there = λ large. elim (cases_lt c.loop-digit.largest (2 ^ c.args.bits)) [
        | inl low ↦ (at, c.loop-digit-test.true, omega (arith, most))
        | inr high ↦ was.there high
      ];
    }

pub returns-then-from-base : goal.returns-then-from-base
returns-then-from-base c =
    let base = c.base_of-base.ensures in
    let most = c.from.ensures in
    let over = c.if-from-base.true in
    let large : 2 ^ c.args.bits ≤ c.loop-digit.largest = omega arith in
    let t = c.loop-digit.invariant.there large in
    sym (one_too_large c.args.bits c.args.first c.args.digits.now t.0 t.1 t.2)

pub returns-then-not-has_room : goal.returns-then-not-has_room
returns-then-not-has_room c =
    let digits = c.args.digits.now in
    let large : 2 ^ (64 - length digits * c.args.bits) ≤ c.args.first = search rules in
    let whole : c.args.first < 2 ^ 64 = search rules in
    sym (no_room c.args.bits c.args.first digits c.requires.few c.requires.room whole large)

pub returns : goal.returns
returns c =
    let digits = c.args.digits.now in
    let base = c.base_of-base.ensures in
    let most = c.from.ensures in
    let under = c.if-from-base.false in
    let past : length digits ≤ c.loop-digit.digit-index = omega (arith, c.loop-digit-test.false) in
    let end = wrapped_end c.args.bits c.loop-digit.word digits c.loop-digit.digit-index past in
    let room : c.args.first < 2 ^ (64 - length digits * c.args.bits) = search rules in
    let all = all_fit c.args.bits c.args.first digits c.requires.few c.requires.room
    (λ k below.
    let before : k < c.loop-digit.digit-index = omega arith in
    omega (arith, c.loop-digit.invariant.above k before)) room in
    ap (λ w. Some w) (sym end ∙ c.loop-digit.invariant.word) ∙ sym all
