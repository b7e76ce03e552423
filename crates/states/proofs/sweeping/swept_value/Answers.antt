use Rattle.std.proofs.Common.{◌≡◌, ap, sym, ◌∙◌, Some, slice_get}
use Rattle.std.specs.Prelude.{ℕ}
use Rattle.std.proofs.lemmas.Option.{same_Some}
use Rattle.std.proofs.lemmas.Result.{IfOk-weaker}
use Rattle.cap_model.specs.values.CapValue.{CapValue}
use Rattle.cap_model.specs.results.Swept.{is_in_sweep}
use Rattle.states.proofs.RowLemmas.{swept_stays, swept_clears}
use Rattle.states.proofs.sweeping.swept_value.Goals as goal

pub returns-then-not-is_in_sweep-clause-numbered : goal.returns-then-not-is_in_sweep-clause-numbered
returns-then-not-is_in_sweep-clause-numbered c v is =
    let same : v ≡ c.of_value-value.result = same_Some v c.value.result (sym is ∙ c.value.ensures) ∙ sym c.of_value-value.ensures in
    is ∙ ap (λ (w : CapValue). Some w) (sym (swept_stays c.args.range.lo c.args.range.hi v
    (ap (is_in_sweep c.args.range.lo c.args.range.hi) same ∙ (sym c.is_in_sweep.ensures.value ∙ c.if-not-is_in_sweep.true))))

pub returns-clause-numbered : goal.returns-clause-numbered
returns-clause-numbered c =
    IfOk-weaker c.number_value.result (λ (id : ℕ). slice_get c.number_value.new.self.values id ≡ Some c.value-2.result) _
    (λ id left v is.
    let same : v ≡ c.of_value-value.result = same_Some v c.value.result (sym is ∙ c.value.ensures) ∙ sym c.of_value-value.ensures in
    left ∙ ap (λ (w : CapValue). Some w) (c.value-2.ensures.value ∙ (c.clear_tag.ensures ∙ sym (
    swept_clears c.args.range.lo c.args.range.hi v c.of_value-value.result same
    (ap (is_in_sweep c.args.range.lo c.args.range.hi) same ∙ (sym c.is_in_sweep.ensures.value ∙ c.if-not-is_in_sweep.false))))))
    c.number_value.ensures.numbered
