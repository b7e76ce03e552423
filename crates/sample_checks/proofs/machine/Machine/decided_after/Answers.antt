use Rattle.std.proofs.Common.{◌≡◌, ◌<◌, ℕ, length, get_or, sym, ap, ◌∙◌, arith}
use Rattle.std.specs.Prelude.{Some}
use Rattle.std.proofs.lemmas.List.{get_or_default}
use Rattle.cheri_model.specs.declared.operation.Op.TheVariants as operation
use Rattle.sample_runs.specs.Runners.{state_of}
use Rattle.sample_checks.proofs.DecidingLemmas.{begins, may_next, goes_on, found, not_found, said}
use Rattle.sample_checks.proofs.machine.Machine.decided_after.Goals as goal

pub loop-done-init : goal.loop-done-init
loop-done-init c = record {
  image = c.begin.ensures.image;
  goes = begins c.args.self.now.image c.args.claim.now c.args.order.now (state_of c.begin.new.self) c.requires
      c.in_ok-begin.ensures.state;
}

pub returns-then-decides-clause-value : goal.returns-then-decides-clause-value
returns-then-decides-clause-value c =
    found c.args.self.now.image c.args.claim.now c.args.order.now c.loop-done.done (state_of c.loop-done.self)
    c.loop-done.invariant.goes (sym c.decides.ensures ∙ c.if-decides.true)

pub take-requires : goal.take-requires
take-requires c =
    let order = c.args.order.now in
    let done = c.loop-done.done in
    let op = get_or order done (operation.Step 0) in
    let inside : done < length order = omega arith in
    may_next c.args.self.now.image c.args.claim.now order done (state_of c.loop-done.self) op
    c.loop-done.invariant.goes inside (get_or_default order done (operation.Step 0) op inside)

pub loop-done-preserved : goal.loop-done-preserved
loop-done-preserved c =
    let order = c.args.order.now in
    let done = c.loop-done.done in
    let op = get_or order done (operation.Step 0) in
    let inside : done < length order = omega arith in
    record {
      image = c.take.ensures.image ∙ c.loop-done.invariant.image;
      goes = goes_on c.args.self.now.image c.loop-done.self.image c.args.claim.now order done (state_of c.loop-done.self)
          (state_of c.take.new.self) op c.loop-done.invariant.goes inside
          (get_or_default order done (operation.Step 0) op inside) (sym c.decides.ensures ∙ c.if-decides.false)
          c.loop-done.invariant.image c.take.ensures.state;
    }

pub returns-clause-value : goal.returns-clause-value
returns-clause-value c =
    let image = c.args.self.now.image in
    let claim = c.args.claim.now in
    let order = c.args.order.now in
    let done = c.loop-done.done in
    let state = state_of c.loop-done.self in
    let all : done ≡ length order = omega arith in
    said c.decides-last.result (length order) c.then_some.result _ c.then_some.ensures
    (λ yes. ap (λ (n : ℕ). Some n) (sym all) ∙ found image claim order done state c.loop-done.invariant.goes (sym c.decides-last.ensures ∙ yes))
    (λ no. not_found image claim order done state c.loop-done.invariant.goes (omega (arith, all))
    (sym c.decides-last.ensures ∙ no))
