use Rattle.std.proofs.Common.{◌+◌, refl, ap, ◌∙◌}
use Rattle.std.proofs.lemmas.List.{with_items_is}
use Rattle.cheri_model.specs.runs.Image.{ImageParts}
use Rattle.sample_draws.specs.Orders.{drawn_order}
use Rattle.sample_tallies.specs.Tallies.{numbers_from}
use Rattle.sample_checks.proofs.DecidedLemmas.{none_in, in_none, none_of_them, decided_more, drawn_legal}
use Rattle.sample_checks.proofs.counting.count_decided.Goals as goal

pub returns-then-is_empty : goal.returns-then-is_empty
returns-then-is_empty c =
    let a = c.args in
    c.in_ok-decided.ensures
    ∙ in_none a.image.now a.drawing.now a.properties.now (numbers_from a.first a.count)
    (none_of_them a.properties.now c.is_empty.result c.is_empty.ensures c.if-is_empty.true)

pub loop-done-init : goal.loop-done-init
loop-done-init c = record {
  runner = c.in_ok-runner.ensures;
  machine = c.in_ok-machine.ensures;
  decided = c.in_ok-decided.ensures ∙ none_in c.args.image.now c.args.drawing.now c.args.properties.now c.args.first;
}

pub see_run-requires-clause-legal : goal.see_run-requires-clause-legal
see_run-requires-clause-legal c =
    let run = c.args.first + c.loop-done.done in
    drawn_legal c.args.image.now c.loop-done.machine.image c.args.drawing.now run c.as_slice.result.now
    c.seed-seed.ensures.drawing c.loop-done.invariant.machine
    (c.as_slice.ensures.value ∙ (c.in_ok-order.ensures.order
    ∙ ap (λ (i : ImageParts). drawn_order i c.args.drawing.now run) c.loop-done.invariant.runner))

pub loop-done-preserved : goal.loop-done-preserved
loop-done-preserved c =
    let a = c.args in
    let inv = c.loop-done.invariant in
    record {
      runner = c.order.ensures.image ∙ inv.runner;
      machine = c.see_run.ensures.image ∙ inv.machine;
      decided = with_items_is c.loop-done.decided c.see_run.new.decided
          (c.see_run.auto.decided ∙ c.deref_mut.ensures.len)
          ∙ decided_more a.image.now c.loop-done.runner.image c.loop-done.machine.image a.drawing.now a.properties.now a.first
          c.loop-done.done (a.first + c.loop-done.done) c.as_slice.result.now c.deref_mut.result.now c.see_run.new.decided
          inv.runner inv.machine refl (c.as_slice.ensures.value ∙ c.in_ok-order.ensures.order)
          (c.deref_mut.ensures.value ∙ inv.decided) c.in_ok-see_run.ensures.seen;
    }
