-- The run of what is left stays the same, whatever was taken.
use Rattle.std.proofs.Common.{◌+◌, drop, get_or, ap, ◌∙◌, sym}
use Rattle.std.proofs.lemmas.List.{drop_more, drop_all}
use Rattle.cheri_model.specs.declared.operation.Op.TheVariants as operation
use Rattle.cores.specs.Cores.{CoreParts}
use Rattle.cores.specs.Runs.{run_from, run_of}
use Rattle.cores.proofs.CoreLemmas.{core_confined}
use Rattle.cores.proofs.RunLemmas.{goes_on, stops, ends}
use Rattle.cores.proofs.runs.run_order.Goals as goal

pub loop-place-init : goal.loop-place-init
unfolding run_of
loop-place-init c = record {
  core = c.in_ok-core.ensures.core;
  run = ap (λ (k : CoreParts). run_from k 0 c.args.order.now) c.in_ok-core.ensures.opened;
}

pub returns-in-Err-clause-run : goal.returns-in-Err-clause-run
returns-in-Err-clause-run c =
    let was = c.loop-place.invariant in
    let core = c.loop-place.core in
    let place = c.loop-place.place in
    let order = c.args.order.now in
    rw c.in-Err.ensures.err
    (sym (stops core place (get_or order place (operation.Step 0)) (drop (place + 1) order) c.in-Err.fault c.in-Err.ensures.answered)
    ∙ (sym (ap (run_from core place) (drop_more order place (operation.Step 0) c.loop-place-test.true)) ∙ was.run))

pub loop-place-preserved : goal.loop-place-preserved
loop-place-preserved c =
    let was = c.loop-place.invariant in
    let core = c.loop-place.core in
    let place = c.loop-place.place in
    let order = c.args.order.now in record {
      core = c.apply.ensures.core;
      run = sym (goes_on core c.apply.new.self place (get_or order place (operation.Step 0)) (drop (place + 1) order) _ c.in_default.ensures.answered c.in_default.ensures.ok)
          ∙ (sym (ap (run_from core place) (drop_more order place (operation.Step 0) c.loop-place-test.true)) ∙ was.run);
    }

pub returns-clause-run : goal.returns-clause-run
returns-clause-run c =
    let core = c.loop-place.core in
    let place = c.loop-place.place in
    sym (ends core place (drop place c.args.order.now) (drop_all place c.args.order.now c.loop-place-test.false)) ∙ c.loop-place.invariant.run

pub returns-clause-confined : goal.returns-clause-confined
returns-clause-confined c = core_confined c.loop-place.core c.loop-place.invariant.core
