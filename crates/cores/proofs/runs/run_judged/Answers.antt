-- The run of what is left stays the same, whatever was taken.
use Rattle.std.proofs.Common.{length, ap, ◌∙◌, sym, arith}
use Rattle.cores.specs.Cores.{CoreParts, core_after}
use Rattle.cores.specs.Runs.{run_from, run_of}
use Rattle.cores.proofs.CoreLemmas.{core_confined}
use Rattle.cores.proofs.RunLemmas.{goes_on, stops, ends, longer}
use Rattle.cores.proofs.runs.run_judged.Goals as goal

pub loop-op-init : goal.loop-op-init
unfolding run_of
loop-op-init c = record {
  core = c.in_ok-core.ensures.core;
  run = ap (λ (k : CoreParts). run_from k 0 c.args.order) c.in_ok-core.ensures.opened;
  place = sym (ap (λ (k : CoreParts). length k.trace) c.in_ok-core.ensures.opened);
  limit = ap (λ (k : CoreParts). k.limit) c.in_ok-core.ensures.opened;
}

pub returns-in-Err-clause-run : goal.returns-in-Err-clause-run
returns-in-Err-clause-run c =
    let was = c.loop-op.invariant in
    let core = c.loop-op.core in
    rw c.in-Err.ensures.err
    (sym (stops core c.loop-op.place c.in-Some.op c.next.new.self c.in-Err.fault c.in-Err.ensures.answered)
    ∙ (ap (run_from core c.loop-op.place) (sym c.in-Some.ensures.next) ∙ was.run))

pub loop-op-preserved : goal.loop-op-preserved
unfolding core_after
loop-op-preserved c =
    let after = c.in_default-apply.ensures.ok in
    let was = c.loop-op.invariant in
    let core = c.loop-op.core in
    let more = longer core c.apply.new.self c.in-Some.op after in record {
      core = c.apply.ensures.core;
      run = sym (goes_on core c.apply.new.self c.loop-op.place c.in-Some.op c.next.new.self _ c.in_default-apply.ensures.answered after)
          ∙ (ap (run_from core c.loop-op.place) (sym c.in-Some.ensures.next) ∙ was.run);
      place = omega (arith, was.place, more);
      limit = ap (λ (k : CoreParts). k.limit) after ∙ was.limit;
    }

pub returns-clause-run : goal.returns-clause-run
returns-clause-run c =
    let was = c.loop-op.invariant in
    sym (ends c.loop-op.core c.loop-op.place c.loop-op.order c.in_default.ensures.next.0) ∙ was.run

pub returns-clause-confined : goal.returns-clause-confined
returns-clause-confined c = core_confined c.loop-op.core c.loop-op.invariant.core
