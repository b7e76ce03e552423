use Rattle.std.proofs.Common.{◌++◌, ◌-◌, List, refl, sym, ap, ◌∙◌, arith}
use Rattle.cheri_model.specs.declared.operation.Op.{Op}
use Rattle.sample_draws.proofs.DrawingLemmas.{drawing_within}
use Rattle.sample_draws.specs.Orders.{Moment, run_from}
use Rattle.sample_runs.specs.Runners.{moment_of}
use Rattle.sample_runs.proofs.RunLemmas.{run_none, run_over, goes}
use Rattle.sample_runs.proofs.WholeLemmas.{run_left, no_steps, one_more, none_more}
use Rattle.sample_runs.proofs.runner.Runner.order.Goals as goal

pub loop-left-init : goal.loop-left-init
loop-left-init c =
    let image = c.args.self.now.image in
    let drawing = c.args.drawing.now in
    let moment = moment_of c.begin.new.self c.in_ok-draws.draws in
    let whole = run_left image image drawing c.args.run c.length-left.result moment refl c.length-left.ensures
    c.in_ok-draws.ensures.moment in
    record {
      image = c.begin.ensures.image;
      left = omega (arith, c.length-left.ensures);
      steps = omega (arith, c.length-left.ensures, no_steps image drawing c.args.run moment c.in_ok-draws.ensures.moment);
      state = ap (λ (r : List Op × Moment). r.1.state) whole;
      order = ap (λ (xs : List Op). xs ++ (run_from image drawing c.length-left.result moment).0) c.new-order.ensures.items
          ∙ ap (λ (r : List Op × Moment). r.0) whole;
    }

pub advance-requires : goal.advance-requires
advance-requires c =
    omega (arith, c.loop-left.invariant.steps, (drawing_within c.args.drawing.now c.seed-seed.ensures.drawing).most)

pub returns-in-None-clause-state : goal.returns-in-None-clause-state
returns-in-None-clause-state c =
    let l = c.loop-left in
    let moment = moment_of l.self l.draws in
    let image = c.args.self.now.image in
    let drawing = c.args.drawing.now in
    let over = run_over image drawing l.left moment (c.in-None.ensures.over refl) in
    ap (λ (m : Moment). m.state) (c.in-None.ensures.same refl)
    ∙ sym (ap (λ (r : List Op × Moment). r.1.state) over) ∙ l.invariant.state

pub returns-in-None-clause-order : goal.returns-in-None-clause-order
returns-in-None-clause-order c =
    let l = c.loop-left in
    let moment = moment_of l.self l.draws in
    let image = c.args.self.now.image in
    let drawing = c.args.drawing.now in
    let over = run_over image drawing l.left moment (c.in-None.ensures.over refl) in
    none_more l.order.items (run_from image drawing l.left moment).0 _ (ap (λ (r : List Op × Moment). r.0) over)
    l.invariant.order

pub loop-left-preserved : goal.loop-left-preserved
loop-left-preserved c =
    let l = c.loop-left in
    let moment = moment_of l.self l.draws in
    let image = c.args.self.now.image in
    let drawing = c.args.drawing.now in
    let next = moment_of c.advance.new.self c.advance.new.draws in
    let more = goes image l.self.image drawing l.left moment next c.in-Some.op
    (omega arith) l.invariant.image c.in-Some.ensures.on c.in-Some.ensures.chosen c.in-Some.ensures.next in
    record {
      image = c.in-Some.ensures.image ∙ l.invariant.image;
      left = omega (arith, l.invariant.left);
      steps = omega (arith, more.steps, l.invariant.steps);
      state = more.state ∙ l.invariant.state;
      order = one_more l.order.items c.push.new.self.items (run_from image drawing l.left moment).0
          (run_from image drawing (l.left - 1) next).0 _ c.in-Some.op c.in_ok-push-in-Some.ensures.items more.order
          l.invariant.order;
    }

pub returns-clause-state : goal.returns-clause-state
returns-clause-state c =
    let l = c.loop-left in
    let moment = moment_of l.self l.draws in
    let image = c.args.self.now.image in
    let drawing = c.args.drawing.now in
    let over = run_none image drawing l.left moment (omega arith) in
    sym (ap (λ (r : List Op × Moment). r.1.state) over) ∙ l.invariant.state

pub returns-clause-order : goal.returns-clause-order
returns-clause-order c =
    let l = c.loop-left in
    let moment = moment_of l.self l.draws in
    let image = c.args.self.now.image in
    let drawing = c.args.drawing.now in
    let over = run_none image drawing l.left moment (omega arith) in
    none_more l.order.items (run_from image drawing l.left moment).0 _ (ap (λ (r : List Op × Moment). r.0) over)
    l.invariant.order
