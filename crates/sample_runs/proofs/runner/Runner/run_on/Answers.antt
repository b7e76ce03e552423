use Rattle.std.proofs.Common.{◌≡◌, List, length, refl, sym, ap, ◌∙◌, arith}
use Rattle.cheri_model.specs.declared.operation.Op.{Op}
use Rattle.sample_draws.proofs.DrawingLemmas.{drawing_within}
use Rattle.sample_draws.specs.Orders.{Moment, run_from}
use Rattle.sample_runs.specs.Runners.{moment_of}
use Rattle.sample_runs.proofs.RunLemmas.{run_none, run_over, goes}
use Rattle.sample_runs.proofs.runner.Runner.run_on.Goals as goal

pub advance-requires : goal.advance-requires
advance-requires c =
    omega (arith, c.loop-left.invariant.steps, (drawing_within c.args.drawing.now c.seed-seed.ensures.drawing).most)

pub returns-in-None-clause-state : goal.returns-in-None-clause-state
returns-in-None-clause-state c =
    let l = c.loop-left in
    let moment = moment_of l.self l.draws in
    let image = c.args.self.now.image in
    let drawing = c.args.drawing.now in
    let over = run_over image drawing l.left moment (c.in-None.ensures.over refl) in
    ap (λ (m : Moment). m.state) (c.in-None.ensures.same refl)
    ∙ sym (ap (λ (r : List Op × Moment). r.1.state) over) ∙ l.invariant.state

pub returns-in-None-clause-count : goal.returns-in-None-clause-count
returns-in-None-clause-count c =
    let l = c.loop-left in
    let moment = moment_of l.self l.draws in
    let image = c.args.self.now.image in
    let drawing = c.args.drawing.now in
    let over = run_over image drawing l.left moment (c.in-None.ensures.over refl) in
    let none : length (run_from image drawing l.left moment).0 ≡ 0 = ap (λ (r : List Op × Moment). length r.0) over in
    omega (arith, none, l.invariant.count, c.length.ensures)

pub loop-left-preserved : goal.loop-left-preserved
loop-left-preserved c =
    let l = c.loop-left in
    let moment = moment_of l.self l.draws in
    let image = c.args.self.now.image in
    let drawing = c.args.drawing.now in
    let more = goes image l.self.image drawing l.left moment
    (moment_of c.advance.new.self c.advance.new.draws) c.in-Some.field-0
    (omega arith) l.invariant.image c.in-Some.ensures.on c.in-Some.ensures.chosen c.in-Some.ensures.next in
    record {
      image = c.in-Some.ensures.image ∙ l.invariant.image;
      left = omega (arith, l.invariant.left);
      steps = omega (arith, more.steps, l.invariant.steps);
      state = more.state ∙ l.invariant.state;
      count = omega (arith, ap length more.order, l.invariant.count, l.invariant.left);
    }

pub returns-clause-state : goal.returns-clause-state
returns-clause-state c =
    let l = c.loop-left in
    let moment = moment_of l.self l.draws in
    let image = c.args.self.now.image in
    let drawing = c.args.drawing.now in
    let over = run_none image drawing l.left moment (omega arith) in
    sym (ap (λ (r : List Op × Moment). r.1.state) over) ∙ l.invariant.state

pub returns-clause-count : goal.returns-clause-count
returns-clause-count c =
    let l = c.loop-left in
    let moment = moment_of l.self l.draws in
    let image = c.args.self.now.image in
    let drawing = c.args.drawing.now in
    let over = run_none image drawing l.left moment (omega arith) in
    let none : length (run_from image drawing l.left moment).0 ≡ 0 = ap (λ (r : List Op × Moment). length r.0) over in
    omega (arith, none, l.invariant.count, c.length-2.ensures)
