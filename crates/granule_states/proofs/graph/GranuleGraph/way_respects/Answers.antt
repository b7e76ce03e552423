use Rattle.std.proofs.Common.{◌+◌, ◌≤◌, arith}
use Rattle.std.specs.Prelude.{true, false}
use Rattle.explore_turns.specs.declared.quiet.TheConstants.{MAX_QUIET_STEPS}
use Rattle.state_store.proofs.NumberedLemmas.{some_of}
use Rattle.states.proofs.NodeLemmas.{is_some}
use Rattle.granule_states.specs.Graphs.{quiet_in, state_in, step_in}
use Rattle.granule_states.specs.Owners.{passes_in}
use Rattle.granule_states.proofs.PassLemmas.{left_begun, left_done, left_ends, left_more}
use Rattle.granule_states.proofs.ScanLemmas.{passed_before, quiet_runs}
use Rattle.granule_states.proofs.TurnLemmas.{learns_on, learns_self, quiet_now, stepped_there}
use Rattle.granule_states.proofs.graph.GranuleGraph.way_respects.Goals as goal

pub loop-init : goal.loop-init
loop-init c = record {
  learns = learns_self c.args.self.now;
  left = λ s is. (
    s,
    is,
    left_begun (step_in c.args.self.now) (quiet_in c.args.self.now) (passes_in c.args.self.now c.args.owners.now)
        c.args.hart MAX_QUIET_STEPS s,
  );
}

pub quiet_step-requires-clause-meant : goal.quiet_step-requires-clause-meant
quiet_step-requires-clause-meant c =
    let s = some_of (state_in c.args.self.now c.args.row.now) c.requires.meant in
    let t = c.loop.invariant.left s.0 s.1 in
    is_some (state_in c.loop.self c.loop.row) t.0 t.1

pub returns-then-not-branch-clause-way : goal.returns-then-not-branch-clause-way
returns-then-not-branch-clause-way c s is holds =
    let t = c.loop.invariant.left s is in
    let still = quiet_now c.args.self.now c.loop.self c.loop.invariant.learns t.0 c.args.hart c.in_ok-quiet_step.field-0 false
    (c.in_ok-quiet_step.ensures.quiet t.0 t.1) c.if-not-branch.true in
    left_ends (step_in c.args.self.now) (quiet_in c.args.self.now) (passes_in c.args.self.now c.args.owners.now) c.args.hart
    MAX_QUIET_STEPS s t.0 c.loop.counter t.2 still

pub loop-preserved : goal.loop-preserved
loop-preserved c =
    let learns = c.loop.invariant.learns in
    record {
      learns = learns_on c.args.self.now c.loop.self c.quiet_step.new.self learns c.quiet_step.ensures.learns;
      left = λ s is.
          let t = c.loop.invariant.left s is in
          let here = c.in_ok-quiet_step.ensures.quiet t.0 t.1 in
          let moves = quiet_now c.args.self.now c.loop.self learns t.0 c.args.hart c.in_ok-quiet_step.field-0 true here c.if-not-branch.false in
          let runs = quiet_runs c.args.self.now t.0 c.args.hart moves in
          let passed = passed_before c.args.self.now c.loop.self learns c.args.owners.now t.0 c.args.hart
          (c.respects-respects.ensures t.0 t.1 c.if-not-respects.false runs) in (
            step_in c.args.self.now t.0 c.args.hart,
            stepped_there c.args.self.now c.loop.self c.quiet_step.new.self learns c.quiet_step.new.row t.0 c.args.hart
                c.in_ok-quiet_step.field-0 (c.in_ok-quiet_step.ensures.row t.0 t.1) c.if-not-branch.false,
            left_more (step_in c.args.self.now) (quiet_in c.args.self.now) (passes_in c.args.self.now c.args.owners.now) c.args.hart
                MAX_QUIET_STEPS s t.0 c.loop.counter t.2 moves passed,
          );
    }

pub returns-clause-way : goal.returns-clause-way
returns-clause-way c s is holds =
    let t = c.loop.invariant.left s is in
    let past : MAX_QUIET_STEPS + 1 ≤ c.loop.counter = omega (arith, c.loop-test.false) in
    left_done (step_in c.args.self.now) (quiet_in c.args.self.now) (passes_in c.args.self.now c.args.owners.now) c.args.hart
    MAX_QUIET_STEPS s t.0 c.loop.counter t.2 past
