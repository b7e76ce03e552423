use Rattle.std.proofs.Common.{◌≡◌, true, false, refl, sym, ◌∙◌, rules, arith}
use Rattle.sample_steps.proofs.HangLemmas.{round_changed, round_stopped, round_back, round_on, round_none, gone_within}
use Rattle.sample_steps.proofs.hanging.goes_round.Goals as goal

pub returns-in-Some-clause-value : goal.returns-in-Some-clause-value
returns-in-Some-clause-value c =
    sym (round_changed c.args.program.now c.loop-left.left c.loop-left.cycle c.loop-left.alone c.loop-left.ram
    c.step_hart.new.ram (omega arith) c.in-Some.ensures.memory c.in-Some.ensures.changed)
    ∙ c.loop-left.invariant.value

pub returns-then-not-runs-clause-value : goal.returns-then-not-runs-clause-value
returns-then-not-runs-clause-value c =
    let stopped : c.runs.result ≡ false = search rules in
    sym (round_stopped c.args.program.now c.loop-left.left c.loop-left.cycle c.loop-left.alone c.step_hart.new.hart
    c.loop-left.ram c.step_hart.new.ram (omega arith) c.in-None.ensures.hart c.in-None.ensures.memory
    c.in-None.ensures.changed (sym c.runs.ensures ∙ stopped))
    ∙ c.loop-left.invariant.value

pub returns-then-is_back-clause-value : goal.returns-then-is_back-clause-value
returns-then-is_back-clause-value c =
    let runs : c.runs.result ≡ true = search rules in
    let back : c.is_back.result ≡ true = search rules in
    sym (round_back c.args.program.now c.loop-left.left c.loop-left.cycle c.loop-left.alone c.step_hart.new.hart
    c.loop-left.ram c.step_hart.new.ram (omega arith) c.in-None.ensures.hart c.in-None.ensures.memory
    c.in-None.ensures.changed (sym c.runs.ensures ∙ runs) (sym c.is_back.ensures ∙ back))
    ∙ c.loop-left.invariant.value

pub loop-left-preserved : goal.loop-left-preserved
loop-left-preserved c =
    let runs : c.runs.result ≡ true = search rules in
    let on : c.is_back.result ≡ false = search rules in
    let within = gone_within c.step_hart.new.hart c.loop-left.cycle c.go_on.new.self c.loop-left.invariant.since c.go_on.ensures in
    record {
      ram = c.in-None.ensures.same refl ∙ c.loop-left.invariant.ram;
      value =
          sym (round_on c.args.program.now c.loop-left.left c.loop-left.cycle c.go_on.new.self c.loop-left.alone
          c.step_hart.new.hart c.loop-left.ram c.step_hart.new.ram (omega arith) c.in-None.ensures.hart
          c.in-None.ensures.memory c.in-None.ensures.changed (sym c.runs.ensures ∙ runs)
          (sym c.is_back.ensures ∙ on) c.go_on.ensures)
          ∙ c.loop-left.invariant.value;
      since = within.0;
      span = omega (arith, within.1, c.loop-left.invariant.span);
    }

pub returns-clause-value : goal.returns-clause-value
returns-clause-value c =
    sym (round_none c.args.program.now c.loop-left.left c.loop-left.cycle c.loop-left.alone c.loop-left.ram (omega arith))
    ∙ c.loop-left.invariant.value
