-- The share has counted the turns that were taken, a report's reason goes with its steps, and the calls are those of the
-- turns.
use Rattle.std.proofs.Common.{◌≡◌, ◌+◌, [], ◌∷◌, ◌++◌, refl, inl, subst, sym, ◌∙◌, arith}
use Rattle.harts.specs.Calls.{with_turns}
use Rattle.harts.specs.Reports.{IsReason}
use Rattle.harts.specs.declared.gates.Call.TheVariants.{Before, After}
use Rattle.harts.specs.declared.gates.Turn.TheVariants.{Go, End}
use Rattle.harts.specs.declared.workers.Why.{Why}
use Rattle.harts.specs.declared.workers.Why.TheVariants as why
use Rattle.harts.proofs.CallLemmas.{no_turns, one_turn_more, ended_after, ended_before}
use Rattle.harts.proofs.workers.hart_loop.Goals as goal

pub loop-turn-init : goal.loop-turn-init
loop-turn-init g c =
    let none : c.args.share.amount ≡ c.args.share.amount + 0 = omega arith in record {
      share = λ i. record { hart = c.args.share.hart; amount = none i };
      calls = no_turns (g.G.Gate.made c.args.calls.now) c.args.share.hart;
    }

pub loop-turn-preserved : goal.loop-turn-preserved
loop-turn-preserved g c =
    let old = g.G.Gate.made c.args.calls.now in
    let now = g.G.Gate.made c.loop-turn.calls in
    let asked : g.G.Gate.made c.before-in-loop-turn.new.calls ≡ now ++ Before c.args.share.hart c.loop-turn.turn Go ∷ [] =
    c.before-in-loop-turn.ensures ∙ (λ i. now ++ Before (c.hart-hart.ensures.hart i) c.loop-turn.turn (c.in-Go.is i) ∷ []) in
    let told : g.G.Gate.made c.after.new.calls ≡ g.G.Gate.made c.before-in-loop-turn.new.calls ++ After c.args.share.hart c.loop-turn.turn ∷ [] =
    c.after.ensures ∙ (λ i. g.G.Gate.made c.before-in-loop-turn.new.calls ++ After (c.hart-hart.ensures.hart i) c.loop-turn.turn ∷ []) in
    let counted = c.loop-turn.invariant.share in
    let sum : c.args.share.amount + c.loop-turn.turn + 1 ≡ c.args.share.amount + (c.loop-turn.turn + 1) = omega arith in record {
      share = c.in-Ok.ensures.counted
          ∙ ((λ i. record { hart = (counted i).hart; amount = (counted i).amount + 1 })
          ∙ (λ i. record { hart = c.args.share.hart; amount = sum i }));
      calls = one_turn_more old now _ _ c.args.share.hart c.loop-turn.turn c.loop-turn.invariant.calls asked told;
    }

pub returns-in-End-clause-share : goal.returns-in-End-clause-share
returns-in-End-clause-share g c = rw c.report.ensures.steps c.loop-turn.invariant.share

pub returns-in-End-clause-why : goal.returns-in-End-clause-why
returns-in-End-clause-why g c =
    subst (λ (why : Why). IsReason c.args.turns c.report.result.steps why) (sym c.report.ensures.why) (omega arith)

pub returns-in-End-clause-calls : goal.returns-in-End-clause-calls
returns-in-End-clause-calls g c =
    let old = g.G.Gate.made c.args.calls.now in
    let now = g.G.Gate.made c.loop-turn.calls in
    let asked : g.G.Gate.made c.before-in-loop-turn.new.calls ≡ now ++ Before c.args.share.hart c.loop-turn.turn End ∷ [] =
    c.before-in-loop-turn.ensures ∙ (λ i. now ++ Before (c.hart-hart.ensures.hart i) c.loop-turn.turn (c.in-End.is i) ∷ []) in
    rw (c.report.ensures.steps, c.report.ensures.why)
    (ended_before old now _ c.args.share.hart c.loop-turn.turn End why.Gate refl c.loop-turn.invariant.calls asked)

pub returns-in-Err-clause-calls : goal.returns-in-Err-clause-calls
returns-in-Err-clause-calls g c =
    let old = g.G.Gate.made c.args.calls.now in
    let now = g.G.Gate.made c.loop-turn.calls in
    let asked : g.G.Gate.made c.before-in-loop-turn.new.calls ≡ now ++ Before c.args.share.hart c.loop-turn.turn Go ∷ [] =
    c.before-in-loop-turn.ensures ∙ (λ i. now ++ Before (c.hart-hart.ensures.hart i) c.loop-turn.turn (c.in-Go.is i) ∷ []) in
    rw (c.report-in-Err.ensures.steps, c.report-in-Err.ensures.why)
    (ended_before old now _ c.args.share.hart c.loop-turn.turn Go c.why_refused.result (c.why_refused.ensures.calls c.args.share.hart)
    c.loop-turn.invariant.calls asked)

pub returns-then-not-goes_on-clause-why : goal.returns-then-not-goes_on-clause-why
returns-then-not-goes_on-clause-why g c =
    subst (λ (why : Why). IsReason c.args.turns c.report-then-not-goes_on.result.steps why) (sym c.report-then-not-goes_on.ensures.why) (omega arith)

pub returns-then-not-goes_on-clause-calls : goal.returns-then-not-goes_on-clause-calls
returns-then-not-goes_on-clause-calls g c =
    let old = g.G.Gate.made c.args.calls.now in
    let now = g.G.Gate.made c.loop-turn.calls in
    let asked : g.G.Gate.made c.before-in-loop-turn.new.calls ≡ now ++ Before c.args.share.hart c.loop-turn.turn Go ∷ [] =
    c.before-in-loop-turn.ensures ∙ (λ i. now ++ Before (c.hart-hart.ensures.hart i) c.loop-turn.turn (c.in-Go.is i) ∷ []) in
    let told : g.G.Gate.made c.after.new.calls ≡ g.G.Gate.made c.before-in-loop-turn.new.calls ++ After c.args.share.hart c.loop-turn.turn ∷ [] =
    c.after.ensures ∙ (λ i. g.G.Gate.made c.before-in-loop-turn.new.calls ++ After (c.hart-hart.ensures.hart i) c.loop-turn.turn ∷ []) in
    rw (c.report-then-not-goes_on.ensures.steps, c.report-then-not-goes_on.ensures.why)
    (ended_after old _ c.args.share.hart (c.loop-turn.turn + 1) why.Stopped (inl refl)
    (one_turn_more old now _ _ c.args.share.hart c.loop-turn.turn c.loop-turn.invariant.calls asked told))

pub returns-clause-calls : goal.returns-clause-calls
returns-clause-calls g c =
    let old = g.G.Gate.made c.args.calls.now in
    let last : c.loop-turn.turn ≡ c.args.turns = omega arith in
    rw (c.report-2.ensures.steps, c.report-2.ensures.why)
    (ended_after old _ c.args.share.hart c.args.turns why.Turns refl
    (c.loop-turn.invariant.calls ∙ (λ i. with_turns old c.args.share.hart (last i))))
