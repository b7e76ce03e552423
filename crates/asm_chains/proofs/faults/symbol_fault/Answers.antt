use Rattle.std.proofs.Common.{[], ◌∷◌}
use Rattle.asm_chains.specs.Marks.{IsMarked}
use Rattle.asm_chains.proofs.MarkLemmas.{none_marked, one_marked, open_by_marks, closed_by_marks, met_again, met_first, fault_first, fault_again, fault_leads, fault_last, ends_at, leads_to}
use Rattle.asm_chains.proofs.faults.symbol_fault.Goals as goal

pub loop-step-init : goal.loop-step-init
loop-step-init g c =
    let none : IsMarked (g.S.Scene.parts c.args.scene.now) [] c.in_ok-met.met.items =
    rw c.in_ok-met.ensures (none_marked (g.S.Scene.parts c.args.scene.now) c.count-count.result c.count-count.ensures) in
    ([], none, fault_first (g.S.Scene.parts c.args.scene.now) c.args.values.now c.count-count.result c.args.symbol c.args.again c.count-count.ensures)

pub returns-then-not-is_new : goal.returns-then-not-is_new
returns-then-not-is_new g c =
    let scene = g.S.Scene.parts c.args.scene.now in
    let way = c.loop-step.invariant.0 in
    let met = met_again c.meet-is_new.result c.loop-step.met.items c.meet-is_new.new.met.items c.loop-step.at c.if-not-is_new.true c.meet-is_new.ensures in
    fault_again scene c.args.values.now c.count-count.result c.loop-step._step way c.loop-step.at c.loop-step.told _ c.loop-step.invariant.2 c.loop-step-test.true
    (closed_by_marks scene way c.loop-step.met.items c.loop-step.at c.loop-step.invariant.1 met)

pub returns-in-Ends : goal.returns-in-Ends
returns-in-Ends g c =
    let scene = g.S.Scene.parts c.args.scene.now in
    let way = c.loop-step.invariant.0 in
    let first = met_first c.meet-is_new.result c.loop-step.met.items c.meet-is_new.new.met.items c.loop-step.at c.if-not-is_new.false c.meet-is_new.ensures in
    let follows = fault_leads scene c.args.values.now c.count-count.result c.loop-step._step way c.loop-step.at c.loop-step.told _ c.loop-step.invariant.2 c.loop-step-test.true
    (open_by_marks scene way c.loop-step.met.items c.loop-step.at c.loop-step.invariant.1 first.0) in
    ends_at _ c.in_ok-lead.lead c.in-Ends.fault _ c.in-Ends.is (rw (← c.in_ok-lead.ensures) at follows)

pub loop-step-preserved : goal.loop-step-preserved
loop-step-preserved g c =
    let scene = g.S.Scene.parts c.args.scene.now in
    let way = c.loop-step.invariant.0 in
    let first = met_first c.meet-is_new.result c.loop-step.met.items c.meet-is_new.new.met.items c.loop-step.at c.if-not-is_new.false c.meet-is_new.ensures in
    let follows = fault_leads scene c.args.values.now c.count-count.result c.loop-step._step way c.loop-step.at c.loop-step.told _ c.loop-step.invariant.2 c.loop-step-test.true
    (open_by_marks scene way c.loop-step.met.items c.loop-step.at c.loop-step.invariant.1 first.0) in (
      c.loop-step.at ∷ way,
      one_marked scene way c.loop-step.met.items c.meet-is_new.new.met.items c.loop-step.at c.loop-step.invariant.1 first,
      leads_to _ c.in_ok-lead.lead c.in-Leads.next c.in-Leads.fault _ c.in-Leads.is (rw (← c.in_ok-lead.ensures) at follows),
    )

pub returns : goal.returns
returns g c =
    fault_last (g.S.Scene.parts c.args.scene.now) c.args.values.now c.count-count.result c.loop-step._step c.loop-step.invariant.0 c.loop-step.at c.loop-step.told _
    c.loop-step.invariant.2 c.loop-step-test.false
