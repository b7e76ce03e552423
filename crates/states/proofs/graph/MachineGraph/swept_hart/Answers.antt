use Rattle.std.proofs.Common.{◌≡◌, ℕ, Some, ap, sym, ◌∙◌, subst}
use Rattle.std.proofs.lemmas.Option.{same_Some}
use Rattle.std.proofs.lemmas.Result.{IfOk-weaker}
use Rattle.cheri_model.specs.steps.Hart.{HartState}
use Rattle.cheri_model.specs.runs.Sweeps.{cleared_in_hart, swept_hart}
use Rattle.explore_turns.proofs.RestLemmas.{swept_whole}
use Rattle.state_store.specs.Stores.{hart_at}
use Rattle.states.specs.Graphs.{GraphParts, IsGraph, rests_in}
use Rattle.states.proofs.NodeLemmas.{hart_rests}
use Rattle.states.proofs.graph.MachineGraph.swept_hart.Goals as goal

pub returns-then-sweep-eq0-clause-numbered : goal.returns-then-sweep-eq0-clause-numbered
returns-then-sweep-eq0-clause-numbered c h is =
    let g : GraphParts = c.args.self.now in
    let inv = subst (λ (p : GraphParts). IsGraph p.image p.sweeps p.sight p.store c.self.inside.sites.items c.self.inside.steps c.self.inside.ram c.self.inside.row.items) c.self.view_is c.self.invariant in
    let loaded : c.load_hart.new.hart ≡ h =
    same_Some c.load_hart.new.hart h (sym c.load_hart.ensures
    ∙ (ap (λ (p : GraphParts). hart_at p.store c.args.hart) c.self.view_is ∙ is)) in
    let none : cleared_in_hart c.args.range.lo c.args.range.hi h ≡ 0 =
    ap (cleared_in_hart c.args.range.lo c.args.range.hi) (sym loaded) ∙ (sym c.sweep.ensures.cleared ∙ c.if-sweep-eq0.true) in
    is ∙ ap (λ (k : HartState). Some k)
    (sym (ap (rests_in g) (swept_whole c.args.range.lo c.args.range.hi h none)
    ∙ hart_rests g.image.program (rests_in g) g.store c.self.inside.sites.items c.self.inside.steps
    c.args.hart h inv.tabled is))

pub returns-clause-numbered : goal.returns-clause-numbered
returns-clause-numbered c =
    IfOk-weaker c.number_hart.result (λ (id : ℕ). hart_at c.number_hart.new.self.store id ≡ Some (rests_in c.args.self.now c.sweep.new.self))
    (λ (id : ℕ). (h : HartState) → hart_at c.args.self.now.store c.args.hart ≡ Some h →
    hart_at c.number_hart.new.self.store id ≡ Some (rests_in c.args.self.now (swept_hart c.args.range.lo c.args.range.hi h)))
    (λ id there h is.
    there ∙ ap (λ (k : HartState). Some (rests_in c.args.self.now k)) (c.sweep.ensures.hart
    ∙ ap (swept_hart c.args.range.lo c.args.range.hi) (same_Some c.load_hart.new.hart h (sym c.load_hart.ensures
    ∙ (ap (λ (g : GraphParts). hart_at g.store c.args.hart) c.self.view_is ∙ is)))))
    c.number_hart.ensures.numbered
