use Rattle.std.proofs.Common.{◌≡◌, ◌<◌, ◌≤◌, ap, sym, ◌∙◌, subst, ℕ, List}
use Rattle.std.specs.Prelude.{nat_lt, length, take, ◌-◌, if◌then◌else◌}
use Rattle.cap_model.specs.values.CapValue.{CapValue}
use Rattle.states.specs.Graphs.{IsGraph}
use Rattle.cheri_model.specs.declared.instr.Instr.{Instr}
use Rattle.cheri_model.specs.steps.Hart.{HartState}
use Rattle.explore_sights.specs.Sights.{hides}
use Rattle.explore_turns.specs.QuietSteps.{rest}
use Rattle.explore_turns.specs.Turns.{resting}
use Rattle.explore_turns.proofs.RestLemmas.{rest_twice}
use Rattle.schedules.specs.declared.ranges.SweepRange.{SweepRange}
use Rattle.states.specs.Locals.{site_of}
use Rattle.states.proofs.KeepLemmas.{granules_some, granules_few, graph_numbered}
use Rattle.states.proofs.graph.MachineGraph.number_hart.Goals as goal

pub site_of-site-requires-clause-some : goal.site_of-site-requires-clause-some
site_of-site-requires-clause-some c =
    subst (λ (n : ℕ). 0 < n) (sym c.granules.ensures.count)
    (granules_some c.self.inside.image c.self.inside.sweeps.items c.self.inside.sight c.self.inside.store c.self.inside.sites.items
    c.self.inside.steps c.self.inside.ram c.self.inside.row.items c.self.invariant)

pub site_of-site-requires-clause-few : goal.site_of-site-requires-clause-few
site_of-site-requires-clause-few c =
    subst (λ (n : ℕ). n ≤ 65536) (sym c.granules.ensures.count)
    (granules_few c.self.inside.image c.self.inside.sweeps.items c.self.inside.sight c.self.inside.store c.self.inside.sites.items
    c.self.inside.steps c.self.inside.ram c.self.inside.row.items c.self.invariant)

pub invariant_of-self-2 : goal.invariant_of-self-2
invariant_of-self-2 c =
    subst (λ (ram : List CapValue). IsGraph c.self.inside.image c.self.inside.sweeps.items c.self.inside.sight
    c.number_hart-number.new.self c.keep_last_if.new.items.items c.self.inside.steps ram
    c.self.inside.row.items) (sym c.rest-hart.ensures.ram)
    (graph_numbered c.self.inside.image c.self.inside.sweeps.items c.self.inside.sight c.self.inside.store c.self.inside.sites.items
    c.self.inside.steps c.self.inside.ram c.self.inside.row.items c.self.invariant
    c.number_hart-number.new.self c.keep_last_if.new.items.items c.rest-hart.result c.number_hart-number.result c.site_of-site.result
    (nat_lt c.hart_count-before.result c.hart_count.result) c.number_hart-number.ensures.kept
    (c.site_of-site.ensures ∙ (ap (λ (p : List Instr). site_of p c.granules.result c.rest-hart.result) c.program-2.ensures
    ∙ ap (λ (n : ℕ). site_of c.self.inside.image.program n c.rest-hart.result) c.granules.ensures.count))
    (subst (λ (h : HartState). resting c.self.inside.image c.self.inside.sweeps.items c.self.inside.sight h ≡ h)
    (sym (c.rest-hart.ensures.value
    ∙ (ap (λ (p : List Instr). rest p c.as_slice.result.now (hides c.self.inside.sight) 1000 c.args.hart.now) c.program.ensures
    ∙ ap (λ (ss : List SweepRange). rest c.self.inside.image.program ss (hides c.self.inside.sight) 1000 c.args.hart.now)
    c.as_slice.ensures.value)))
    (rest_twice c.self.inside.image.program c.self.inside.sweeps.items (hides c.self.inside.sight) 1000 c.args.hart.now))
    (ap (λ (n : ℕ). nat_lt n c.hart_count.result) c.hart_count-before.ensures
    ∙ ap (λ (n : ℕ). nat_lt (length c.self.inside.store.harts) n) c.hart_count.ensures)
    c.number_hart-number.ensures.numbered c.number_hart-number.ensures.added c.number_hart-number.ensures.refused
    (c.keep_last_if.ensures ∙ ap (λ (xs : List ℕ). if nat_lt c.hart_count-before.result c.hart_count.result then xs
    else take (length xs - 1) xs) c.in_ok-push.ensures.items))
