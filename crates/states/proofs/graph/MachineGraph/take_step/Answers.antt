use Rattle.std.proofs.Common.{◌≡◌, ◌<◌, length, arith, ap, sym, ◌∙◌, subst}
use Rattle.std.specs.Prelude.{Some, slice_get, true}
use Rattle.std.proofs.lemmas.Option.{same_Some}
use Rattle.cheri_model.specs.steps.Hart.{HartState}
use Rattle.cheri_model.specs.steps.HartStep.{Stepped, hart_step}
use Rattle.cheri_model.specs.steps.Memory.{store_capability}
use Rattle.cheri_model.specs.runs.Machine.{is_running}
use Rattle.state_store.specs.Stores.{hart_at}
use Rattle.states.specs.Graphs.{GraphParts}
use Rattle.states.specs.Locals.{local_step, local_value}
use Rattle.explore_turns.specs.Turns.{resting}
use Rattle.states.proofs.KeepLemmas.{granules_some}
use Rattle.states.proofs.NodeLemmas.{site_there}
use Rattle.states.proofs.TakenLemmas.{granule_fits, site_known, taken_by}
use Rattle.states.proofs.graph.MachineGraph.take_step.Goals as goal

pub index-site-requires : goal.index-site-requires
index-site-requires c =
    let h = c.requires.hart in
    let there : hart_at c.self.inside.store c.args.hart ≡ Some h.0 =
    ap (λ (g : GraphParts). hart_at g.store c.args.hart) c.self.view_is ∙ h.1 in
    let within = (site_there c.self.inside.image.program (resting c.self.inside.image c.self.inside.sweeps.items c.self.inside.sight) c.self.inside.store c.self.inside.sites.items c.self.inside.steps c.args.hart h.0 c.self.invariant.tabled there).0 in
    omega (arith, within, c.self.inside.sites.ok.0)

pub store_cap-requires : goal.store_cap-requires
store_cap-requires c =
    let h = c.requires.hart in
    let there : hart_at c.self.inside.store c.args.hart ≡ Some h.0 =
    ap (λ (g : GraphParts). hart_at g.store c.args.hart) c.self.view_is ∙ h.1 in
    let some = granules_some c.self.inside.image c.self.inside.sweeps.items c.self.inside.sight c.self.inside.store c.self.inside.sites.items
    c.self.inside.steps c.self.inside.ram c.self.inside.row.items c.self.invariant in
    let known = site_known c.self.inside.image.program (resting c.self.inside.image c.self.inside.sweeps.items c.self.inside.sight) c.self.inside.store c.self.inside.sites.items c.self.inside.steps c.args.hart h.0 c.index-site.result.now c.self.invariant.tabled some there h.2 c.index-site.ensures in
    let size = c.self.invariant.ram_size in
    let low = known.1 in
    let within : c.index-site.result.now < length c.self.inside.ram = omega arith in
    granule_fits c.self.inside.ram c.index-site.result.now c.granule_address-addr.result within c.granule_address-addr.ensures

pub granule-requires : goal.granule-requires
granule-requires c =
    let h = c.requires.hart in
    let there : hart_at c.self.inside.store c.args.hart ≡ Some h.0 =
    ap (λ (g : GraphParts). hart_at g.store c.args.hart) c.self.view_is ∙ h.1 in
    let some = granules_some c.self.inside.image c.self.inside.sweeps.items c.self.inside.sight c.self.inside.store c.self.inside.sites.items
    c.self.inside.steps c.self.inside.ram c.self.inside.row.items c.self.invariant in
    let known = site_known c.self.inside.image.program (resting c.self.inside.image c.self.inside.sweeps.items c.self.inside.sight) c.self.inside.store c.self.inside.sites.items c.self.inside.steps c.args.hart h.0 c.index-site.result.now c.self.invariant.tabled some there h.2 c.index-site.ensures in
    let same : c.load_hart.new.hart ≡ h.0 = same_Some c.load_hart.new.hart h.0 (sym c.load_hart.ensures ∙ there) in
    let after : Stepped = record { hart = c.step.new.hart; memory = c.step.new.ram; outcome = c.step.result } in
    let taken = taken_by c.self.inside.image.program c.program.result.now (resting c.self.inside.image c.self.inside.sweeps.items c.self.inside.sight) c.self.inside.store c.self.inside.sites.items
    c.self.inside.steps c.self.inside.ram c.store_cap.new.self c.args.hart h.0 c.of_value-granule.result
    c.index-site.result.now c.granule_address-addr.result after c.self.invariant.tabled some c.self.invariant.ram_size there h.2
    c.index-site.ensures c.granule_address-addr.ensures c.program.ensures c.store_cap.ensures
    (ap (λ (k : HartState). hart_step c.program.result.now k c.store_cap.new.self) (sym same) ∙ c.step.ensures.value) in
    let size = taken.size in
    let low = known.1 in
    omega arith

pub invariant_of-self : goal.invariant_of-self
invariant_of-self c =
    let h = c.requires.hart in
    let there : hart_at c.self.inside.store c.args.hart ≡ Some h.0 =
    ap (λ (g : GraphParts). hart_at g.store c.args.hart) c.self.view_is ∙ h.1 in
    let some = granules_some c.self.inside.image c.self.inside.sweeps.items c.self.inside.sight c.self.inside.store c.self.inside.sites.items
    c.self.inside.steps c.self.inside.ram c.self.inside.row.items c.self.invariant in
    let same : c.load_hart.new.hart ≡ h.0 = same_Some c.load_hart.new.hart h.0 (sym c.load_hart.ensures ∙ there) in
    let after : Stepped = record { hart = c.step.new.hart; memory = c.step.new.ram; outcome = c.step.result } in
    let taken = taken_by c.self.inside.image.program c.program.result.now (resting c.self.inside.image c.self.inside.sweeps.items c.self.inside.sight) c.self.inside.store c.self.inside.sites.items
    c.self.inside.steps c.self.inside.ram c.store_cap.new.self c.args.hart h.0 c.of_value-granule.result
    c.index-site.result.now c.granule_address-addr.result after c.self.invariant.tabled some c.self.invariant.ram_size there h.2
    c.index-site.ensures c.granule_address-addr.ensures c.program.ensures c.store_cap.ensures
    (ap (λ (k : HartState). hart_step c.program.result.now k c.store_cap.new.self) (sym same) ∙ c.step.ensures.value) in
    let was = c.self.invariant in
    record {
      formed = was.formed;
      few = was.few;
      granules = was.granules;
      ram_size = taken.size;
      row_size = was.row_size;
      tabled = was.tabled;
    }

pub returns-clause-hart : goal.returns-clause-hart
returns-clause-hart c h v is known =
    let there : hart_at c.self.inside.store c.args.hart ≡ Some h =
    ap (λ (g : GraphParts). hart_at g.store c.args.hart) c.self.view_is ∙ is in
    let runs : is_running h.status ≡ true =
    subst (λ (k : HartState). is_running k.status ≡ true) (same_Some c.requires.hart.0 h (sym c.requires.hart.1 ∙ is)) c.requires.hart.2 in
    let some = granules_some c.self.inside.image c.self.inside.sweeps.items c.self.inside.sight c.self.inside.store c.self.inside.sites.items
    c.self.inside.steps c.self.inside.ram c.self.inside.row.items c.self.invariant in
    let same : c.load_hart.new.hart ≡ h = same_Some c.load_hart.new.hart h (sym c.load_hart.ensures ∙ there) in
    let value : c.of_value-granule.result ≡ v =
    c.of_value-granule.ensures ∙ same_Some c.value.result v (sym c.value.ensures
    ∙ (ap (λ (g : GraphParts). slice_get g.store.values c.args.value) c.self.view_is ∙ known)) in
    let after : Stepped = record { hart = c.step.new.hart; memory = c.step.new.ram; outcome = c.step.result } in
    let taken = taken_by c.self.inside.image.program c.program.result.now (resting c.self.inside.image c.self.inside.sweeps.items c.self.inside.sight) c.self.inside.store c.self.inside.sites.items
    c.self.inside.steps c.self.inside.ram c.store_cap.new.self c.args.hart h v
    c.index-site.result.now c.granule_address-addr.result after c.self.invariant.tabled some c.self.invariant.ram_size there runs
    c.index-site.ensures c.granule_address-addr.ensures c.program.ensures
    (c.store_cap.ensures ∙ ap (store_capability c.self.inside.ram c.granule_address-addr.result) value)
    (ap (λ (k : HartState). hart_step c.program.result.now k c.store_cap.new.self) (sym same) ∙ c.step.ensures.value) in
    taken.hart ∙ ap (λ (g : GraphParts). (local_step g.image.program g.store.granules h v).hart) c.self.view_is

pub returns-clause-value : goal.returns-clause-value
returns-clause-value c h v is known =
    let there : hart_at c.self.inside.store c.args.hart ≡ Some h =
    ap (λ (g : GraphParts). hart_at g.store c.args.hart) c.self.view_is ∙ is in
    let runs : is_running h.status ≡ true =
    subst (λ (k : HartState). is_running k.status ≡ true) (same_Some c.requires.hart.0 h (sym c.requires.hart.1 ∙ is)) c.requires.hart.2 in
    let some = granules_some c.self.inside.image c.self.inside.sweeps.items c.self.inside.sight c.self.inside.store c.self.inside.sites.items
    c.self.inside.steps c.self.inside.ram c.self.inside.row.items c.self.invariant in
    let same : c.load_hart.new.hart ≡ h = same_Some c.load_hart.new.hart h (sym c.load_hart.ensures ∙ there) in
    let value : c.of_value-granule.result ≡ v =
    c.of_value-granule.ensures ∙ same_Some c.value.result v (sym c.value.ensures
    ∙ (ap (λ (g : GraphParts). slice_get g.store.values c.args.value) c.self.view_is ∙ known)) in
    let after : Stepped = record { hart = c.step.new.hart; memory = c.step.new.ram; outcome = c.step.result } in
    let taken = taken_by c.self.inside.image.program c.program.result.now (resting c.self.inside.image c.self.inside.sweeps.items c.self.inside.sight) c.self.inside.store c.self.inside.sites.items
    c.self.inside.steps c.self.inside.ram c.store_cap.new.self c.args.hart h v
    c.index-site.result.now c.granule_address-addr.result after c.self.invariant.tabled some c.self.invariant.ram_size there runs
    c.index-site.ensures c.granule_address-addr.ensures c.program.ensures
    (c.store_cap.ensures ∙ ap (store_capability c.self.inside.ram c.granule_address-addr.result) value)
    (ap (λ (k : HartState). hart_step c.program.result.now k c.store_cap.new.self) (sym same) ∙ c.step.ensures.value) in
    c.value-2.ensures.value ∙ (c.granule.ensures.value
    ∙ (taken.value ∙ ap (λ (g : GraphParts). local_value g.image.program g.store.granules h v) c.self.view_is))
