use Rattle.std.proofs.Common.{◌≡◌, ℕ, ◌*◌, ap, sym, ◌∙◌, subst}
use Rattle.std.specs.Prelude.{true, false}
use Rattle.cheri_model.specs.runs.Image.{ImageParts}
use Rattle.cheri_model.specs.runs.Machine.{hart_at, is_running}
use Rattle.cheri_model.specs.steps.Hart.{HartState}
use Rattle.state_store.specs.Stores.{Stored}
use Rattle.granule_states.specs.Accesses.{IsAsked}
use Rattle.granule_states.specs.Graphs.{GranuleParts}
use Rattle.granule_states.proofs.RowLemmas.{asked_of, granules_of, loaded_is, place_within, some_loaded}
use Rattle.granule_states.proofs.graph.GranuleGraph.access.Goals as goal

pub bounds-row-hart : goal.bounds-row-hart
bounds-row-hart c = place_within c.args.self.now.graph c.args.row.now c.args.hart c.requires.meant c.requires.hart

pub load_hart-requires : goal.load_hart-requires
load_hart-requires c =
    some_loaded c.args.self.now.graph c.store.result.now c.args.row.now c.args.hart c.requires.meant c.requires.hart c.store.ensures.store

pub returns-then-not-runs : goal.returns-then-not-runs
returns-then-not-runs c s is =
    let loaded = loaded_is c.args.self.now.graph c.store.result.now c.args.row.now s c.args.hart c.load_hart.new.hart is
    c.requires.hart c.store.ensures.store c.load_hart.ensures in
    let stops : is_running c.load_hart.new.hart.status ≡ false = cc in
    subst (λ (h : HartState). is_running h.status ≡ false) loaded stops

pub access_of-requires-clause-some : goal.access_of-requires-clause-some
access_of-requires-clause-some c =
    (granules_of c.self.inside.graph.image c.self.inside.graph.store.granules c.granules-granules-2.result
    c.self.invariant.formed c.self.invariant.granules
    (c.granules-granules-2.ensures.count ∙ ap (λ (st : Stored). st.granules)
    (c.store-2.ensures.store ∙ sym (ap (λ (p : GranuleParts). p.graph.store) c.self.view_is)))).some

pub access_of-requires-clause-few : goal.access_of-requires-clause-few
access_of-requires-clause-few c =
    (granules_of c.self.inside.graph.image c.self.inside.graph.store.granules c.granules-granules-2.result
    c.self.invariant.formed c.self.invariant.granules
    (c.granules-granules-2.ensures.count ∙ ap (λ (st : Stored). st.granules)
    (c.store-2.ensures.store ∙ sym (ap (λ (p : GranuleParts). p.graph.store) c.self.view_is)))).few

pub returns : goal.returns
returns c s is =
    let loaded = loaded_is c.args.self.now.graph c.store.result.now c.args.row.now s c.args.hart c.load_hart.new.hart is
    c.requires.hart c.store.ensures.store c.load_hart.ensures in
    let count : c.granules-granules-2.result ≡ c.self.inside.graph.store.granules =
    c.granules-granules-2.ensures.count ∙ ap (λ (st : Stored). st.granules)
    (c.store-2.ensures.store ∙ sym (ap (λ (p : GranuleParts). p.graph.store) c.self.view_is)) in
    let size = c.self.invariant.granules in
    let asked = asked_of c.self.inside.graph.image c.program.result.now c.granules-granules-2.result c.load_hart.new.hart
    (hart_at s c.args.hart) c.access_of.result
    (c.program.ensures ∙ ap (λ (i : ImageParts). i.program) c.image-2.ensures)
    (ap (λ (n : ℕ). 16 * n) count ∙ size) loaded (let runs : is_running c.load_hart.new.hart.status ≡ true = cc in runs)
    c.access_of.ensures.asks c.access_of.ensures.granule c.access_of.ensures.stores in
    subst (λ (p : GranuleParts). IsAsked p.graph.image (hart_at s c.args.hart) c.access_of.result) c.self.view_is asked
