use Rattle.std.proofs.Common.{◌≡◌, ◌*◌, List, ap, sym, ◌∙◌, subst, arith, length}
use Rattle.std.specs.Prelude.{true}
use Rattle.cap_model.specs.values.CapValue.{CapValue}
use Rattle.cheri_model.specs.runs.Image.{ImageParts}
use Rattle.cheri_model.specs.runs.ImageRules.{is_image}
use Rattle.cheri_model.specs.runs.Machine.{MachineState, opening_state}
use Rattle.hart.specs.View.{state_of}
use Rattle.state_store.specs.Stores.{Stored}
use Rattle.states.proofs.OpeningLemmas.{opening_granules, opening_harts}
use Rattle.granule_states.specs.Graphs.{GranuleParts}
use Rattle.granule_states.specs.Owned.{IsSearchOf}
use Rattle.granule_states.proofs.OwnedLemmas.{owned_by, search_learned, search_sizes}
use Rattle.granule_states.proofs.kept.search_with.Goals as goal

pub note_nodes-requires-clause-few : goal.note_nodes-requires-clause-few
note_nodes-requires-clause-few g c =
    (search_sizes c.args.search.now.image.now c.args.sees.now c.in_ok-graph.graph c.in_ok-graph.reached
    c.args.search.now.limit c.granules-granules.ensures.formed c.in_ok-graph.ensures).short

pub note_nodes-requires-clause-meant : goal.note_nodes-requires-clause-meant
note_nodes-requires-clause-meant g c =
    (search_sizes c.args.search.now.image.now c.args.sees.now c.in_ok-graph.graph c.in_ok-graph.reached
    c.args.search.now.limit c.granules-granules.ensures.formed c.in_ok-graph.ensures).meant

-- what was noted changes nothing of the search
pub are_owned-requires : goal.are_owned-requires
are_owned-requires g c =
    let image = c.args.search.now.image.now in
    let formed = c.granules-granules.ensures.formed in
    let opening : state_of c.view-view.result ≡ opening_state image = c.view-view.ensures.state ∙ c.requires.opening in
    let searched : IsSearchOf image c.args.sees.now c.note_nodes.new.self c.in_ok-graph.reached c.args.search.now.limit =
    subst (λ (h : GranuleParts). IsSearchOf image c.args.sees.now h c.in_ok-graph.reached c.args.search.now.limit)
    (sym c.note_nodes.ensures) c.in_ok-graph.ensures in
    let sizes = search_sizes image c.args.sees.now c.note_nodes.new.self c.in_ok-graph.reached c.args.search.now.limit formed searched in
    let sixteen : 16 * length c.view-view.result.ram.now ≡ image.ram =
    ap (λ (v : List CapValue). 16 * length v) (ap (λ (s : MachineState). s.memory) opening) ∙ opening_granules image formed in
    let also = ap (λ (i : ImageParts). i.ram) searched.image_is in
    let count = ap (λ (st : Stored). st.granules) c.store-store.ensures.store in
    let size = c.store-store.ensures.size in
    record {
      harts = ap (λ (s : MachineState). length s.harts) opening
          ∙ (opening_harts image ∙ ap (λ (i : ImageParts). length i.harts) (sym searched.image_is));
      size = omega (arith, sixteen, also, count, size);
      few_harts = sizes.harts_few;
      few = sizes.short;
      meant = sizes.meant;
    }

pub invariant_of-result : goal.invariant_of-result
invariant_of-result g c =
    let image = c.args.search.now.image.now in
    let limit = c.args.search.now.limit in
    let opening : state_of c.view-view.result ≡ opening_state image = c.view-view.ensures.state ∙ c.requires.opening in
    let before : IsSearchOf image c.args.sees.now c.note_nodes.new.self c.in_ok-graph.reached limit =
    subst (λ (h : GranuleParts). IsSearchOf image c.args.sees.now h c.in_ok-graph.reached limit) (sym c.note_nodes.ensures)
    c.in_ok-graph.ensures in
    let m = search_learned image c.args.sees.now c.note_nodes.new.self c.are_owned.new.self c.in_ok-graph.reached limit
    c.are_owned.ensures.learns before in
    record {
      formed = subst (λ (i : ImageParts). is_image i ≡ true) (sym m.image_is) c.granules-granules.ensures.formed;
      search = m.search;
      wide = m.wide;
      respected = λ holds. (
        c.in_ok-owned.ensures.complete holds,
        owned_by image c.args.sees.now c.note_nodes.new.self c.are_owned.new.self (state_of c.view-view.result)
            c.in_ok-graph.reached limit before opening c.are_owned.ensures.learns (c.in_ok-owned.ensures.complete holds)
            (c.in_ok-owned.ensures.owned holds),
      );
    }

pub returns-clause-image : goal.returns-clause-image
returns-clause-image g c =
    c.are_owned.ensures.learns.graph.image
    ∙ (ap (λ (h : GranuleParts). h.graph.image) c.note_nodes.ensures ∙ c.in_ok-graph.ensures.image_is)

pub returns-clause-sight : goal.returns-clause-sight
returns-clause-sight g c =
    c.are_owned.ensures.learns.sight ∙ (ap (λ (h : GranuleParts). h.sight) c.note_nodes.ensures ∙ c.in_ok-graph.ensures.sight_is)
