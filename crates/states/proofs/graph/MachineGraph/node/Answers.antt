use Rattle.std.proofs.Common.{◌≡◌, ◌<◌, ℕ, List, [], ◌∷◌, ◌++◌, length, map, take, arith, ap, sym, ◌∙◌}
use Rattle.std.specs.Prelude.{Some}
use Rattle.std.proofs.lemmas.List.{take_more, take_all, map-append, length-map}
use Rattle.cheri_model.specs.steps.Hart.{HartState}
use Rattle.cheri_model.specs.runs.Image.{ImageParts}
use Rattle.cheri_model.specs.runs.Machine.{MachineState}
use Rattle.explore_turns.specs.Turns.{rest_of}
use Rattle.states.specs.Graphs.{rests_in}
use Rattle.state_store.specs.Stores.{state_of}
use Rattle.state_store.proofs.SeenLemmas.{seen_count}
use Rattle.states.proofs.NodeLemmas.{state_made, continues_on, rests_kept}
use Rattle.states.proofs.RowLemmas.{row_begun, row_pushed}
use Rattle.states.proofs.graph.MachineGraph.node.Goals as goal

pub loop-hart-init : goal.loop-hart-init
loop-hart-init c = record {
  continues = c.number_memory.ensures.continues;
  row = ap (state_of c.number_memory.new.self.store) (c.in_ok-push.ensures.items
      ∙ ap (λ (l : List ℕ). l ++ c.in_ok-memory.memory ∷ []) c.in_ok-node.ensures.items)
      ∙ row_begun c.number_memory.new.self.store c.in_ok-memory.memory c.args.ram.now c.in_ok-memory.ensures.numbered;
}

pub loop-hart-preserved : goal.loop-hart-preserved
loop-hart-preserved c =
    let below : c.loop-hart.hart-index < length c.args.harts.now = c.loop-hart-test.true in
    let rests = rests_in c.args.self.now in
    let more = take_more c.args.harts.now c.loop-hart.hart-index c.hart-item.result below in
    record {
      continues = continues_on c.args.self.now c.loop-hart.self c.number_hart.new.self c.loop-hart.invariant.continues
          c.number_hart.ensures.continues;
      row = ap (state_of c.number_hart.new.self.store) c.in_ok-push-2.ensures.items
          ∙ (row_pushed c.loop-hart.self.store c.number_hart.new.self.store c.number_hart.ensures.continues.keeps c.loop-hart.node.items
          (map rests (take c.loop-hart.hart-index c.args.harts.now)) c.args.ram.now c.in_ok-number.number (rests c.hart-item.result)
          c.loop-hart.invariant.row (c.in_ok-number.ensures.numbered
          ∙ ap (λ (f : HartState → HartState). Some (f c.hart-item.result)) (rests_kept c.args.self.now c.loop-hart.self c.loop-hart.invariant.continues))
          ∙ ap (λ (hs : List HartState). Some (record { harts = hs; memory = c.args.ram.now }))
          (sym (map-append rests (take c.loop-hart.hart-index c.args.harts.now) (c.hart-item.result ∷ []))
          ∙ ap (λ (hs : List HartState). map rests hs)
          (ap (λ (h : HartState). take c.loop-hart.hart-index c.args.harts.now ++ h ∷ []) c.hart-item.is ∙ sym more)));
    }

pub returns-clause-node : goal.returns-clause-node
unfolding rest_of
returns-clause-node c =
    let all = take_all c.loop-hart.hart-index c.args.harts.now c.loop-hart-test.false in
    let rests = rests_in c.args.self.now in
    let state : MachineState = record { harts = map rests c.args.harts.now; memory = c.args.ram.now } in
    let row : state_of c.loop-hart.self.store c.loop-hart.node.items ≡ Some state =
    c.loop-hart.invariant.row ∙ ap (λ (hs : List HartState). Some (record { harts = hs; memory = c.args.ram.now })) (ap (λ (hs : List HartState). map rests hs) all) in
    let count = seen_count c.loop-hart.self.store c.loop-hart.node.items state row in
    let mapped = length-map c.args.harts.now rests in
    let harts = c.requires.harts in
    let same : length c.loop-hart.self.image.harts ≡ length c.args.self.now.image.harts =
    ap (λ (i : ImageParts). length i.harts) c.loop-hart.invariant.continues.image in
    state_made c.loop-hart.self c.loop-hart.node.items state (omega arith) row
