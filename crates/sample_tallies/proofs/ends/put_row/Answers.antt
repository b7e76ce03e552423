use Rattle.std.proofs.Common.{◌<◌, ℕ, List, [], ◌∷◌, ◌++◌, length, take, refl, ap, sym, ◌∙◌}
use Rattle.std.specs.Prelude.{Some}
use Rattle.std.proofs.lemmas.List.{take_more, take_all}
use Rattle.cheri_model.specs.steps.Hart.{HartState}
use Rattle.state_store.specs.Stores.{state_of}
use Rattle.state_store.proofs.StoreLemmas.{keeps_self, keeps_on}
use Rattle.states.proofs.RowLemmas.{row_begun, row_pushed}
use Rattle.sample_tallies.proofs.ends.put_row.Goals as goal

pub loop-hart-init : goal.loop-hart-init
loop-hart-init c = record {
  kept = keeps_self c.args.numbering.now.store;
  opening = refl;
  row = λ m at.
      ap (state_of c.args.numbering.now.store) (c.in_ok-push.ensures.items
      ∙ ap (λ (l : List ℕ). l ++ c.args.memory ∷ []) c.clear.ensures.items)
      ∙ row_begun c.args.numbering.now.store c.args.memory m at;
}

pub loop-hart-preserved : goal.loop-hart-preserved
loop-hart-preserved c =
    let before = c.loop-hart.numbering.store in
    let after = c.number_hart.new.self.store in
    let below : c.loop-hart.hart-index < length c.args.harts.now = c.loop-hart-test.true in
    let more = take_more c.args.harts.now c.loop-hart.hart-index c.hart-item.result below in
    record {
      kept = keeps_on c.args.numbering.now.store before after c.loop-hart.invariant.kept c.number_hart.ensures.kept;
      opening = c.number_hart.ensures.opening ∙ c.loop-hart.invariant.opening;
      row = λ m at.
          ap (state_of after) c.in_ok-push-2.ensures.items
          ∙ row_pushed before after c.number_hart.ensures.kept c.loop-hart.row.items
          (take c.loop-hart.hart-index c.args.harts.now) m c.in_ok-number.number c.hart-item.result
          (c.loop-hart.invariant.row m at) c.in_ok-number.ensures.numbered
          ∙ ap (λ (hs : List HartState). Some (record { harts = hs; memory = m }))
          (ap (λ (h : HartState). take c.loop-hart.hart-index c.args.harts.now ++ h ∷ []) c.hart-item.is ∙ sym more);
    }

pub returns-clause-state : goal.returns-clause-state
returns-clause-state c m at =
    let all = take_all c.loop-hart.hart-index c.args.harts.now c.loop-hart-test.false in
    c.loop-hart.invariant.row m at ∙ ap (λ (hs : List HartState). Some (record { harts = hs; memory = m })) all
