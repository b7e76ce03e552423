use Rattle.std.proofs.Common.{◌≡◌, ℕ, ◌<◌, List, length, arith, refl, sym, ap, ◌∙◌, subst}
use Rattle.cheri_model.specs.steps.Hart.{HartState}
use Rattle.hart_exchanges.specs.Exchanges.{exchanged_order}
use Rattle.alike_authority.specs.GroupRights.{group_values}
use Rattle.alike_authority.specs.Holders.{HasHolder, IsHolder}
use Rattle.alike_authority.proofs.ToldLemmas.{first_there, has_holder, hart_told_is, left_harts, replayed_size}
use Rattle.alike_authority.proofs.ToldLemmas.{witness_allowed, witness_legal}
use Rattle.alike_authority.proofs.told.hart_told.Goals as goal

pub order_to-requires : goal.order_to-requires
order_to-requires c = record {
  there = first_there c.args.survey.now
      (group_values c.args.groups.now c.args.hart (length c.args.survey.now.image.harts)) c.args.authority.now c.requires.held;
}

pub replayed-requires-clause-allowed : goal.replayed-requires-clause-allowed
replayed-requires-clause-allowed c =
    rw c.as_slice.ensures.value (witness_allowed c.args.survey.now c.len-count.ensures.survey c.args.authority.now
    c.in_ok-witness.witness.items (λ s there. c.in_ok-witness.ensures s there)
    (group_values c.args.groups.now c.args.hart (length c.args.survey.now.image.harts)) c.requires.held)

pub replayed-requires-clause-legal : goal.replayed-requires-clause-legal
replayed-requires-clause-legal c =
    rw (c.as_slice.ensures.value, c.image.ensures) (witness_legal c.args.survey.now c.len-count.ensures.survey
    c.args.authority.now c.in_ok-witness.witness.items (λ s there. c.in_ok-witness.ensures s there)
    (group_values c.args.groups.now c.args.hart (length c.args.survey.now.image.harts)) c.requires.held)

pub holder_of-other-requires-clause-there : goal.holder_of-other-requires-clause-there
holder_of-other-requires-clause-there c =
    let image = c.args.survey.now.image in
    let order = c.in_ok-witness.witness.items in
    let harts = left_harts image _ order _ _ c.harts.result.now c.harts.ensures c.in_ok-state.ensures c.image.ensures
    c.as_slice.ensures.value in
    subst (λ (n : ℕ). c.args.hart < n) (sym (ap length harts ∙ replayed_size image order)) c.requires.hart

pub holder_of-other-requires-clause-held : goal.holder_of-other-requires-clause-held
holder_of-other-requires-clause-held c =
    let order = c.in_ok-witness.witness.items in
    let harts = left_harts c.args.survey.now.image _ order _ _ c.harts.result.now c.harts.ensures c.in_ok-state.ensures
    c.image.ensures c.as_slice.ensures.value in
    subst (λ (hs : List HartState). HasHolder hs c.args.groups.now c.args.hart c.args.authority.now.rights) (sym harts)
    (has_holder c.args.survey.now c.len-count.ensures.survey c.args.authority.now order
    (λ s there. c.in_ok-witness.ensures s there) c.args.groups.now c.requires.whole c.args.hart c.requires.held)

pub overflow_cast-other : goal.overflow_cast-other
overflow_cast-other c =
    let image = c.args.survey.now.image in
    let order = c.in_ok-witness.witness.items in
    let harts = left_harts image _ order _ _ c.harts.result.now c.harts.ensures c.in_ok-state.ensures c.image.ensures
    c.as_slice.ensures.value in
    let count : length c.harts.result.now ≡ length image.harts = ap length harts ∙ replayed_size image order in
    let low = c.holder_of-other.ensures.inside in
    let few = c.len-count.ensures.survey.few in
    omega arith

pub returns : goal.returns
returns c =
    let order = c.in_ok-witness.witness.items in
    let harts = left_harts c.args.survey.now.image _ order _ _ c.harts.result.now c.harts.ensures c.in_ok-state.ensures
    c.image.ensures c.as_slice.ensures.value in
    let other = c.holder_of-other.result in
    hart_told_is c.args.survey.now c.len-count.ensures.survey c.args.authority.now order
    (λ s there. c.in_ok-witness.ensures s there) c.args.groups.now c.requires.whole c.args.hart c.requires.held other _
    (subst (λ (hs : List HartState). IsHolder hs c.args.groups.now c.args.hart c.args.authority.now.rights other) harts
    c.holder_of-other.ensures) refl
    (c.in_ok-order.ensures ∙ ap (exchanged_order other c.args.hart) c.as_slice-2.ensures.value)
