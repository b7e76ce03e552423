-- Rights with their orders.
use Rattle.std.proofs.Common.{◌≡◌, ℕ, ◌+◌, ◌<◌, List, [], ◌∷◌, ◌++◌, length, get_or, take, refl, sym, ap, ◌∙◌, subst}
use Rattle.std.specs.Prelude.{Option, Some, true}
use Rattle.std.proofs.lemmas.List.{take_more}
use Rattle.std.proofs.lemmas.Option.{slice_get-get_or, slice_get_within}
use Rattle.authorities.specs.Authorities.{AreGreatest, IsHeld, hart_values, memory_values}
use Rattle.authorities.specs.declared.rights.Authority.{Authority}
use Rattle.authority_texts.specs.declared.told.Told.{Told}
use Rattle.cap_model.specs.values.CapValue.{CapValue}
use Rattle.cheri_model.specs.declared.operation.Op.{Op}
use Rattle.cheri_model.specs.runs.Image.{ImageParts}
use Rattle.cheri_model.specs.runs.Machine.{MachineState, hart_at, opening_state}
use Rattle.cheri_model.specs.runs.Replay.{is_legal, replayed_state, state_after}
use Rattle.cheri_model.specs.runs.Machine.{state_after_one}
use Rattle.cheri_model.specs.steps.Hart.{HartState}
use Rattle.explore_rights.specs.Held.{Holds}
use Rattle.explore_rights.specs.declared.rights.Rights.{Rights}
use Rattle.explore_turns.proofs.TurnLemmas.{opening_count}
use Rattle.forgotten_runs.specs.ForgottenRuns.{forgotten_state}
use Rattle.forgotten_runs.proofs.OperationLemmas.{memory_kept}
use Rattle.forgotten_states.specs.Sought.{IsOrderTo}
use Rattle.forgotten_states.specs.Surveys.{IsSurvey, SurveyParts, at, count}
use Rattle.forgotten_turns.proofs.OrderLemmas.{order_leads}
use Rattle.hart_exchanges.specs.Exchanges.{AreEqual, exchanged_order, stands_for}
use Rattle.hart_exchanges.proofs.ExchangeLemmas.{order_allowed, order_holds, order_legal}
use Rattle.hart_exchanges.proofs.HoldingLemmas.{equal_so, holds_so, stands_through}
use Rattle.hart_exchanges.proofs.StayLemmas.{state_stays}
use Rattle.hart_order.specs.GroupedTurns.{machine_labels}
use Rattle.hart_regrouping.specs.Regrouping.{IsRegrouping}
use Rattle.hart_regrouping.proofs.RegroupLemmas.{regrouped_walk, regrouping_other}
use Rattle.schedules.specs.Schedules.{AreAllowed}
use Rattle.schedules.proofs.WalkLemmas.{same_harts}
use Rattle.alike_authority.specs.AlikeAuthority.{AreTold, IsHartTold, IsMemoryTold}
use Rattle.alike_authority.specs.GroupRights.{IsWhole, group_values}
use Rattle.alike_authority.specs.Holders.{HasHolder, IsHolder}
use Rattle.alike_authority.proofs.GroupLemmas.{held_member}

-- ---- one more at a time

module _ (IsOne : Authority → Told → Type 0) where
  told_more : (xs : List Authority) (ts : List Told) (a : Authority) (t : Told) → AreTold IsOne xs ts → IsOne a t →
      AreTold IsOne (xs ++ a ∷ []) (ts ++ t ∷ [])
  told_more [] [] a t are is = (is, tt)
  told_more [] (y ∷ ts) a t are is = absurd are
  told_more (x ∷ xs) [] a t are is = absurd are
  told_more (x ∷ xs) (y ∷ ts) a t are is = (are.0, told_more xs ts a t are.1 is)

  pub told_step : (list : List Authority) (i : ℕ) (d : Authority) (ts new : List Told) (t : Told) → i < length list →
      new ≡ ts ++ t ∷ [] → AreTold IsOne (take i list) ts → IsOne (get_or list i d) t → AreTold IsOne (take (i + 1) list) new
  told_step list i d ts new t within pushed are is =
      subst (λ (xs : List Authority). AreTold IsOne xs new) (sym (take_more list i d within))
      (subst (λ (us : List Told). AreTold IsOne (take i list ++ get_or list i d ∷ []) us) (sym pushed)
      (told_more (take i list) ts (get_or list i d) t are is))

-- an entry is held in the state that it names
pub held_at : (found : ℕ → Option MachineState) (values : MachineState → List CapValue) (list : List Authority) (i : ℕ)
    (d : Authority) → AreGreatest found values list → i < length list →
    IsHeld found values (get_or list i d).first (get_or list i d).rights
held_at found values list i d greatest within = (greatest.first i (get_or list i d) (slice_get-get_or list i d within)).held

-- the state that an order leaves has the image's harts
size_after : (image : ImageParts) (order : List Op) (s : MachineState) → length (state_after image s order).harts ≡ length s.harts
unfolding state_after
size_after image [] s = refl
size_after image (op ∷ order) s = size_after image order (state_after_one image s op) ∙ same_harts image s op

pub replayed_size : (image : ImageParts) (order : List Op) → length (replayed_state image order).harts ≡ length image.harts
unfolding replayed_state
replayed_size image order = size_after image order (opening_state image) ∙ opening_count image

-- ---- what an order to a node leaves

module _ (survey : SurveyParts) (is : IsSurvey survey) (node : MachineState) (order : List Op)
    (to : IsOrderTo survey.image survey.sight survey.live survey.groups node order) where
  abbrev left : MachineState
  left = replayed_state survey.image order

  pub memory_left : (r : Rights) → Holds (memory_values node) r → Holds (memory_values left) r
  memory_left r holds =
      subst (λ (m : List CapValue). Holds m r) (to.leads.1.memory ∙ memory_kept survey.live left) holds

  module _ (groups : List ℕ) (whole : IsWhole survey groups) where
    -- the node is the state that is left, with harts under numbers of their groups
    order_regroups : IsRegrouping survey.groups left node
    order_regroups =
        let walk = regrouped_walk survey.groups survey.image survey.sight survey.live to.labels node to.least.0 in
        let leads = order_leads survey.image survey.sight survey.live is.right (λ before after. is.hidden before after)
        (machine_labels survey.image survey.sight survey.live survey.groups to.labels) to.ops walk.0 to.operations walk.1 in
        let lost : forgotten_state survey.live left ≡ walk.0 =
        ap (λ (ops : List Op). forgotten_state survey.live (replayed_state survey.image ops)) to.turns ∙ leads.leads in
        let same : left ≡ walk.0 =
        sym (state_stays survey.image.program survey.live is.right (λ reg. whole.asked reg) left) ∙ lost in
        subst (λ (s : MachineState). IsRegrouping survey.groups s node) (sym same) walk.2

    -- what harts hold in the node that stand for a hart, one holds there
    pub holder_left : (hart : ℕ) (r : Rights) → length node.harts ≡ length survey.image.harts →
        Holds (group_values groups hart (length survey.image.harts) node) r → HasHolder left.harts groups hart r
    unfolding hart_at
    holder_left hart r count holds =
        let member = held_member groups hart (length survey.image.harts) node r holds in
        let back = regrouping_other survey.groups left node order_regroups in
        let low : member.0 < length node.harts = subst (λ (n : ℕ). member.0 < n) (sym count) member.1 in
        let there = holds_so survey.groups node left back member.0 r low member.3 in
        let stands : stands_for groups member.0 there.0 ≡ true =
        subst (λ (gs : List ℕ). stands_for gs member.0 there.0 ≡ true) whole.groups_are there.2 in (
          there.0,
          record {
            inside = there.1;
            alike = stands_through groups hart member.0 there.0 member.2 stands;
            holds = there.3;
          },
        )

    pub node_size : length node.harts ≡ length survey.image.harts
    node_size = order_regroups.1.0.count ∙ replayed_size survey.image order

    -- after the order with the hart in the place of this one it holds the same
    module _ (hart other : ℕ) (r : Rights) (holder : IsHolder left.harts groups hart r other) where
      other_inside : other < length survey.image.harts
      other_inside = subst (λ (n : ℕ). other < n) (replayed_size survey.image order) holder.inside

      images_equal : AreEqual survey.image.harts other hart
      images_equal = sym (equal_so survey.image.harts groups hart other (λ a b grouped. whole.equal a b grouped) holder.alike)

      pub hart_legal : is_legal survey.image (opening_state survey.image) (exchanged_order other hart order) ≡ true
      hart_legal = order_legal other hart survey.image other_inside images_equal order to.legal

      pub hart_holds : Holds (hart_values hart (replayed_state survey.image (exchanged_order other hart order))) r
      unfolding hart_at
      hart_holds = order_holds other hart survey.image other_inside images_equal order to.legal r holder.holds

-- ---- entries

module _ (survey : SurveyParts) (is : IsSurvey survey) (authority : Authority) (order : List Op)
    (leads : (s : MachineState) → at survey authority.first ≡ Some s →
    IsOrderTo survey.image survey.sight survey.live survey.groups s order) where
  -- the machine takes the order to the state that an entry names
  pub witness_allowed : (values : MachineState → List CapValue) → IsHeld (at survey) values authority.first authority.rights →
      AreAllowed [] order
  unfolding IsHeld
  witness_allowed values held = (leads held.0 held.1).allowed

  pub witness_legal : (values : MachineState → List CapValue) → IsHeld (at survey) values authority.first authority.rights →
      is_legal survey.image (opening_state survey.image) order ≡ true
  unfolding IsHeld
  witness_legal values held = (leads held.0 held.1).legal

  module _ (groups : List ℕ) (whole : IsWhole survey groups) (hart : ℕ)
      (held : IsHeld (at survey) (group_values groups hart (length survey.image.harts)) authority.first authority.rights) where
    pub has_holder : HasHolder (replayed_state survey.image order).harts groups hart authority.rights
    unfolding IsHeld
    has_holder =
        let to = leads held.0 held.1 in
        holder_left survey is held.0 order to groups whole hart authority.rights (node_size survey is held.0 order to groups whole)
        held.2

    pub hart_told_is : (other : ℕ) (told : Told) →
        IsHolder (replayed_state survey.image order).harts groups hart authority.rights other →
        told.rights ≡ authority.rights → told.order.items ≡ exchanged_order other hart order → IsHartTold survey hart authority told
    unfolding IsHeld
    hart_told_is other told holder rights made =
        let to = leads held.0 held.1 in
        record {
          rights = rights;
          node = held.0;
          there = held.1;
          witness = order;
          leads = to;
          made = (
            other,
            subst (λ (gs : List ℕ). stands_for gs hart other ≡ true) (sym whole.groups_are) holder.alike,
            made,
          );
          allowed = subst (AreAllowed []) (sym made) (order_allowed other hart [] order to.allowed);
          legal = subst (λ (os : List Op). is_legal survey.image (opening_state survey.image) os ≡ true) (sym made)
              (hart_legal survey is held.0 order to groups whole hart other authority.rights holder);
          held = subst (λ (os : List Op). Holds (hart_values hart (replayed_state survey.image os)) told.rights) (sym made)
              (subst (λ (r : Rights). Holds (hart_values hart (replayed_state survey.image (exchanged_order other hart order))) r)
              (sym rights) (hart_holds survey is held.0 order to groups whole hart other authority.rights holder));
        }

  pub memory_told_is : (told : Told) → IsHeld (at survey) memory_values authority.first authority.rights →
      told.rights ≡ authority.rights → told.order.items ≡ order → IsMemoryTold survey authority told
  unfolding IsHeld
  memory_told_is told held rights made =
      let to = leads held.0 held.1 in
      record {
        rights = rights;
        node = held.0;
        there = held.1;
        witness = order;
        leads = to;
        made = made;
        allowed = subst (AreAllowed []) (sym made) to.allowed;
        legal = subst (λ (os : List Op). is_legal survey.image (opening_state survey.image) os ≡ true) (sym made) to.legal;
        held = subst (λ (os : List Op). Holds (memory_values (replayed_state survey.image os)) told.rights) (sym made)
            (subst (λ (r : Rights). Holds (memory_values (replayed_state survey.image order)) r) (sym rights)
            (memory_left survey is held.0 order to authority.rights held.2));
      }

-- the harts of a state that an order leaves, by what is known of each part
pub left_harts : (image own : ImageParts) (order os : List Op) (state : MachineState) (harts : List HartState) →
    harts ≡ state.harts → state ≡ replayed_state own os → own ≡ image → os ≡ order →
    harts ≡ (replayed_state image order).harts
left_harts image own order os state harts one two three four =
    one ∙ ap (λ (s : MachineState). s.harts)
    (two ∙ (ap (λ (i : ImageParts). replayed_state i os) three ∙ ap (replayed_state image) four))

-- the state that an entry names is there
pub first_there : (survey : SurveyParts) (values : MachineState → List CapValue) (authority : Authority) →
    IsHeld (at survey) values authority.first authority.rights → authority.first < count survey
unfolding IsHeld
first_there survey values authority held = slice_get_within survey.states authority.first held.0 held.1
