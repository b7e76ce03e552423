-- Where all nodes were kept, no order gives more.
use Rattle.std.proofs.Common.{◌≡◌, ℕ, ◌<◌, List, [], length, sym, ◌∙◌, subst}
use Rattle.std.specs.Prelude.{true, false}
use Rattle.std.proofs.lemmas.List.{length-map}
use Rattle.authorities.specs.Authorities.{AreGreatest, IsHeld, hart_values, memory_values}
use Rattle.authorities.specs.declared.rights.Authority.{Authority}
use Rattle.authority_texts.specs.Answers.{AreBounds}
use Rattle.authority_texts.proofs.RestLemmas.{hart_rests}
use Rattle.cap_model.specs.values.CapValue.{CapValue}
use Rattle.cheri_model.specs.declared.operation.Op.{Op}
use Rattle.cheri_model.specs.runs.Machine.{MachineState, opening_state}
use Rattle.cheri_model.specs.runs.Replay.{is_legal, replayed_state}
use Rattle.explore_rights.specs.Held.{Holds}
use Rattle.explore_rights.proofs.RightsLemmas.{within_trans}
use Rattle.explore_sights.specs.declared.sights.Sight.TheVariants as sight
use Rattle.explore_turns.specs.Turns.{resting, rest_by, rest_of}
use Rattle.forgotten_states.specs.Surveys.{IsSurvey, SurveyParts, at}
use Rattle.graph_search.specs.Trees.{IsFound}
use Rattle.hart_exchanges.proofs.HoldingLemmas.{holds_so}
use Rattle.hart_exchanges.proofs.StayLemmas.{state_stays}
use Rattle.hart_regrouping.specs.Regrouping.{IsRegrouping}
use Rattle.hart_regrouping.proofs.RegroupLemmas.{regrouped_reached}
use Rattle.live_registers.specs.RegisterSets.{has}
use Rattle.schedules.specs.Schedules.{AreAllowed}
use Rattle.states.specs.Kept.{KeptParts}
use Rattle.alike_authority.specs.GroupRights.{group_values}
use Rattle.alike_authority.proofs.GroupLemmas.{member_held}
use Rattle.alike_authority.proofs.ToldLemmas.{replayed_size}

module _ (survey : SurveyParts) (is : IsSurvey survey) (rights : survey.sight ≡ sight.Rights)
    (asked : (reg : ℕ) → has survey.live.asked reg ≡ true) (done : survey.complete ≡ true) where
  abbrev rests : MachineState → MachineState
  rests s = rest_by survey.image [] survey.sight s

  -- what is kept of the turns of this survey
  abbrev turns : KeptParts
  turns = record {
    image = survey.image;
    sweeps = [];
    sight = survey.sight;
    store = record { values = []; harts = []; memories = []; granules = 0 };
    nodes = [];
    edges = [];
    limit = 0;
    complete = false;
  }

  rests_size : (s : MachineState) → length (rests s).harts ≡ length s.harts
  unfolding rest_of
  rests_size s = length-map s.harts (resting survey.image [] survey.sight)

  module _ (order : List Op) (allowed : AreAllowed [] order)
      (legal : is_legal survey.image (opening_state survey.image) order ≡ true) where
    abbrev left : MachineState
    left = replayed_state survey.image order

    -- the state that an order leaves is there at its rest, with harts under numbers of their groups
    rest_there : (node : MachineState) × IsRegrouping survey.groups (rests left) node × IsFound (at survey) node
    rest_there =
        let reached = regrouped_reached survey.groups survey.image survey.sight survey.live is.right
        (λ before after. is.hidden before after) order allowed legal in (
          reached.0,
          subst (λ (s : MachineState). IsRegrouping survey.groups s reached.0)
              (state_stays survey.image.program survey.live is.right (λ reg. asked reg) (rests left)) reached.2,
          is.nodes.complete done reached.0 reached.1,
        )

  -- ---- of a hart

  pub hart_bounds : (hart : ℕ) (list : List Authority) → hart < length survey.image.harts →
      AreGreatest (at survey) (group_values survey.groups hart (length survey.image.harts)) list →
      AreBounds survey.image [] (hart_values hart) list
  unfolding IsHeld
  hart_bounds hart list inside greatest order allowed legal r holds =
      let s = left order allowed legal in
      let rested = hart_rests turns false hart rights s r holds in
      let there = rest_there order allowed legal in
      let size : length (rests s).harts ≡ length survey.image.harts = rests_size s ∙ replayed_size survey.image order in
      let low : hart < length (rests s).harts = subst (λ (n : ℕ). hart < n) (sym size) inside in
      let member = holds_so survey.groups (rests s) there.0 there.1 hart rested.0 low rested.1 in
      let count : length (there.0).harts ≡ length survey.image.harts = there.1.1.0.count ∙ size in
      let held = member_held survey.groups hart (length survey.image.harts) member.0 there.0 rested.0
      (subst (λ (n : ℕ). member.0 < n) count member.1) member.2 member.3 in
      let entry = greatest.bounded there.2.0 rested.0 (there.0, there.2.1, held) in
      (entry.0, entry.1, entry.2, within_trans r rested.0 entry.1.rights rested.2 entry.3)

  -- ---- of memory

  pub memory_bounds : (list : List Authority) → AreGreatest (at survey) memory_values list →
      AreBounds survey.image [] memory_values list
  unfolding IsHeld rest_of
  memory_bounds list greatest order allowed legal r holds =
      let s = left order allowed legal in
      let there = rest_there order allowed legal in
      let same : (there.0).memory ≡ s.memory = there.1.1.0.memory in
      greatest.bounded there.2.0 r (there.0, there.2.1, subst (λ (m : List CapValue). Holds m r) (sym same) holds)
