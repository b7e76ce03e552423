-- States that forget to be the same: their turns are told by the same steps, and lead to such states.
use Rattle.std.proofs.Common.{◌≡◌, ℕ, zero, suc, List, [], ◌∷◌, ◌++◌, map, refl, ap, sym, ◌∙◌, subst, inl, inr}
use Rattle.std.specs.Prelude.{Bool, true, false, Option, Some, None, replicate}
use Rattle.std.proofs.lemmas.Bool.{cases_Bool, both_ways}
use Rattle.std.proofs.lemmas.Option.{none-some, same_Some, option_and_then_some}
use Rattle.cheri_model.specs.declared.operation.Op.{Op}
use Rattle.cheri_model.specs.declared.operation.Op.TheVariants as operation
use Rattle.cheri_model.specs.runs.Image.{ImageParts}
use Rattle.cheri_model.specs.runs.Machine.{MachineState, may_take, state_after_one}
use Rattle.cheri_model.specs.steps.Hart.{HartState}
use Rattle.explore_sights.specs.declared.sights.Sight.{Sight}
use Rattle.explore_sights.specs.Sights.{hides}
use Rattle.explore_turns.specs.declared.quiet.TheConstants.{MAX_QUIET_STEPS}
use Rattle.explore_turns.specs.Orders.{if_it_comes, quiet_count, quiet_order, turns_from}
use Rattle.explore_turns.specs.QuietSteps.{come, is_quiet, own_step, rest, steps_to_rest}
use Rattle.explore_turns.specs.Turns.{rest_by, turn_by}
use Rattle.explore_turns.proofs.RestLemmas.{come_none, come_on, come_stop, option_cases, rest_none, rest_some}
use Rattle.forgotten_runs.specs.ForgottenRuns.{forgotten_after, forgotten_state}
use Rattle.forgotten_runs.proofs.OperationLemmas.{after_forgets, may_kept}
use Rattle.forgotten_turns.specs.ForgottenTurns.{HidesForgotten}
use Rattle.forgotten_turns.proofs.ForgettingLemmas.{quiet_forgets, rest_forgets, steps_forget}
use Rattle.forgotten_turns.proofs.OrderLemmas.{live_forgets}
use Rattle.forgotten_turns.proofs.TurnLemmas.{merge_loses}
use Rattle.graph_merging.proofs.MergingLemmas.{merged_some}
use Rattle.graph_search.specs.Walks.{IsWalk, after}
use Rattle.live_registers.specs.LiveSets.{IsRight, LiveSets, forgotten_hart}
use Rattle.schedules.specs.Schedules.{AreLabelsOf, next}
use Rattle.schedules.proofs.WalkLemmas.{next_some}

module _ (image : ImageParts) (sight : Sight) (live : LiveSets) (right : IsRight image.program live)
    (hidden : HidesForgotten live (hides sight)) where
  abbrev forget : HartState → HartState
  forget h = forgotten_hart live h

  abbrev way : ℕ → HartState → Option HartState
  way k h = come image.program [] (hides sight) k h

  abbrev quiet : HartState → Bool
  quiet h = is_quiet image.program [] (hides sight) h

  abbrev counted : HartState → ℕ
  counted h = quiet_count image.program [] (hides sight) MAX_QUIET_STEPS h

  same_quiet : (g h : HartState) → forget g ≡ forget h → quiet g ≡ quiet h
  same_quiet g h same =
      let forgets = live_forgets image.program live right in
      sym (quiet_forgets image.program forget forgets (hides sight) hidden g)
      ∙ (ap quiet same ∙ quiet_forgets image.program forget forgets (hides sight) hidden h)

  -- a hart that comes to no rest is quiet, and where one comes to its next step isn't
  never_quiet : (k : ℕ) (h : HartState) → way k h ≡ None → quiet h ≡ true
  never_quiet k h none = elim (cases_Bool (quiet h)) [
    | inl holds ↦ holds
    | inr fails ↦ absurd (none-some h (sym none ∙ come_stop image.program [] (hides sight) k h fails))
  ]

  comes_to_rest : (k : ℕ) (h g : HartState) → way k h ≡ Some g → quiet g ≡ false
  comes_to_rest zero h g is = elim (cases_Bool (quiet h)) [
    | inl holds ↦ absurd (none-some g (sym (come_none image.program [] (hides sight) h holds) ∙ is))
    | inr fails ↦
        subst (λ (x : HartState). quiet x ≡ false)
        (same_Some h g (sym (come_stop image.program [] (hides sight) 0 h fails) ∙ is)) fails
  ]
  comes_to_rest (suc k) h g is = elim (cases_Bool (quiet h)) [
    | inl holds ↦ comes_to_rest k (own_step image.program h) g (sym (come_on image.program [] (hides sight) k h holds) ∙ is)
    | inr fails ↦
        subst (λ (x : HartState). quiet x ≡ false)
        (same_Some h g (sym (come_stop image.program [] (hides sight) (suc k) h fails) ∙ is)) fails
  ]

  same_rest : (g h : HartState) → forget g ≡ forget h →
      forget (rest image.program [] (hides sight) MAX_QUIET_STEPS g) ≡ forget (rest image.program [] (hides sight) MAX_QUIET_STEPS h)
  same_rest g h same =
      let forgets = live_forgets image.program live right in
      sym (rest_forgets image.program forget forgets (hides sight) hidden MAX_QUIET_STEPS g)
      ∙ (ap (λ (x : HartState). forget (rest image.program [] (hides sight) MAX_QUIET_STEPS x)) same
      ∙ rest_forgets image.program forget forgets (hides sight) hidden MAX_QUIET_STEPS h)

  -- of two such harts both come to their rest, or none does
  both_come : (g h x : HartState) → forget g ≡ forget h → way MAX_QUIET_STEPS g ≡ None → way MAX_QUIET_STEPS h ≡ Some x → ⊥
  both_come g h x same none some =
      let rests : forget g ≡ forget x =
      ap forget (sym (rest_none image.program [] (hides sight) MAX_QUIET_STEPS g none))
      ∙ (same_rest g h same ∙ ap forget (rest_some image.program [] (hides sight) MAX_QUIET_STEPS h x some)) in
      both_ways (quiet x) (comes_to_rest MAX_QUIET_STEPS h x some)
      (sym (same_quiet g x rests) ∙ never_quiet MAX_QUIET_STEPS g none)

  same_count : (g h : HartState) → forget g ≡ forget h → counted g ≡ counted h
  unfolding quiet_count
  same_count g h same =
      let forgets = live_forgets image.program live right in
      let steps : HartState → ℕ = λ x. steps_to_rest image.program [] (hides sight) MAX_QUIET_STEPS x in
      let alike : steps g ≡ steps h =
      sym (steps_forget image.program forget forgets (hides sight) hidden MAX_QUIET_STEPS g)
      ∙ (ap steps same ∙ steps_forget image.program forget forgets (hides sight) hidden MAX_QUIET_STEPS h) in
      elim (option_cases (way MAX_QUIET_STEPS g)) [
        | inl none ↦ elim (option_cases (way MAX_QUIET_STEPS h)) [
          | inl also ↦
              ap (λ (o : Option HartState). if_it_comes o (steps g)) none
              ∙ sym (ap (λ (o : Option HartState). if_it_comes o (steps h)) also)
          | inr some ↦ absurd (both_come g h some.0 same none some.1)
        ]
        | inr some ↦ elim (option_cases (way MAX_QUIET_STEPS h)) [
          | inl none ↦ absurd (both_come h g some.0 (sym same) none some.1)
          | inr also ↦
              ap (λ (o : Option HartState). if_it_comes o (steps g)) some.1
              ∙ (alike ∙ sym (ap (λ (o : Option HartState). if_it_comes o (steps h)) also.1))
        ]
      ]

  -- ---- the quiet steps of all harts

  first_same : (g h : HartState) (gs hs : List HartState) → map forget (g ∷ gs) ≡ map forget (h ∷ hs) → forget g ≡ forget h
  first_same g h gs hs same = ap (head_or (forget g)) same
    where
      head_or : HartState → List HartState → HartState
      head_or x [] = x
      head_or x (y ∷ ys) = y

  others_same : (g h : HartState) (gs hs : List HartState) → map forget (g ∷ gs) ≡ map forget (h ∷ hs) →
      map forget gs ≡ map forget hs
  others_same g h gs hs same = ap tail_of same
    where
      tail_of : List HartState → List HartState
      tail_of [] = []
      tail_of (y ∷ ys) = ys

  same_quiet_order : (first : ℕ) (gs hs : List HartState) → map forget gs ≡ map forget hs →
      quiet_order image [] sight first gs ≡ quiet_order image [] sight first hs
  unfolding quiet_order
  same_quiet_order first [] [] same = refl
  same_quiet_order first [] (h ∷ hs) same = absurd (cc)
  same_quiet_order first (g ∷ gs) [] same = absurd (cc)
  same_quiet_order first (g ∷ gs) (h ∷ hs) same =
      ap (λ (n : ℕ). replicate n (operation.Step first) ++ quiet_order image [] sight (suc first) gs)
      (same_count g h (first_same g h gs hs same))
      ∙ ap (λ (os : List Op). replicate (counted h) (operation.Step first) ++ os)
      (same_quiet_order (suc first) gs hs (others_same g h gs hs same))

  -- ---- turns

  abbrev lost : MachineState → MachineState
  lost s = forgotten_state live s

  pub same_may : (s t : MachineState) (op : Op) → lost s ≡ lost t → may_take s op ≡ may_take t op
  same_may s t op same =
      sym (may_kept live s op) ∙ (ap (λ (x : MachineState). may_take x op) same ∙ may_kept live t op)

  same_after : (s t : MachineState) (op : Op) → lost s ≡ lost t → may_take s op ≡ true → may_take t op ≡ true →
      lost (state_after_one image s op) ≡ lost (state_after_one image t op)
  unfolding forgotten_after
  same_after s t op same may also =
      sym (after_forgets live image right s op may)
      ∙ (ap (λ (x : MachineState). lost (state_after_one image x op)) same ∙ after_forgets live image right t op also)

  rest_loses : (s : MachineState) → lost (rest_by image [] sight (lost s)) ≡ lost (rest_by image [] sight s)
  unfolding forgotten_state
  rest_loses s = merge_loses image forget (live_forgets image.program live right) (hides sight) hidden MAX_QUIET_STEPS s

  same_rests : (s t : MachineState) → lost s ≡ lost t → lost (rest_by image [] sight s) ≡ lost (rest_by image [] sight t)
  same_rests s t same =
      sym (rest_loses s) ∙ (ap (λ (x : MachineState). lost (rest_by image [] sight x)) same ∙ rest_loses t)

  same_harts : (s t : MachineState) → lost s ≡ lost t → map forget s.harts ≡ map forget t.harts
  unfolding forgotten_state
  same_harts s t same = ap (λ (x : MachineState). x.harts) same

  -- where turns lead from one of them, they are told by the same steps from the other
  pub same_turns : (labels : List ℕ) (ops : List Op) (s t u : MachineState) → lost s ≡ lost t → AreLabelsOf image [] labels ops →
      IsWalk (turn_by image [] sight) s labels u → turns_from image [] sight s ops ≡ turns_from image [] sight t ops
  unfolding turns_from
  same_turns [] [] s t u same are walk = refl
  same_turns [] (op ∷ ops) s t u same are walk = absurd are
  same_turns (l ∷ labels) [] s t u same are walk = absurd are
  same_turns (l ∷ labels) (op ∷ ops) s t u same are walk =
      option_and_then_some (λ (v : MachineState). after (turn_by image [] sight) v labels)
      (turn_by image [] sight s l) u walk (λ v goes later.
      let step = merged_some (rest_by image [] sight) (next image [] s l) v goes in
      let taken = next_some image [] s step.0 l step.1 in
      let here : taken.0 ≡ op = same_Some taken.0 op (sym taken.1 ∙ are.0) in
      let may : may_take s op ≡ true = subst (λ (o : Op). may_take s o ≡ true) here taken.2 in
      let on = state_after_one image s op in
      let other = state_after_one image t op in
      let alike : lost on ≡ lost other = same_after s t op same may (sym (same_may s t op same) ∙ may) in
      let rested : rest_by image [] sight on ≡ v =
      ap (λ (o : Op). rest_by image [] sight (state_after_one image s o)) (sym here)
      ∙ (ap (rest_by image [] sight) taken.3 ∙ step.2) in
      let rests = same_rests on other alike in
      let tail = same_turns labels ops (rest_by image [] sight on) (rest_by image [] sight other) u rests are.1
      (subst (λ (x : MachineState). IsWalk (turn_by image [] sight) x labels u) (sym rested) later) in
      ap (λ (os : List Op). op ∷ (os ++ turns_from image [] sight (rest_by image [] sight on) ops))
      (same_quiet_order 0 on.harts other.harts (same_harts on other alike))
      ∙ ap (λ (os : List Op). op ∷ (quiet_order image [] sight 0 other.harts ++ os)) tail)
