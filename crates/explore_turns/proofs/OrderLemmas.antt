-- The orders of turns are legal, and lead where the turns lead.
use Rattle.std.proofs.Common.{◌≡◌, ℕ, zero, suc, ◌+◌, ◌<◌, ◌≤◌, List, [], ◌∷◌, ◌++◌, length, map, set, get_or, take, drop, arith, ap, sym, ◌∙◌, refl, inl, inr, subst, length-set}
use Rattle.std.specs.Prelude.{Option, Some, None, Bool, true, false, replicate, nat_lt, option_map}
use Rattle.std.proofs.lemmas.Bool.{cases_Bool, and_from}
use Rattle.std.proofs.lemmas.Bool.Decides.{nat_tests}
use Rattle.std.proofs.lemmas.List.{append-nil, append_assoc, drop_all, drop_more, get_or_at, set_at, take_at, length-append, length-map}
use Rattle.std.proofs.lemmas.Option.{none-some, same_Some, option_and_then_some, slice_get-get_or, get_or_from_slice_get}
use Rattle.cap_model.specs.values.CapValue.{CapValue}
use Rattle.cheri_model.specs.declared.operation.Op.{Op}
use Rattle.cheri_model.specs.declared.operation.Op.TheVariants as operation
use Rattle.cheri_model.specs.runs.Image.{ImageParts}
use Rattle.cheri_model.specs.runs.Machine.{MachineState, opening_state, hart_at, no_hart, is_running, may_take, state_after_one, state_after_step, swept_state}
use Rattle.cheri_model.specs.runs.Replay.{is_legal, state_after}
use Rattle.cheri_model.proofs.Runs.Replays.{state_after-append, is_legal-append}
use Rattle.cheri_model.specs.steps.Hart.{HartState}
use Rattle.cheri_model.specs.steps.HartStep.{Stepped, hart_step}
use Rattle.cheri_model.specs.runs.Sweeps.{swept_hart, swept_memory}
use Rattle.explore_sights.specs.declared.sights.Sight.{Sight}
use Rattle.explore_sights.specs.Sights.{hides}
use Rattle.explore_turns.specs.declared.quiet.TheConstants.{MAX_QUIET_STEPS}
use Rattle.explore_turns.specs.QuietSteps.{own_step, come, steps_to_rest}
use Rattle.explore_turns.specs.Turns.{rest_of, rest_by, start_by, turn_by, resting}
use Rattle.explore_turns.specs.Orders.{if_it_comes, quiet_count, quiet_order, turns_from, order_of_turns}
use Rattle.explore_turns.proofs.RestLemmas.{quiet, quiet_is, rest_none, rest_some, option_cases, come_on, come_none, stopped_at, steps_on, steps_stop}
use Rattle.explore_turns.proofs.TurnLemmas.{Fits, with_hart, own_place, with_twice, step_moves, hart_with, same_state}
use Rattle.graph_search.specs.Walks.{after, IsWalk}
use Rattle.schedules.proofs.WalkLemmas.{next_some, next_beyond, allowed_of}
use Rattle.schedules.specs.declared.ranges.SweepRange.{SweepRange}
use Rattle.schedules.specs.Schedules.{next, label_count, AreLabelsOf, AreAllowed, IsAllowed}

module _ (image : ImageParts) (sweeps : List SweepRange) (sight : Sight) where
  -- an allowed order is legal, and leads from s to t
  pub record Leads (s : MachineState) (order : List Op) (t : MachineState) : Type 0 where
    pub allowed : AreAllowed sweeps order
    pub legal : is_legal image s order ≡ true
    pub leaves : state_after image s order ≡ t

  allowed_on : (first later : List Op) → AreAllowed sweeps first → AreAllowed sweeps later →
      AreAllowed sweeps (first ++ later)
  allowed_on [] later is also = also
  allowed_on (op ∷ first) later is also = (is.0, allowed_on first later is.1 also)

  leads_none : (s : MachineState) → Leads s [] s
  unfolding is_legal state_after
  leads_none s = record { allowed = tt; legal = refl; leaves = refl }

  leads_on : (s t u : MachineState) (first later : List Op) → Leads s first t → Leads t later u → Leads s (first ++ later) u
  leads_on s t u first later is also = record {
    allowed = allowed_on first later is.allowed also.allowed;
    legal = is_legal-append image s first later
        ∙ and_from (is_legal image s first) (is_legal image (state_after image s first) later) is.legal
        (ap (λ (x : MachineState). is_legal image x later) is.leaves ∙ also.legal);
    leaves = state_after-append image s first later
        ∙ (ap (λ (x : MachineState). state_after image x later) is.leaves ∙ also.leaves);
  }

  leads_op : (s t : MachineState) (op : Op) (later : List Op) → IsAllowed sweeps op → may_take s op ≡ true →
      Leads (state_after_one image s op) later t → Leads s (op ∷ later) t
  unfolding is_legal state_after
  leads_op s t op later is may also = record {
    allowed = (is, also.allowed);
    legal = and_from (may_take s op) (is_legal image (state_after_one image s op) later) may also.legal;
    leaves = also.leaves;
  }

  may_step : (s : MachineState) (l : ℕ) → l < length s.harts → is_running (hart_at s l).status ≡ true →
      may_take s (operation.Step l) ≡ true
  unfolding may_take
  may_step s l low runs = grind (arith, nat_tests)

  after_step : (s : MachineState) (l : ℕ) → state_after_one image s (operation.Step l) ≡ state_after_step image s l
  unfolding state_after_one
  after_step s l = refl

  abbrev seen : HartState → HartState → Bool
  seen = hides sight

  abbrev replace : MachineState → ℕ → HartState → MachineState
  replace s l h = record { harts = set s.harts l h; memory = s.memory }

  no_way : (k : ℕ) (s : MachineState) (l : ℕ) (g : HartState) → come image.program sweeps seen k (hart_at s l) ≡ Some g →
      quiet image.program sweeps seen (hart_at s l) ≡ false →
      Leads s (replicate (steps_to_rest image.program sweeps seen k (hart_at s l)) (operation.Step l)) (replace s l g)
  no_way k s l g is stays =
      subst (λ (n : ℕ). Leads s (replicate n (operation.Step l)) (replace s l g))
      (sym (steps_stop image.program sweeps seen k (hart_at s l) stays))
      (subst (λ (t : MachineState). Leads s [] t)
      (own_place image sweeps seen 0 s l g (stopped_at image.program sweeps seen k (hart_at s l) g stays is)) (leads_none s))

  -- the quiet steps of a hart
  way_leads : (k : ℕ) (s : MachineState) (l : ℕ) (g : HartState) → l < length s.harts →
      come image.program sweeps seen k (hart_at s l) ≡ Some g →
      Leads s (replicate (steps_to_rest image.program sweeps seen k (hart_at s l)) (operation.Step l)) (replace s l g)
  way_leads zero s l g low is = elim (cases_Bool (quiet image.program sweeps seen (hart_at s l))) [
    | inl moves ↦ absurd (none-some g (sym (come_none image.program sweeps seen (hart_at s l) moves) ∙ is))
    | inr stays ↦ no_way zero s l g is stays
  ]
  way_leads (suc k) s l g low is = elim (cases_Bool (quiet image.program sweeps seen (hart_at s l))) [
    | inl moves ↦
        let h = hart_at s l in
        let own = own_step image.program h in
        let on = replace s l own in
        let here : hart_at on l ≡ own = hart_with image sweeps seen 0 s l own low in
        let there : come image.program sweeps seen k (hart_at on l) ≡ Some g =
        ap (λ (x : HartState). come image.program sweeps seen k x) here
        ∙ (sym (come_on image.program sweeps seen k h moves) ∙ is) in
        let size : length on.harts ≡ length s.harts = length-set s.harts l own in
        let tail = way_leads k on l g (omega (arith, size, low)) there in
        let after : Leads on (replicate (steps_to_rest image.program sweeps seen k own) (operation.Step l)) (replace s l g) =
        subst (λ (x : HartState). Leads on (replicate (steps_to_rest image.program sweeps seen k x) (operation.Step l)) (replace s l g))
        here
        (subst (λ (t : MachineState). Leads on (replicate (steps_to_rest image.program sweeps seen k (hart_at on l)) (operation.Step l)) t)
        (with_twice image sweeps seen 0 s l own g) tail) in
        subst (λ (n : ℕ). Leads s (replicate n (operation.Step l)) (replace s l g))
        (sym (steps_on image.program sweeps seen k h moves))
        (leads_op s (replace s l g) (operation.Step l)
        (replicate (steps_to_rest image.program sweeps seen k own) (operation.Step l)) tt
        (may_step s l low (quiet_is image.program sweeps seen h moves).runs)
        (subst (λ (x : MachineState). Leads x (replicate (steps_to_rest image.program sweeps seen k own) (operation.Step l)) (replace s l g))
        (sym (after_step s l ∙ step_moves image sweeps seen 0 s l moves)) after))
    | inr stays ↦ no_way (suc k) s l g is stays
  ]

  abbrev count : HartState → ℕ
  count h = quiet_count image.program sweeps seen MAX_QUIET_STEPS h

  abbrev rests : HartState → HartState
  rests h = resting image sweeps sight h

  one_leads : (s : MachineState) (l : ℕ) → l < length s.harts →
      Leads s (replicate (count (hart_at s l)) (operation.Step l)) (replace s l (rests (hart_at s l)))
  unfolding quiet_count
  one_leads s l low =
      let h = hart_at s l in
      elim (option_cases (come image.program sweeps seen MAX_QUIET_STEPS h)) [
        | inl none ↦
            subst (λ (n : ℕ). Leads s (replicate n (operation.Step l)) (replace s l (rests h)))
            (sym (ap (λ (o : Option HartState). if_it_comes o (steps_to_rest image.program sweeps seen MAX_QUIET_STEPS h)) none))
            (subst (λ (t : MachineState). Leads s [] t)
            (own_place image sweeps seen 0 s l (rests h)
            (sym (rest_none image.program sweeps seen MAX_QUIET_STEPS h none))) (leads_none s))
        | inr some ↦
            subst (λ (n : ℕ). Leads s (replicate n (operation.Step l)) (replace s l (rests h)))
            (sym (ap (λ (o : Option HartState). if_it_comes o (steps_to_rest image.program sweeps seen MAX_QUIET_STEPS h)) some.1))
            (subst (λ (g : HartState).
            Leads s (replicate (steps_to_rest image.program sweeps seen MAX_QUIET_STEPS h) (operation.Step l)) (replace s l g))
            (sym (rest_some image.program sweeps seen MAX_QUIET_STEPS h some.0 some.1))
            (way_leads MAX_QUIET_STEPS s l some.0 low some.1))
      ]

  abbrev made : List HartState → List CapValue → MachineState
  made harts memory = record { harts = harts; memory = memory }

  hart_here : (done : List HartState) (h : HartState) (harts : List HartState) (memory : List CapValue) (first : ℕ) →
      length done ≡ first → hart_at (made (done ++ h ∷ harts) memory) first ≡ h
  unfolding hart_at
  hart_here done h harts memory first at = get_or_at done h harts no_hart first at

  turned_some : (o : Option MachineState) (r : MachineState) → option_map (rest_by image sweeps sight) o ≡ Some r →
      (t : MachineState) × (o ≡ Some t) × (rest_by image sweeps sight t ≡ r)
  turned_some None r is = absurd (none-some r is)
  turned_some (Some t) r is = (t, refl, same_Some (rest_by image sweeps sight t) r is)

  -- the harts from a place on come to their rest, one after the other
  rest_leads : (done harts : List HartState) (memory : List CapValue) (first : ℕ) → length done ≡ first →
      Leads (made (done ++ harts) memory) (quiet_order image sweeps sight first harts) (made (done ++ map rests harts) memory)
  unfolding quiet_order
  rest_leads done [] memory first at = leads_none (made (done ++ []) memory)
  rest_leads done (h ∷ harts) memory first at =
      let s = made (done ++ h ∷ harts) memory in
      let low : first < length (done ++ h ∷ harts) =
      (let size = length-append done (h ∷ harts) in let more : length (h ∷ harts) ≡ suc (length harts) = refl in omega (arith, size, more, at)) in
      let here : hart_at s first ≡ h = hart_here done h harts memory first at in
      let one : Leads s (replicate (count h) (operation.Step first)) (made (done ++ rests h ∷ harts) memory) =
      subst (λ (hs : List HartState). Leads s (replicate (count h) (operation.Step first)) (made hs memory))
      (set_at done h harts (rests h) first at)
      (subst (λ (x : HartState). Leads s (replicate (count x) (operation.Step first)) (replace s first (rests x))) here
      (one_leads s first low)) in
      let size : length (done ++ rests h ∷ []) ≡ suc first =
      (let sum = length-append done (rests h ∷ []) in let one : length (rests h ∷ []) ≡ 1 = refl in omega (arith, sum, one, at)) in
      let others = rest_leads (done ++ rests h ∷ []) harts memory (suc first) size in
      let tail : Leads (made (done ++ rests h ∷ harts) memory) (quiet_order image sweeps sight (suc first) harts)
      (made (done ++ rests h ∷ map rests harts) memory) =
      subst (λ (hs : List HartState). Leads (made hs memory) (quiet_order image sweeps sight (suc first) harts)
      (made (done ++ rests h ∷ map rests harts) memory)) (append_assoc done (rests h ∷ []) harts)
      (subst (λ (hs : List HartState). Leads (made ((done ++ rests h ∷ []) ++ harts) memory)
      (quiet_order image sweeps sight (suc first) harts) (made hs memory)) (append_assoc done (rests h ∷ []) (map rests harts)) others) in
      leads_on s (made (done ++ rests h ∷ harts) memory) (made (done ++ rests h ∷ map rests harts) memory)
      (replicate (count h) (operation.Step first)) (quiet_order image sweeps sight (suc first) harts) one tail

  -- all harts of a state come to their rest
  pub quiet_leads : (s : MachineState) → Leads s (quiet_order image sweeps sight 0 s.harts) (rest_by image sweeps sight s)
  unfolding rest_of
  quiet_leads s = rest_leads [] s.harts s.memory 0 refl

  -- there is no turn of a label past the harts and the sweeps
  pub turn_beyond : (s : MachineState) (label : ℕ) → label_count image sweeps ≤ label → turn_by image sweeps sight s label ≡ None
  turn_beyond s label past = ap (option_map (rest_by image sweeps sight)) (next_beyond image sweeps s label past)

  -- the orders of turns
  pub turns_from_lead : (labels : List ℕ) (ops : List Op) (s t : MachineState) → AreLabelsOf image sweeps labels ops →
      IsWalk (turn_by image sweeps sight) s labels t → Leads s (turns_from image sweeps sight s ops) t
  unfolding turns_from
  turns_from_lead [] [] s t are walk = subst (λ (x : MachineState). Leads s [] x) (same_Some s t walk) (leads_none s)
  turns_from_lead [] (op ∷ ops) s t are walk = absurd are
  turns_from_lead (l ∷ labels) [] s t are walk = absurd are
  turns_from_lead (l ∷ labels) (op ∷ ops) s t are walk =
      option_and_then_some (λ (u : MachineState). after (turn_by image sweeps sight) u labels)
      (turn_by image sweeps sight s l) t walk (λ u goes later.
      let step = turned_some (next image sweeps s l) u goes in
      let taken = next_some image sweeps s step.0 l step.1 in
      let same : taken.0 ≡ op = same_Some taken.0 op (sym taken.1 ∙ are.0) in
      let on = state_after_one image s op in
      let rested : rest_by image sweeps sight on ≡ u =
      ap (λ (o : Op). rest_by image sweeps sight (state_after_one image s o)) (sym same)
      ∙ (ap (rest_by image sweeps sight) taken.3 ∙ step.2) in
      let tail : Leads (rest_by image sweeps sight on) (turns_from image sweeps sight (rest_by image sweeps sight on) ops) t =
      subst (λ (x : MachineState). Leads x (turns_from image sweeps sight x ops) t) (sym rested)
      (turns_from_lead labels ops u t are.1 later) in
      leads_op s t op (quiet_order image sweeps sight 0 on.harts
      ++ turns_from image sweeps sight (rest_by image sweeps sight on) ops)
      (allowed_of image sweeps l op are.0)
      (subst (λ (o : Op). may_take s o ≡ true) same taken.2)
      (leads_on on (rest_by image sweeps sight on) t (quiet_order image sweeps sight 0 on.harts)
      (turns_from image sweeps sight (rest_by image sweeps sight on) ops) (quiet_leads on) tail))

  pub turns_lead : (labels : List ℕ) (ops : List Op) (t : MachineState) → AreLabelsOf image sweeps labels ops →
      IsWalk (turn_by image sweeps sight) (start_by image sweeps sight) labels t →
      Leads (opening_state image) (order_of_turns image sweeps sight ops) t
  unfolding order_of_turns
  turns_lead labels ops t are walk =
      let o = opening_state image in
      leads_on o (start_by image sweeps sight) t (quiet_order image sweeps sight 0 o.harts)
      (turns_from image sweeps sight (start_by image sweeps sight) ops) (quiet_leads o)
      (turns_from_lead labels ops (start_by image sweeps sight) t are walk)

  -- turns after others
  pub turns_append : (labels : List ℕ) (ops more : List Op) (s t : MachineState) → AreLabelsOf image sweeps labels ops →
      IsWalk (turn_by image sweeps sight) s labels t →
      turns_from image sweeps sight s (ops ++ more) ≡ turns_from image sweeps sight s ops ++ turns_from image sweeps sight t more
  unfolding turns_from
  turns_append [] [] more s t are walk = ap (λ (x : MachineState). turns_from image sweeps sight x more) (same_Some s t walk)
  turns_append [] (op ∷ ops) more s t are walk = absurd are
  turns_append (l ∷ labels) [] more s t are walk = absurd are
  turns_append (l ∷ labels) (op ∷ ops) more s t are walk =
      option_and_then_some (λ (u : MachineState). after (turn_by image sweeps sight) u labels)
      (turn_by image sweeps sight s l) t walk (λ u goes later.
      let step = turned_some (next image sweeps s l) u goes in
      let taken = next_some image sweeps s step.0 l step.1 in
      let same : taken.0 ≡ op = same_Some taken.0 op (sym taken.1 ∙ are.0) in
      let on = state_after_one image s op in
      let rested : u ≡ rest_by image sweeps sight on =
      sym (ap (λ (o : Op). rest_by image sweeps sight (state_after_one image s o)) (sym same)
      ∙ (ap (rest_by image sweeps sight) taken.3 ∙ step.2)) in
      let tail = turns_append labels ops more (rest_by image sweeps sight on) t are.1
      (subst (λ (x : MachineState). IsWalk (turn_by image sweeps sight) x labels t) rested later) in
      let quiet = quiet_order image sweeps sight 0 on.harts in
      ap (λ (os : List Op). op ∷ (quiet ++ os)) tail
      ∙ ap (λ (os : List Op). op ∷ os) (sym (append_assoc quiet
      (turns_from image sweeps sight (rest_by image sweeps sight on) ops) (turns_from image sweeps sight t more))))

  pub order_append : (labels : List ℕ) (ops more : List Op) (t : MachineState) → AreLabelsOf image sweeps labels ops →
      IsWalk (turn_by image sweeps sight) (start_by image sweeps sight) labels t →
      order_of_turns image sweeps sight (ops ++ more)
      ≡ order_of_turns image sweeps sight ops ++ turns_from image sweeps sight t more
  unfolding order_of_turns
  order_append labels ops more t are walk =
      let start = start_by image sweeps sight in
      let quiet = quiet_order image sweeps sight 0 (opening_state image).harts in
      ap (λ (os : List Op). quiet ++ os) (turns_append labels ops more start t are walk)
      ∙ sym (append_assoc quiet (turns_from image sweeps sight start ops) (turns_from image sweeps sight t more))

  -- labels of turns have operations
  pub turns_labelled : (labels : List ℕ) (s t : MachineState) → IsWalk (turn_by image sweeps sight) s labels t →
      (ops : List Op) × AreLabelsOf image sweeps labels ops
  turns_labelled [] s t walk = ([], tt)
  turns_labelled (l ∷ labels) s t walk =
      option_and_then_some (λ (u : MachineState). after (turn_by image sweeps sight) u labels)
      (turn_by image sweeps sight s l) t walk (λ u goes later.
      let step = turned_some (next image sweeps s l) u goes in
      let taken = next_some image sweeps s step.0 l step.1 in
      let others = turns_labelled labels u t later in
      (taken.0 ∷ others.0, (taken.1, others.1)))

  -- the quiet steps from a hart on are its own and those from the next one on
  pub quiet_from : (n : ℕ) (harts : List HartState) (h : HartState) → n < length harts → h ≡ get_or harts n h →
      quiet_order image sweeps sight n (drop n harts)
      ≡ replicate (count h) (operation.Step n) ++ quiet_order image sweeps sight (n + 1) (drop (n + 1) harts)
  unfolding quiet_order
  quiet_from n harts h low is =
      let more : suc n ≡ n + 1 = omega arith in
      ap (λ (hs : List HartState). quiet_order image sweeps sight n hs)
      (drop_more harts n h low ∙ ap (λ (x : HartState). x ∷ drop (n + 1) harts) (sym is))
      ∙ ap (λ (k : ℕ). replicate (count h) (operation.Step n) ++ quiet_order image sweeps sight k (drop (n + 1) harts)) more

  pub order_on : (done order end : List Op) (n k : ℕ) (harts : List HartState) (h : HartState) → n < length harts →
      h ≡ get_or harts n h → done ++ quiet_order image sweeps sight n (drop n harts) ≡ end → k ≡ count h →
      order ≡ done ++ replicate k (operation.Step n) →
      order ++ quiet_order image sweeps sight (n + 1) (drop (n + 1) harts) ≡ end
  order_on done order end n k harts h low is before counted pushed =
      ap (λ (os : List Op). os ++ quiet_order image sweeps sight (n + 1) (drop (n + 1) harts))
      (pushed ∙ ap (λ (m : ℕ). done ++ replicate m (operation.Step n)) counted)
      ∙ (append_assoc done (replicate (count h) (operation.Step n)) (quiet_order image sweeps sight (n + 1) (drop (n + 1) harts))
      ∙ (ap (λ (os : List Op). done ++ os) (sym (quiet_from n harts h low is)) ∙ before))

  pub order_end : (order end : List Op) (n : ℕ) (harts : List HartState) → length harts ≤ n →
      order ++ quiet_order image sweeps sight n (drop n harts) ≡ end → order ≡ end
  unfolding quiet_order
  order_end order end n harts past before =
      sym (append-nil order)
      ∙ (ap (λ (hs : List HartState). order ++ quiet_order image sweeps sight n hs) (sym (drop_all n harts past)) ∙ before)

  -- one more turn
  pub turns_on : (done order end : List Op) (n : ℕ) (ops : List Op) (op d : Op) (s t : MachineState) (pushed : List Op) →
      n < length ops → op ≡ get_or ops n d → done ++ turns_from image sweeps sight s (drop n ops) ≡ end →
      pushed ≡ done ++ op ∷ [] → state_after_one image s op ≡ t → order ≡ pushed ++ quiet_order image sweeps sight 0 t.harts →
      order ++ turns_from image sweeps sight (rest_by image sweeps sight t) (drop (n + 1) ops) ≡ end
  unfolding turns_from
  turns_on done order end n ops op d s t pushed low is before one leads all =
      let later = turns_from image sweeps sight (rest_by image sweeps sight t) (drop (n + 1) ops) in
      let first : turns_from image sweeps sight s (drop n ops)
      ≡ op ∷ (quiet_order image sweeps sight 0 t.harts ++ later) =
      ap (λ (os : List Op). turns_from image sweeps sight s os)
      (drop_more ops n d low ∙ ap (λ (o : Op). o ∷ drop (n + 1) ops) (sym is))
      ∙ ap (λ (x : MachineState). op ∷ (quiet_order image sweeps sight 0 x.harts
      ++ turns_from image sweeps sight (rest_by image sweeps sight x) (drop (n + 1) ops))) leads in
      ap (λ (os : List Op). os ++ later)
      (all ∙ ap (λ (os : List Op). os ++ quiet_order image sweeps sight 0 t.harts) one)
      ∙ (append_assoc (done ++ op ∷ []) (quiet_order image sweeps sight 0 t.harts) later
      ∙ (append_assoc done (op ∷ []) (quiet_order image sweeps sight 0 t.harts ++ later)
      ∙ (ap (λ (os : List Op). done ++ os) (sym first) ∙ before)))

  pub turns_end : (order end : List Op) (n : ℕ) (ops : List Op) (s : MachineState) → length ops ≤ n →
      order ++ turns_from image sweeps sight s (drop n ops) ≡ end → order ≡ end
  unfolding turns_from
  turns_end order end n ops s past before =
      sym (append-nil order)
      ∙ (ap (λ (os : List Op). order ++ turns_from image sweeps sight s os) (sym (drop_all n ops past)) ∙ before)

-- a step is taken, and a sweep
pub step_made : (image : ImageParts) (harts : List HartState) (memory : List CapValue) (n : ℕ) (hart : HartState) (after : Stepped) →
    n < length harts → hart ≡ get_or harts n hart → hart_step image.program hart memory ≡ after →
    ◌≡◌ {A = MachineState} (record { harts = set harts n after.hart; memory = after.memory })
    (state_after_one image (record { harts = harts; memory = memory }) (operation.Step n))
unfolding state_after_one state_after_step hart_at
step_made image harts memory n hart after low is stepped =
    let same : get_or harts n no_hart ≡ hart =
    sym (get_or_from_slice_get harts n (get_or harts n no_hart) hart (slice_get-get_or harts n no_hart low)) ∙ sym is in
    let result : hart_step image.program (get_or harts n no_hart) memory ≡ after =
    ap (λ (h : HartState). hart_step image.program h memory) same ∙ stepped in
    ap (λ (t : Stepped). record { harts = set harts n t.hart; memory = t.memory }) (sym result)

pub sweep_made : (image : ImageParts) (harts swept : List HartState) (memory after : List CapValue) (lo hi : ℕ) →
    swept ≡ map (swept_hart lo hi) harts → after ≡ swept_memory lo hi memory →
    ◌≡◌ {A = MachineState} (record { harts = swept; memory = after })
    (state_after_one image (record { harts = harts; memory = memory }) (operation.Sweep lo hi))
unfolding state_after_one swept_state
sweep_made image harts swept memory after lo hi is also =
    same_state swept (map (swept_hart lo hi) harts) after (swept_memory lo hi memory) is also

-- a list that was changed through a slice of all of it
pub slice_back : {A : Type 0} (n : ℕ) (new old : List A) → n ≡ length new → take n (new ++ drop (length new) old) ≡ new
slice_back {A} n new old same =
    ap (λ (k : ℕ). take k (new ++ drop (length new) old)) same ∙ take_at new (drop (length new) old) (length new) refl
