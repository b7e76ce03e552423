-- Quiet steps and turns of harts that forget something: what is forgotten makes no difference to
-- them, where it makes none to steps.
use Rattle.std.proofs.Common.{◌≡◌, ℕ, zero, suc, List, [], ◌∷◌, map, refl, sym, ap, ◌∙◌, inl, inr, subst}
use Rattle.std.specs.Prelude.{Bool, true, false, not, ◌&&◌, Option, Some, None, option_map, length}
use Rattle.std.proofs.lemmas.Bool.{cases_Bool}
use Rattle.std.proofs.lemmas.Option.{none-some, same_Some}
use Rattle.cap_model.specs.values.CapValue.{CapValue}
use Rattle.cap_model.specs.results.Addresses.{address_of}
use Rattle.cheri_model.specs.declared.instr.Instr.{Instr}
use Rattle.cheri_model.specs.declared.instr.Instr.TheVariants as instr
use Rattle.cheri_model.specs.declared.trace.Status.{Status}
use Rattle.cheri_model.specs.runs.Machine.{is_running}
use Rattle.cheri_model.specs.steps.Actions.{Action, action}
use Rattle.cheri_model.specs.steps.Checks.{first_failing, fetch_table}
use Rattle.cheri_model.specs.steps.Hart.{HartState}
use Rattle.cheri_model.specs.steps.HartStep.{hart_step, instruction_at}
use Rattle.explore_turns.specs.QuietSteps.{is_access, where_fetched, asks_memory, own_step, is_quiet, come, rest, steps_to_rest}
use Rattle.explore_turns.proofs.RestLemmas.{option_cases, quiet_is, come_on, come_none, come_stop, rest_none, rest_some, rest_still, steps_on, steps_stop}

-- whether an instruction asks for an access depends on no register
pub same_access : (i : Instr) (g h : HartState) → is_access (action i g) ≡ is_access (action i h)
unfolding action
same_access (instr.CSetAddr cd c1 c2) g h = refl
same_access _ g h = refl

-- What is so of a function by which harts forget: PCC and status stay, and a step of a hart that has
-- forgotten leads to what the hart after its own step forgets to be.
pub record Forgets (program : List Instr) (forget : HartState → HartState) : Type 0 where
  pub twice : (h : HartState) → forget (forget h) ≡ forget h
  pub pcc : (h : HartState) → (forget h).pcc ≡ h.pcc
  pub status : (h : HartState) → (forget h).status ≡ h.status
  pub steps : (h : HartState) (m : List CapValue) → is_running h.status ≡ true →
      forget (hart_step program (forget h) m).hart ≡ forget (hart_step program h m).hart

module _ (program : List Instr) (forget : HartState → HartState) (forgets : Forgets program forget) where
  same_asks : (h : HartState) → asks_memory program (forget h) ≡ asks_memory program h
  unfolding asks_memory
  same_asks h =
      ap (λ (pcc : CapValue). where_fetched (first_failing (fetch_table pcc (length program)))
      (is_access (action (instruction_at program (address_of pcc)) (forget h)))) (forgets.pcc h)
      ∙ ap (where_fetched (first_failing (fetch_table h.pcc (length program))))
      (same_access (instruction_at program (address_of h.pcc)) (forget h) h)

  pub own_forgets : (h : HartState) → is_running h.status ≡ true → forget (own_step program (forget h)) ≡ forget (own_step program h)
  unfolding own_step
  own_forgets h runs = forgets.steps h [] runs

  module _ (hides : HartState → HartState → Bool)
      (hidden : (before after : HartState) → hides (forget before) (forget after) ≡ hides before after) where
    abbrev quiet : HartState → Bool
    quiet h = is_quiet program [] hides h

    abbrev own : HartState → HartState
    own h = own_step program h

    -- what is seen of the step that follows
    same_hidden : (h : HartState) → is_running h.status ≡ true → hides (forget h) (own (forget h)) ≡ hides h (own h)
    same_hidden h runs =
        sym (hidden (forget h) (own (forget h)))
        ∙ (ap (λ (g : HartState). hides g (forget (own (forget h)))) (forgets.twice h)
        ∙ (ap (hides (forget h)) (own_forgets h runs) ∙ hidden h (own h)))

    pub quiet_forgets : (h : HartState) → quiet (forget h) ≡ quiet h
    unfolding is_quiet
    quiet_forgets h =
        ap (λ (status : Status). is_running status && (not (asks_memory program (forget h)) && hides (forget h) (own (forget h))))
        (forgets.status h)
        ∙ elim (cases_Bool (is_running h.status)) [
          | inl runs ↦
              ap (λ (asks : Bool). is_running h.status && (not asks && hides (forget h) (own (forget h)))) (same_asks h)
              ∙ ap (λ (unseen : Bool). is_running h.status && (not (asks_memory program h) && unseen)) (same_hidden h runs)
          | inr stops ↦ rw stops refl
        ]

    quiet_runs : (h : HartState) → quiet h ≡ true → is_running h.status ≡ true
    quiet_runs h holds = (quiet_is program [] hides h holds).runs

    -- ---- the way to the rest

    abbrev way : ℕ → HartState → Option HartState
    way k h = come program [] hides k h

    abbrev lost : Option HartState → Option HartState
    lost o = option_map forget o

    -- harts that forget to be the same come, or don't come, to such harts
    way_alike : (k : ℕ) (g h : HartState) → forget g ≡ forget h → lost (way k g) ≡ lost (way k h)
    way_alike zero g h same =
        let alike : quiet g ≡ quiet h = sym (quiet_forgets g) ∙ (ap quiet same ∙ quiet_forgets h) in
        elim (cases_Bool (quiet h)) [
          | inl holds ↦
              ap lost (come_none program [] hides g (alike ∙ holds)) ∙ sym (ap lost (come_none program [] hides h holds))
          | inr fails ↦
              ap lost (come_stop program [] hides 0 g (alike ∙ fails))
              ∙ (ap (λ (x : HartState). Some x) same ∙ sym (ap lost (come_stop program [] hides 0 h fails)))
        ]
    way_alike (suc k) g h same =
        let alike : quiet g ≡ quiet h = sym (quiet_forgets g) ∙ (ap quiet same ∙ quiet_forgets h) in
        elim (cases_Bool (quiet h)) [
          | inl holds ↦
              let on = own_alike g h same (quiet_runs g (alike ∙ holds)) (quiet_runs h holds) in
              ap lost (come_on program [] hides k g (alike ∙ holds))
              ∙ (way_alike k (own g) (own h) on ∙ sym (ap lost (come_on program [] hides k h holds)))
          | inr fails ↦
              ap lost (come_stop program [] hides (suc k) g (alike ∙ fails))
              ∙ (ap (λ (x : HartState). Some x) same ∙ sym (ap lost (come_stop program [] hides (suc k) h fails)))
        ]
      where
        own_alike : (g h : HartState) → forget g ≡ forget h → is_running g.status ≡ true → is_running h.status ≡ true →
            forget (own g) ≡ forget (own h)
        own_alike g h same one other =
            sym (own_forgets g one) ∙ (ap (λ (x : HartState). forget (own x)) same ∙ own_forgets h other)

    none_lost : (o p : Option HartState) → lost o ≡ lost p → o ≡ None → p ≡ None
    none_lost o None same none = refl
    none_lost o (Some h) same none = absurd (none-some (forget h) (ap lost (sym none) ∙ same))

    some_lost : (o p : Option HartState) (g : HartState) → lost o ≡ lost p → o ≡ Some g →
        (h : HartState) × (p ≡ Some h) × (forget g ≡ forget h)
    some_lost o None g same some = absurd (none-some (forget g) (sym same ∙ ap lost some))
    some_lost o (Some h) g same some = (h, refl, same_Some (forget g) (forget h) (ap lost (sym some) ∙ same))

    -- where a hart comes to its next step isn't quiet
    come_end : (k : ℕ) (h g : HartState) → way k h ≡ Some g → quiet g ≡ false
    come_end zero h g is = elim (cases_Bool (quiet h)) [
      | inl holds ↦ absurd (none-some g (sym (come_none program [] hides h holds) ∙ is))
      | inr fails ↦
          subst (λ (x : HartState). quiet x ≡ false) (same_Some h g (sym (come_stop program [] hides 0 h fails) ∙ is)) fails
    ]
    come_end (suc k) h g is = elim (cases_Bool (quiet h)) [
      | inl holds ↦ come_end k (own h) g (sym (come_on program [] hides k h holds) ∙ is)
      | inr fails ↦
          subst (λ (x : HartState). quiet x ≡ false) (same_Some h g (sym (come_stop program [] hides (suc k) h fails) ∙ is)) fails
    ]

    abbrev steps : ℕ → HartState → ℕ
    steps k h = steps_to_rest program [] hides k h

    steps_alike : (k : ℕ) (g h : HartState) → forget g ≡ forget h → steps k g ≡ steps k h
    unfolding steps_to_rest
    steps_alike zero g h same = refl
    steps_alike (suc k) g h same =
        let alike : quiet g ≡ quiet h = sym (quiet_forgets g) ∙ (ap quiet same ∙ quiet_forgets h) in
        elim (cases_Bool (quiet h)) [
          | inl holds ↦
              let runs = quiet_runs g (alike ∙ holds) in
              let on = sym (own_forgets g runs) ∙ (ap (λ (x : HartState). forget (own x)) same ∙ own_forgets h (quiet_runs h holds)) in
              steps_on program [] hides k g (alike ∙ holds)
              ∙ (ap (λ (n : ℕ). suc n) (steps_alike k (own g) (own h) on) ∙ sym (steps_on program [] hides k h holds))
          | inr fails ↦
              steps_stop program [] hides (suc k) g (alike ∙ fails) ∙ sym (steps_stop program [] hides (suc k) h fails)
        ]

    pub steps_forget : (k : ℕ) (h : HartState) → steps k (forget h) ≡ steps k h
    steps_forget k h = steps_alike k (forget h) h (forgets.twice h)

    module _ (most : ℕ) where
      abbrev rested : HartState → HartState
      rested h = rest program [] hides most h

      pub rest_forgets : (h : HartState) → forget (rested (forget h)) ≡ forget (rested h)
      rest_forgets h =
          let same = way_alike most (forget h) h (forgets.twice h) in
          elim (option_cases (way most (forget h))) [
            | inl none ↦
                ap forget (rest_none program [] hides most (forget h) none)
                ∙ (forgets.twice h
                ∙ sym (ap forget (rest_none program [] hides most h (none_lost (way most (forget h)) (way most h) same none))))
            | inr some ↦
                let there = some_lost (way most (forget h)) (way most h) some.0 same some.1 in
                ap forget (rest_some program [] hides most (forget h) some.0 some.1)
                ∙ (there.2 ∙ sym (ap forget (rest_some program [] hides most h there.0 there.1)))
          ]

      pub forgotten_rests : (h : HartState) → rested (forget (rested h)) ≡ forget (rested h)
      forgotten_rests h = elim (option_cases (way most h)) [
        | inl none ↦
            let stays = rest_none program [] hides most h none in
            let lost_none = none_lost (way most h) (way most (forget h)) (sym (way_alike most (forget h) h (forgets.twice h))) none in
            ap (λ (x : HartState). rested (forget x)) stays
            ∙ (rest_none program [] hides most (forget h) lost_none ∙ sym (ap forget stays))
        | inr some ↦
            let there = rest_some program [] hides most h some.0 some.1 in
            let still = quiet_forgets some.0 ∙ come_end most h some.0 some.1 in
            ap (λ (x : HartState). rested (forget x)) there
            ∙ (rest_still program [] hides most (forget some.0) still ∙ sym (ap forget there))
      ]

      -- ---- the harts of a state

      pub rests_forget : (hs : List HartState) → map forget (map rested (map forget hs)) ≡ map forget (map rested hs)
      rests_forget [] = refl
      rests_forget (h ∷ hs) =
          ap (λ (g : HartState). g ∷ map forget (map rested (map forget hs))) (rest_forgets h)
          ∙ ap (λ (gs : List HartState). forget (rested h) ∷ gs) (rests_forget hs)

      pub all_rest : (hs : List HartState) → map rested (map forget (map rested hs)) ≡ map forget (map rested hs)
      all_rest [] = refl
      all_rest (h ∷ hs) =
          ap (λ (g : HartState). g ∷ map rested (map forget (map rested hs))) (forgotten_rests h)
          ∙ ap (λ (gs : List HartState). forget (rested h) ∷ gs) (all_rest hs)
