-- States in which no hart runs, one more state at a time.
use Rattle.std.proofs.Common.{◌≡◌, ℕ, zero, suc, ◌+◌, ◌<◌, ◌≤◌, List, [], ◌∷◌, ◌++◌, length, refl, sym, ap, ◌∙◌, subst, arith, inl, inr}
use Rattle.std.specs.Prelude.{Option, Some, true, false}
use Rattle.std.proofs.Common.{Bool, not, take}
use Rattle.std.specs.List.{list_all}
use Rattle.std.specs.Prelude.{slice_index_or, option_and_then, IsSome}
use Rattle.std.proofs.lemmas.Bool.{cases_eq, cases_lt, and_parts, and_from, and_left, and_right}
use Rattle.std.proofs.lemmas.List.{take_more, take_all}
use Rattle.cheri_model.specs.steps.Hart.{HartState}
use Rattle.cheri_model.specs.runs.Machine.{hart_at, is_running, no_hart}
use Rattle.std.proofs.lemmas.Option.{none-some, slice_get_within, slice_get_past}
use Rattle.cheri_model.specs.runs.Machine.{MachineState}
use Rattle.outcomes.specs.Outcomes.{AreOutcomesBelow, is_final, is_stopped}
use Rattle.states.specs.Graphs.{state_in}
use Rattle.states.specs.Kept.{KeptParts, count, at, graph_of}
use Rattle.outcomes.proofs.TableLemmas.{get_more, get_last}
use Rattle.state_store.proofs.NumberedLemmas.{get-append, some_of}
use Rattle.shown_states.specs.Meant.{state_meant}

nothing : (n : ℕ) → n < 0 → ⊥
nothing n less = omega arith

pub finals_none : (at : ℕ → Option MachineState) → AreOutcomesBelow at 0 []
finals_none at = record {
  each = λ k n is. absurd (none-some n is);
  all = λ n s less there final. absurd (nothing n less);
  ascending = λ j k m n less is also. absurd (none-some m is);
}

module _ (at : ℕ → Option MachineState) (end : ℕ) (xs : List ℕ) (are : AreOutcomesBelow at end xs) where
  -- the next one is final
  pub finals_pushed : ((s : MachineState) → at end ≡ Some s → is_final s ≡ true) → AreOutcomesBelow at (end + 1) (xs ++ end ∷ [])
  finals_pushed final = record {
    each = λ k n is. elim (get_more xs end n k is) [
      | inl there ↦ let one = are.each k n there in (omega (arith, one.0), one.1)
      | inr last ↦ (
        omega (arith, last.1),
        λ s is_s. final s (ap at (sym last.1) ∙ is_s),
      )
    ];
    all = λ n s less there so. elim (cases_eq n end) [
      | inl same ↦ (
        length xs,
        get_last xs end ∙ ap Some (sym same),
      )
      | inr other ↦
          let one = are.all n s (omega (arith, other)) there so in
          (one.0, get-append xs (end ∷ []) one.0 n one.1)
    ];
    ascending = λ j k m n less is also. elim (get_more xs end n k also) [
      | inl there ↦ elim (get_more xs end m j is) [
        | inl here ↦ are.ascending j k m n less here there
        | inr past ↦ omega (arith, past.0, slice_get_within xs k n there)
      ]
      | inr last ↦ elim (get_more xs end m j is) [
        | inl here ↦ let one = are.each j m here in omega (arith, one.0, last.1)
        | inr past ↦ omega (arith, past.0, last.0)
      ]
    ];
  }

  -- the next one is not
  pub finals_same : ((s : MachineState) → at end ≡ Some s → is_final s ≡ false) → AreOutcomesBelow at (end + 1) xs
  finals_same running = record {
    each = λ k n is. let one = are.each k n is in (omega (arith, one.0), one.1);
    all = λ n s less there so. elim (cases_eq n end) [
      | inl same ↦ cc (so, running s (ap at (sym same) ∙ there))
      | inr other ↦ are.all n s (omega (arith, other)) there so
    ];
    ascending = are.ascending;
  }

-- ---- no hart runs

all_more : {X : Type 0} (p : X → Bool) (xs : List X) (x : X) → list_all p xs ≡ true → p x ≡ true → list_all p (xs ++ x ∷ []) ≡ true
all_more p [] x all so = rw so refl
all_more p (y ∷ xs) x all so = let parts = and_parts (p y) (list_all p xs) all in and_from (p y) (list_all p (xs ++ x ∷ [])) parts.0 (all_more p xs x parts.1 so)

all_false : {X : Type 0} (p : X → Bool) (xs : List X) (i : ℕ) (d : X) → i < length xs → p (slice_index_or xs i d) ≡ false → list_all p xs ≡ false
all_false p [] i d within so = absurd (nothing i within)
all_false p (y ∷ xs) zero d within so = and_left (p y) (list_all p xs) so
all_false p (y ∷ xs) (suc i) d within so = and_right (p y) (list_all p xs) (all_false p xs i d (omega arith) so)

-- one more hart does not run
pub stopped_more : (s : MachineState) (i : ℕ) → i < length s.harts → list_all is_stopped (take i s.harts) ≡ true
    → not (is_running (hart_at s i).status) ≡ true → list_all is_stopped (take (i + 1) s.harts) ≡ true
unfolding hart_at
stopped_more s i within all so =
    subst (λ (hs : List HartState). list_all is_stopped hs ≡ true) (sym (take_more s.harts i no_hart within))
    (all_more is_stopped (take i s.harts) (slice_index_or s.harts i no_hart) all so)

-- it runs
pub one_runs : (s : MachineState) (i : ℕ) → i < length s.harts → not (is_running (hart_at s i).status) ≡ false → is_final s ≡ false
unfolding hart_at is_final
one_runs s i within so = all_false is_stopped s.harts i no_hart within so

pub all_stopped : (s : MachineState) (i : ℕ) → length s.harts ≤ i → list_all is_stopped (take i s.harts) ≡ true → is_final s ≡ true
unfolding is_final
all_stopped s i past all = subst (λ (hs : List HartState). list_all is_stopped hs ≡ true) (take_all i s.harts past) all

-- ---- a state that is kept has a number below their count

pub at_within : (kept : KeptParts) (i : ℕ) (s : MachineState) → at kept i ≡ Some s → i < count kept
at_within kept i s is = elim (cases_lt i (count kept)) [
  | inl within ↦ within
  | inr past ↦
      absurd (none-some s (sym (ap (λ (row : Option (List ℕ)). option_and_then (state_in (graph_of kept)) row)
      (slice_get_past kept.nodes i past)) ∙ is))
]

pub finals_end : (at : ℕ → Option MachineState) (count end : ℕ) (xs : List ℕ) → end ≡ count → AreOutcomesBelow at end xs
    → AreOutcomesBelow at count xs
finals_end at count end xs is are = subst (λ (e : ℕ). AreOutcomesBelow at e xs) is are

-- the state that was seen is the one of the number
pub meant_is : (there row : Option MachineState) (seen : MachineState) → there ≡ row → IsSome row
    → ((s : MachineState) → row ≡ Some s → seen ≡ s) → seen ≡ state_meant there
meant_is there row seen same some is =
    let s = some_of row some in is s.0 s.1 ∙ sym (ap state_meant (same ∙ s.1))

-- one state more was judged
pub finals_judged : (at : ℕ → Option MachineState) (number : ℕ) (seen : MachineState) (xs : List ℕ) → seen ≡ state_meant (at number)
    → is_final seen ≡ true → AreOutcomesBelow at number xs → AreOutcomesBelow at (number + 1) (xs ++ number ∷ [])
finals_judged at number seen xs same final are =
    finals_pushed at number xs are (λ s there. ap is_final (sym (same ∙ ap state_meant there)) ∙ final)

pub others_judged : (at : ℕ → Option MachineState) (number : ℕ) (seen : MachineState) (xs : List ℕ) → seen ≡ state_meant (at number)
    → is_final seen ≡ false → AreOutcomesBelow at number xs → AreOutcomesBelow at (number + 1) xs
others_judged at number seen xs same running are =
    finals_same at number xs are (λ s there. ap is_final (sym (same ∙ ap state_meant there)) ∙ running)

pub ruleset finals = (finals_none, finals_end, stopped_more, one_runs, all_stopped, finals_judged, others_judged, meant_is)
