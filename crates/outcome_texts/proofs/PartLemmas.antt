-- An outcome in parts.
use Rattle.std.proofs.Common.{◌≡◌, ℕ, ◌+◌, List, [], ◌++◌, length, refl, sym, ap, ◌∙◌, append_assoc, Result, OnOk}
use Rattle.std.specs.Prelude.{Some, IsSome}
use Rattle.cheri_model.specs.runs.Machine.{MachineState}
use Rattle.outcome_texts.specs.OutcomeParts.{kept_part, outcome_part}
use Rattle.outcome_texts.specs.Told.{kept_state}
use Rattle.outcome_texts.specs.declared.told.Outcome.{Outcome}
use Rattle.shown_states.specs.declared.form.Format.{Format}
use Rattle.shown_states.specs.Meant.{state_meant}
use Rattle.shown_states.proofs.LoadLemmas.{memory_size}
use Rattle.state_store.specs.Stores.{Stored, state_of}
use Rattle.state_store.proofs.NumberedLemmas.{some_of}
use Rattle.state_store.proofs.SeenLemmas.{seen_count}
use Rattle.states.specs.Kept.{KeptParts, at}

regrouped : (a b c d : List ℕ) → ((a ++ b) ++ c) ++ d ≡ a ++ (b ++ (c ++ d))
regrouped a b c d = simp append_assoc

-- what stands before, the state and what stands after are the whole
joined : (out kept before shown after whole : List ℕ) → kept ≡ out ++ before → whole ≡ before ++ (shown ++ after)
    → (kept ++ shown) ++ after ≡ out ++ whole
joined out kept before shown after whole is parts = rw (is, parts) (regrouped out before shown after)

pub outcome_written : {E : Type 0} (result : Result (Unit {0}) E) (out kept now last before shown after whole : List ℕ)
    → kept ≡ out ++ before → now ≡ kept ++ shown → whole ≡ before ++ (shown ++ after) → OnOk result (last ≡ now ++ after)
    → OnOk result (last ≡ out ++ whole)
outcome_written result out kept now last before shown after whole is state parts written =
    rw (joined out kept before shown after whole is parts) at (rw state at written)

-- three parts, one after another
pub in_three : (none first second third head items tail : List ℕ) → none ≡ [] → first ≡ none ++ head → second ≡ first ++ items
    → third ≡ second ++ tail → third ≡ (head ++ items) ++ tail
in_three none first second third head items tail is one two three = rw (three, two, one, is) refl

-- a state that was loaded is the kept one, and has as many harts and granules as the image says
pub loaded_is : (kept : KeptParts) (number : ℕ) (store : Stored) (row : List ℕ) (loaded : MachineState)
    → at kept number ≡ state_of store row → IsSome (state_of store row)
    → ((s : MachineState) → state_of store row ≡ Some s → loaded ≡ s) → loaded ≡ kept_state kept number
loaded_is kept number store row loaded is some each =
    let s = some_of (state_of store row) some in
    each s.0 s.1 ∙ sym (ap state_meant (is ∙ s.1))

pub loaded_sizes : (store : Stored) (row : List ℕ) (loaded : MachineState) → IsSome (state_of store row)
    → ((s : MachineState) → state_of store row ≡ Some s → loaded ≡ s)
    → (length row ≡ length loaded.harts + 1) × (length loaded.memory ≡ store.granules)
loaded_sizes store row loaded some each =
    let s = some_of (state_of store row) some in
    rw (each s.0 s.1) (seen_count store row s.0 s.1, memory_size store row s.0 s.1)

-- the part of an outcome is that of the state that was loaded
pub part_of : (format : Format) (kept : KeptParts) (number : ℕ) (outcome : Outcome) (state : MachineState) (out : List ℕ)
    → state ≡ kept_state kept outcome.state
    → out ++ outcome_part format state number outcome ≡ out ++ kept_part format kept number outcome
unfolding kept_part
part_of format kept number outcome state out is =
    ap (λ (s : MachineState). out ++ outcome_part format s number outcome) is
