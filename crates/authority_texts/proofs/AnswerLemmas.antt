-- What was found is an answer.
use Rattle.std.proofs.Common.{◌≡◌, ℕ, suc, ◌<◌, List, [], ◌∷◌, length, Bool, true, refl, sym, ap, ◌∙◌, subst, inl, inr}
use Rattle.std.specs.Prelude.{Option, Some, IfSome, Result, Ok, Err, IfOk, slice_get, option_and_then, Vec}
use Rattle.std.specs.Global.{Global}
use Rattle.std.proofs.lemmas.Bool.{cases_lt}
use Rattle.std.proofs.lemmas.Option.{none-some, slice_get_past}
use Rattle.authorities.specs.Authorities.{AreGreatest, IsHeld, hart_values, memory_values}
use Rattle.authorities.specs.declared.rights.Authority.{Authority}
use Rattle.authorities.specs.declared.authority.Authorities.{Authorities}
use Rattle.authority_texts.specs.Answers.{AreBounds, AreFound, IsAuthorityAnswer}
use Rattle.authority_texts.specs.AuthorityTexts.{said}
use Rattle.authority_texts.specs.Told.{AreKnown, AreAllKnown, AreTold, AreAllTold}
use Rattle.authority_texts.specs.declared.told.Told.{Told}
use Rattle.cap_model.specs.values.CapValue.{CapValue}
use Rattle.cheri_model.specs.runs.Machine.{MachineState}
use Rattle.cheri_model.specs.runs.Replay.{replayed_state}
use Rattle.explore_rights.specs.Held.{Holds}
use Rattle.explore_rights.specs.Rights.{is_within}
use Rattle.explore_rights.specs.declared.rights.Rights.{Rights}
use Rattle.explore_rights.proofs.RightsLemmas.{within_self, within_trans}
use Rattle.explore_sights.specs.declared.sights.Sight.{Sight}
use Rattle.explore_sights.specs.declared.sights.Sight.TheVariants as sight
use Rattle.explore_turns.specs.Turns.{rest_of, rest_by}
use Rattle.shown_states.specs.Endings.{ending_of}
use Rattle.shown_states.specs.declared.form.Ending.{Ending}
use Rattle.shown_states.specs.declared.form.Format.{Format}
use Rattle.states.specs.Graphs.{state_in}
use Rattle.states.specs.Kept.{KeptParts, count, at, graph_of, IsKeptOf, IsSearch, AreAllKept}
use Rattle.states.specs.Searches.{SearchParts}

-- ---- the states are kept

at_within : (kept : KeptParts) (i : ℕ) (s : MachineState) → at kept i ≡ Some s → i < count kept
at_within kept i s is = elim (cases_lt i (count kept)) [
  | inl within ↦ within
  | inr past ↦
      absurd (none-some s (sym (ap (λ (row : Option (List ℕ)). option_and_then (state_in (graph_of kept)) row)
      (slice_get_past kept.nodes i past)) ∙ is))
]

known_list : (end : ℕ) (xs : List Authority) → ((k : ℕ) (a : Authority) → slice_get xs k ≡ Some a → a.first < end) → AreKnown end xs
known_list end [] each = tt
known_list end (x ∷ xs) each = (each 0 x refl, known_list end xs (λ k a is. each (suc k) a is))

pub greatest_known : (kept : KeptParts) (values : MachineState → List CapValue) (xs : List Authority) → AreGreatest (at kept) values xs
    → AreKnown (count kept) xs
unfolding IsHeld
greatest_known kept values xs greatest = known_list (count kept) xs (λ k a is.
    let held = (greatest.first k a is).held in at_within kept a.first held.0 held.1)

all_known_lists : (end : ℕ) (xs : List (Vec Authority Global))
    → ((k : ℕ) (a : Vec Authority Global) → slice_get xs k ≡ Some a → AreKnown end a.items) → AreAllKnown end xs
all_known_lists end [] each = tt
all_known_lists end (x ∷ xs) each = (each 0 x refl, all_known_lists end xs (λ k a is. each (suc k) a is))

pub harts_known : (kept : KeptParts) (harts : List (Vec Authority Global)) (memory : List Authority) → AreFound kept harts memory
    → AreAllKnown (count kept) harts
harts_known kept harts memory found = all_known_lists (count kept) harts (λ k xs is.
    greatest_known kept (hart_values k) xs.items (found.of_hart k xs is))

pub memory_known : (kept : KeptParts) (harts : List (Vec Authority Global)) (memory : List Authority) → AreFound kept harts memory
    → AreKnown (count kept) memory
memory_known kept harts memory found = greatest_known kept memory_values memory found.of_memory

-- ---- what was found

-- whatever is held lies within what is held in the state with each hart at its rest
abbrev pub RestsBound : KeptParts → (MachineState → List CapValue) → Type 0
RestsBound kept values = (s : MachineState) (r : Rights) → Holds (values s) r →
    (t : Rights) × Holds (values (rest_by kept.image kept.sweeps kept.sight s)) t × (is_within r t ≡ true)

bounds_of : (kept : KeptParts) (values : MachineState → List CapValue) (xs : List Authority) → RestsBound kept values
    → AreGreatest (at kept) values xs → AreAllKept kept → AreBounds kept.image kept.sweeps values xs
unfolding IsHeld
bounds_of kept values xs rests greatest all order allowed legal r holds =
    let state = replayed_state kept.image order in
    let there = all order allowed legal in
    let held = rests state r holds in
    let found = greatest.bounded there.0 held.0 (rest_by kept.image kept.sweeps kept.sight state, there.1, held.1) in
    (found.0, found.1, found.2, within_trans r held.0 found.1.rights held.2 found.3)

-- memory is the same
memory_rests : (kept : KeptParts) → RestsBound kept memory_values
unfolding rest_of
memory_rests kept s r holds = (r, holds, within_self r)

at_some : {X : Type 0} (P : X → Type 0) (o : Option X) (x : X) → o ≡ Some x → IfSome o P → P x
at_some P o x is so = subst (λ (q : Option _). IfSome q P) is so

are_found : (kept final : KeptParts) (harts : List (Vec Authority Global)) (memory : List Authority) (complete : Bool)
    → final ≡ kept → length harts ≡ length kept.image.harts
    → ((n : ℕ) → IfSome (slice_get harts n) (λ list. AreGreatest (at kept) (hart_values n) list.items))
    → AreGreatest (at kept) memory_values memory → complete ≡ kept.complete → (complete ≡ true → AreAllKept kept)
    → ((n : ℕ) → RestsBound kept (hart_values n)) → AreFound final harts memory
are_found kept final harts memory complete same size of_hart of_memory complete_is all rests =
    subst (λ (k : KeptParts). AreFound k harts memory) (sym same) (record {
      one_each = size;
      of_hart = λ n list is.
          at_some (λ (l : Vec Authority Global). AreGreatest (at kept) (hart_values n) l.items) (slice_get harts n) list is (of_hart n);
      of_memory = of_memory;
      hart_bounds = λ whole n list is.
          bounds_of kept (hart_values n) list.items (rests n)
          (at_some (λ (l : Vec Authority Global). AreGreatest (at kept) (hart_values n) l.items) (slice_get harts n) list is (of_hart n))
          (all (complete_is ∙ whole));
      memory_bounds = λ whole. bounds_of kept memory_values memory (memory_rests kept) of_memory (all (complete_is ∙ whole));
    })

pub found_is : {E : Type 0} (kept : KeptParts) (result : Result Authorities E) (complete : Bool)
    → IfOk result (λ found. found.kept ≡ kept)
    → IfOk result (λ found. length found.harts.items ≡ length kept.image.harts)
    → IfOk result (λ found. (n : ℕ) → IfSome (slice_get found.harts.items n)
    (λ list. AreGreatest (at kept) (hart_values n) list.items))
    → IfOk result (λ found. AreGreatest (at kept) memory_values found.memory.items)
    → complete ≡ kept.complete → (complete ≡ true → AreAllKept kept) → ((n : ℕ) → RestsBound kept (hart_values n))
    → IfOk result (λ found. AreFound found.kept found.harts.items found.memory.items)
found_is kept (Ok found) complete same size of_hart of_memory complete_is all rests =
    are_found kept found.kept found.harts.items found.memory.items complete same size of_hart of_memory complete_is all rests
found_is kept (Err fault) complete same size of_hart of_memory complete_is all rests = tt

pub kept_as : {E : Type 0} (search : SearchParts) (sees : Sight) (kept : KeptParts) (result : Result Authorities E)
    → IfOk result (λ found. found.kept ≡ kept) → IsKeptOf search sees kept → IfOk result (λ found. IsKeptOf search sees found.kept)
kept_as search sees kept (Ok found) same kept_of = rw same kept_of
kept_as search sees kept (Err fault) same kept_of = tt

-- ---- the answer

pub answer_is : (search : SearchParts) (kept : KeptParts) (format : Format) (harts : List (Vec Authority Global)) (memory : List Authority)
    (told_harts : List (Vec Told Global)) (told_memory : List Told) (text : List ℕ) (ending : Ending) → IsKeptOf search sight.Rights kept
    → kept.limit ≡ search.limit → IsSearch kept → AreFound kept harts memory → AreAllTold kept harts told_harts
    → AreTold kept memory told_memory → text ≡ said format kept.complete kept.image (count kept) told_harts told_memory
    → ending ≡ ending_of kept.complete → IsAuthorityAnswer search format text ending
answer_is search kept format harts memory told_harts told_memory text ending kept_of limit searched found harts_told memory_told text_is ending_is =
    record {
      kept = kept;
      kept_of = kept_of;
      limit_is = limit;
      searched = searched;
      harts = harts;
      memory = memory;
      found = found;
      told_harts = told_harts;
      told_memory = told_memory;
      harts_told = harts_told;
      memory_told = memory_told;
      text_is = text_is;
      ending_is = ending_is;
    }
