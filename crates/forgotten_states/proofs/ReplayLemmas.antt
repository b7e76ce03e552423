-- A walk of chosen states, by the numbers that harts have where none is chosen, label after label.
use Rattle.std.proofs.Common.{◌≡◌, ℕ, ◌+◌, ◌<◌, ◌≤◌, List, [], ◌∷◌, ◌++◌, length, drop, refl, sym, ap, ◌∙◌, subst, arith, inl, inr}
use Rattle.std.specs.Prelude.{Bool, true, false, Option, Some, None, slice_get, slice_index_or}
use Rattle.std.proofs.Math.Path.{fun_ext}
use Rattle.std.proofs.lemmas.Bool.{cases_eq, cases_lt}
use Rattle.std.proofs.lemmas.Option.{slice_get-get_or}
use Rattle.std.proofs.lemmas.List.{append_assoc, append-nil, drop_all, drop_more, get_or_append_left, get_or_default, get_or_past, get_or_push, length-append}
use Rattle.cheri_model.specs.runs.Image.{ImageParts}
use Rattle.cheri_model.specs.runs.Machine.{MachineState}
use Rattle.explore_sights.specs.declared.sights.Sight.{Sight}
use Rattle.forgotten_turns.specs.ForgottenTurns.{forgotten_start, forgotten_turn}
use Rattle.hart_order.specs.Arrangements.{IsUngrouped, arranged_state, group_of, place_in}
use Rattle.hart_order.specs.GroupedTurns.{grouped_start, machine_labels}
use Rattle.hart_symmetry.specs.Symmetry.{own_labels}
use Rattle.live_registers.specs.LiveSets.{LiveSets}
use Rattle.forgotten_states.specs.Graphs.{AreMoved, ForgottenParts, LeadsInOrder, forgotten_in}

-- where places say where harts stand
abbrev pub place_of : List ℕ → ℕ → ℕ
place_of places i = slice_index_or places i i

module _ (next : MachineState → ℕ → Option MachineState) (groups : List ℕ) where
  -- the labels of a walk from a state, by the numbers in these places
  abbrev pub own : List ℕ → MachineState → List ℕ → List ℕ
  own places s labels = own_labels next (arranged_state groups) (place_in groups) (place_of places) s labels

  own_none : (places : List ℕ) (s : MachineState) → own places s [] ≡ []
  unfolding own_labels
  own_none places s = refl

  own_stuck : (places : List ℕ) (s : MachineState) (l : ℕ) (ls : List ℕ) → next s l ≡ None →
      own places s (l ∷ ls) ≡ place_of places l ∷ []
  unfolding own_labels
  own_stuck places s l ls none = rw none

  own_on : (stood places : List ℕ) (s t : MachineState) (l : ℕ) (ls : List ℕ) → next s l ≡ Some t →
      AreMoved groups t stood places →
      own stood s (l ∷ ls) ≡ place_of stood l ∷ own places (arranged_state groups t) ls
  unfolding own_labels
  own_on stood places s t l ls goes moved =
      let along : (λ (i : ℕ). place_of stood (place_in groups t i)) ≡ place_of places = fun_ext (λ i. sym (moved i)) in
      rw goes (ap (λ (p : ℕ → ℕ). place_of stood l ∷ own_labels next (arranged_state groups) (place_in groups) p
      (arranged_state groups t) ls) along)

  -- What was told so far of the labels of a walk: the numbers of those before this one.
  pub record IsTold (labels told places : List ℕ) (i : ℕ) (start : List ℕ) (s t : MachineState) : Type 0 where
    pub same : own start s labels ≡ told ++ own places t (drop i labels)

  pub told_none : (labels start : List ℕ) (s : MachineState) → IsTold labels [] start 0 start s s
  told_none labels start s = record { same = refl }

  -- the label in hand
  label_of : (places : List ℕ) (l : ℕ) → l < length places → place_of places l ≡ slice_index_or places l 0
  label_of places l there = get_or_default places l l 0 there

  pub told_more : (labels told stood places : List ℕ) (i : ℕ) (start : List ℕ) (s t u : MachineState) (l : ℕ) →
      IsTold labels told stood i start s t → i < length labels → l ≡ slice_index_or labels i 0 → l < length stood →
      next t l ≡ Some u → AreMoved groups u stood places →
      IsTold labels (told ++ slice_index_or stood l 0 ∷ []) places (i + 1) start s (arranged_state groups u)
  told_more labels told stood places i start s t u l so low is there goes moved = record {
    same = so.same ∙ (ap (λ (ls : List ℕ). told ++ own stood t ls) (drop_more labels i 0 low)
        ∙ (ap (λ (k : ℕ). told ++ own stood t (k ∷ drop (i + 1) labels)) (sym is)
        ∙ (ap (λ (ls : List ℕ). told ++ ls) (own_on stood places t u l (drop (i + 1) labels) goes moved)
        ∙ (ap (λ (k : ℕ). told ++ k ∷ own places (arranged_state groups u) (drop (i + 1) labels)) (label_of stood l there)
        ∙ sym (append_assoc told (slice_index_or stood l 0 ∷ []) (own places (arranged_state groups u) (drop (i + 1) labels)))))));
  }

  -- all was told where the labels end, or where one leads nowhere
  pub told_all : (labels told places : List ℕ) (i : ℕ) (start : List ℕ) (s t : MachineState) →
      IsTold labels told places i start s t → length labels ≤ i → told ≡ own start s labels
  told_all labels told places i start s t so end =
      sym (so.same ∙ (ap (λ (ls : List ℕ). told ++ own places t ls) (drop_all i labels end)
      ∙ (ap (λ (ls : List ℕ). told ++ ls) (own_none places t) ∙ append-nil told)))

  pub told_stuck : (labels told places : List ℕ) (i : ℕ) (start : List ℕ) (s t : MachineState) (l : ℕ) →
      IsTold labels told places i start s t → i < length labels → l ≡ slice_index_or labels i 0 → l < length places →
      next t l ≡ None → told ++ slice_index_or places l 0 ∷ [] ≡ own start s labels
  told_stuck labels told places i start s t l so low is there none =
      sym (so.same ∙ (ap (λ (ls : List ℕ). told ++ own places t ls) (drop_more labels i 0 low)
      ∙ (ap (λ (k : ℕ). told ++ own places t (k ∷ drop (i + 1) labels)) (sym is)
      ∙ (ap (λ (ls : List ℕ). told ++ ls) (own_stuck places t l (drop (i + 1) labels) none)
      ∙ ap (λ (k : ℕ). told ++ k ∷ []) (label_of places l there)))))

-- a turn that led somewhere, and one that didn't
pub went : (parts : ForgottenParts) (leads : Bool) (row stood places : List ℕ) (end : Option MachineState) → leads ≡ true →
    LeadsInOrder parts leads row stood places end → LeadsInOrder parts true row stood places end
went parts leads row stood places end holds leading =
    subst (λ (b : Bool). LeadsInOrder parts b row stood places end) holds leading

pub stuck : (parts : ForgottenParts) (leads : Bool) (row stood places : List ℕ) (end : Option MachineState) → leads ≡ false →
    LeadsInOrder parts leads row stood places end → end ≡ None
stuck parts leads row stood places end fails leading =
    subst (λ (b : Bool). LeadsInOrder parts b row stood places end) fails leading

-- the label in hand is a hart's number
pub label_low : (labels : List ℕ) (count : ℕ) → ((i label : ℕ) → slice_get labels i ≡ Some label → label < count) → (i : ℕ) →
    i < length labels → slice_index_or labels i 0 < count
label_low labels count below i low = below i (slice_index_or labels i 0) (slice_get-get_or labels i 0 low)

-- no hart so far is of a group
pub none_more : (groups : List ℕ) (count : ℕ) → ((i : ℕ) → i < count → group_of groups i ≡ 0) → group_of groups count ≡ 0 →
    (i : ℕ) → i < count + 1 → group_of groups i ≡ 0
none_more groups count none here i below = elim (cases_lt i count) [
  | inl low ↦ none i low
  | inr past ↦ let is : i ≡ count = omega arith in ap (group_of groups) is ∙ here
]

pub none_all : (groups : List ℕ) (count : ℕ) → length groups ≤ count → ((i : ℕ) → i < count → group_of groups i ≡ 0) →
    IsUngrouped groups
none_all groups count all none i = elim (cases_lt i count) [
  | inl low ↦ none i low
  | inr past ↦ get_or_past groups i 0 (omega arith)
]

-- places in which each hart has its own, and one more of them
pub place_more : (places : List ℕ) (count : ℕ) → length places ≡ count → ((i : ℕ) → place_of places i ≡ i) → (i : ℕ) →
    place_of (places ++ count ∷ []) i ≡ i
place_more places count same own i = elim (cases_lt i count) [
  | inl low ↦ get_or_append_left places (count ∷ []) i i (omega arith) ∙ own i
  | inr past ↦ elim (cases_eq i count) [
    | inl is ↦ get_or_push places count i i (same ∙ sym is) ∙ sym is
    | inr beyond ↦ get_or_past (places ++ count ∷ []) i i (omega (arith, length-append places (count ∷ [])))
  ]
]

-- the labels of a walk from the start
pub from_start : (image : ImageParts) (sight : Sight) (live : LiveSets) (groups places stood labels : List ℕ) →
    AreMoved groups (forgotten_start image sight live) stood places → ((i : ℕ) → place_of stood i ≡ i) →
    own (forgotten_turn image sight live) groups places (grouped_start image sight live groups) labels
    ≡ machine_labels image sight live groups labels
from_start image sight live groups places stood labels moved each =
    let start = forgotten_start image sight live in
    ap (λ (p : ℕ → ℕ). own_labels (forgotten_turn image sight live) (arranged_state groups) (place_in groups) p
    (grouped_start image sight live groups) labels) (fun_ext (λ i. moved i ∙ each (place_in groups start i)))

-- the same, as a graph of these turns tells them
pub retold : (g : ForgottenParts) (image : ImageParts) (sight : Sight) (live : LiveSets)
    (groups given places stood labels told : List ℕ) → forgotten_in g ≡ forgotten_turn image sight live → g.groups ≡ groups →
    given ≡ places → AreMoved groups (forgotten_start image sight live) stood places → ((i : ℕ) → place_of stood i ≡ i) →
    told ≡ own (forgotten_in g) g.groups given (grouped_start image sight live groups) labels →
    told ≡ machine_labels image sight live groups labels
retold g image sight live groups given places stood labels told turns groups_are given_are moved each is =
    let start = grouped_start image sight live groups in
    is ∙ (ap (λ (f : MachineState → ℕ → Option MachineState). own f g.groups given start labels) turns
    ∙ (ap (λ (gs : List ℕ). own (forgotten_turn image sight live) gs given start labels) groups_are
    ∙ (ap (λ (ps : List ℕ). own (forgotten_turn image sight live) groups ps start labels) given_are
    ∙ from_start image sight live groups places stood labels moved each)))
