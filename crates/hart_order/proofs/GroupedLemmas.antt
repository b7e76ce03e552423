-- Turns after which harts of one group stand in order.
use Rattle.std.proofs.Common.{◌≡◌, ℕ, List, [], ◌∷◌, refl, ap, sym, ◌∙◌, subst, get_or}
use Rattle.std.specs.Prelude.{Option, Some, None, option_map, unwrap_or}
use Rattle.std.proofs.Math.Path.{fun_ext}
use Rattle.std.proofs.lemmas.Bool.{eq-eqb, eqb-true}
use Rattle.std.proofs.lemmas.List.{ext_get_or}
use Rattle.std.proofs.lemmas.Option.{option_and_then_some}
use Rattle.cap_model.specs.values.CapValue.{CapValue}
use Rattle.cheri_model.specs.runs.Image.{ImageParts}
use Rattle.cheri_model.specs.runs.Machine.{MachineState, hart_at, no_hart}
use Rattle.cheri_model.specs.steps.Hart.{HartState}
use Rattle.explore_sights.specs.declared.sights.Sight.{Sight}
use Rattle.forgotten_turns.specs.ForgottenTurns.{forgotten_start, forgotten_turn}
use Rattle.graph_merging.specs.Merging.{merged}
use Rattle.graph_merging.proofs.MergingLemmas.{merged_some}
use Rattle.graph_search.specs.Walks.{IsWalk, after}
use Rattle.live_registers.specs.LiveSets.{LiveSets}
use Rattle.hart_symmetry.specs.Renaming.{IsRenaming, Renames, RenamesFrom}
use Rattle.hart_symmetry.specs.Symmetry.{own_labels}
use Rattle.hart_symmetry.proofs.TurnLemmas.{chosen_own, forgotten_start_fits}
use Rattle.hart_order.specs.Arrangements.{IsUngrouped, OthersStay, arranged_state, group_of, place_in}
use Rattle.hart_order.specs.GroupedTurns.{grouped_start, grouped_turn, keeps_number, machine_labels}
use Rattle.hart_order.proofs.PlaceLemmas.{stays_place, stays_state}
use Rattle.hart_order.proofs.RenamedLemmas.{arranged_renamed}

kept_numbers : (groups : List ℕ) → OthersStay groups (keeps_number groups)
kept_numbers groups hart stay = eqb-true (group_of groups hart) 0 stay

pub renames_from : (groups : List ℕ) → RenamesFrom (keeps_number groups) (arranged_state groups) (place_in groups)
renames_from groups s = arranged_renamed groups (keeps_number groups) (kept_numbers groups) s

pub renames : (groups : List ℕ) → Renames (keeps_number groups) (arranged_state groups)
renames groups s = (place_in groups s, renames_from groups s)

pub machine_walk : (image : ImageParts) (sight : Sight) (live : LiveSets) (groups labels : List ℕ) (r : MachineState) →
    IsWalk (grouped_turn image sight live groups) (grouped_start image sight live groups) labels r →
    (s : MachineState) × IsWalk (forgotten_turn image sight live) (forgotten_start image sight live)
    (machine_labels image sight live groups labels) s × IsRenaming (keeps_number groups) s r
machine_walk image sight live groups labels r walk =
    let own = chosen_own image sight live (keeps_number groups) (arranged_state groups) (place_in groups) (renames_from groups)
    (forgotten_start image sight live) r labels (forgotten_start_fits image sight live) walk in
    (own.0, own.2, (own.1, own.3))

module _ (groups : List ℕ) (none : IsUngrouped groups) where
  pub same_start : (image : ImageParts) (sight : Sight) (live : LiveSets) →
      grouped_start image sight live groups ≡ forgotten_start image sight live
  same_start image sight live = stays_state groups none (forgotten_start image sight live)

  same_option : (o : Option MachineState) → option_map (arranged_state groups) o ≡ o
  same_option None = refl
  same_option (Some s) = ap (λ (t : MachineState). Some t) (stays_state groups none s)

  pub same_turn : (image : ImageParts) (sight : Sight) (live : LiveSets) (s : MachineState) (label : ℕ) →
      grouped_turn image sight live groups s label ≡ forgotten_turn image sight live s label
  same_turn image sight live s label = same_option (forgotten_turn image sight live s label)

  -- the harts of a state under other numbers are those of the state
  pub ungrouped_same : (s r : MachineState) → IsRenaming (keeps_number groups) s r → r ≡ s
  unfolding hart_at
  ungrouped_same s r (from, is) =
      let stay : (i : ℕ) → from i ≡ i = λ i. is.staying i (eq-eqb (group_of groups i) 0 (none i)) in
      let harts : r.harts ≡ s.harts = ext_get_or no_hart r.harts s.harts is.count
      (λ i below. is.harts i ∙ ap (λ (k : ℕ). get_or s.harts k no_hart) (stay i)) in
      ap (λ (hs : List HartState). record r { harts = hs }) harts
      ∙ ap (λ (m : List CapValue). record s { memory = m }) is.memory

  pub turns_ungrouped : (image : ImageParts) (sight : Sight) (live : LiveSets) →
      grouped_turn image sight live groups ≡ forgotten_turn image sight live
  turns_ungrouped image sight live = fun_ext (λ s. fun_ext (λ label. same_turn image sight live s label))

  pub start_ungrouped : (image : ImageParts) (sight : Sight) (live : LiveSets) →
      grouped_start image sight live groups ≡ forgotten_start image sight live
  start_ungrouped image sight live = same_start image sight live

  -- labels say the numbers that harts have in the machine
  own_same : (next : MachineState → ℕ → Option MachineState) (place : ℕ → ℕ) → ((i : ℕ) → place i ≡ i) →
      (s r : MachineState) (labels : List ℕ) → IsWalk (merged next (arranged_state groups)) s labels r →
      own_labels next (arranged_state groups) (place_in groups) place s labels ≡ labels
  unfolding own_labels
  own_same next place same s r [] walk = refl
  own_same next place same s r (l ∷ ls) walk =
      option_and_then_some (λ (x : MachineState). after (merged next (arranged_state groups)) x ls)
      (merged next (arranged_state groups) s l) r walk (λ x goes rest.
      let step = merged_some (arranged_state groups) (next s l) x goes in
      let y = step.0 in
      let tail = own_same next (λ i. place (place_in groups y i)) (λ i. same (place_in groups y i) ∙ stays_place groups none y i)
      (arranged_state groups y) r ls
      (subst (λ (z : MachineState). IsWalk (merged next (arranged_state groups)) z ls r) (sym step.2) rest) in
      let labels : Option MachineState → List ℕ = λ o.
      unwrap_or (option_map (λ z. own_labels next (arranged_state groups) (place_in groups)
      (λ i. place (place_in groups z i)) (arranged_state groups z) ls) o) [] in
      ap (λ (k : ℕ). k ∷ labels (next s l)) (same l)
      ∙ ap (λ (ks : List ℕ). l ∷ ks) (ap labels step.1 ∙ tail))

  pub labels_ungrouped : (image : ImageParts) (sight : Sight) (live : LiveSets) (r : MachineState) (labels : List ℕ) →
      IsWalk (grouped_turn image sight live groups) (grouped_start image sight live groups) labels r →
      machine_labels image sight live groups labels ≡ labels
  labels_ungrouped image sight live r labels walk =
      own_same (forgotten_turn image sight live) (place_in groups (forgotten_start image sight live))
      (stays_place groups none (forgotten_start image sight live)) (grouped_start image sight live groups) r labels walk
