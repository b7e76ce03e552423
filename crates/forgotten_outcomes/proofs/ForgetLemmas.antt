-- What items hold in a state that has forgotten, and whether a hart runs there.
use Rattle.std.proofs.Common.{◌≡◌, ℕ, zero, suc, List, [], ◌∷◌, map, get_or, refl, sym, ap, ◌∙◌, inl, inr}
use Rattle.std.specs.Prelude.{Bool, true, ◌&&◌}
use Rattle.std.specs.List.{AllByRecursion, list_all}
use Rattle.std.proofs.lemmas.Bool.{and_from, and_parts, cases_Bool}
use Rattle.std.proofs.lemmas.List.Elements.{recursion_from_All}
use Rattle.asked_registers.proofs.HoldingLemmas.{all_same}
use Rattle.asked_registers.specs.Asked.{HasAsked, ShowsSame, items_ask}
use Rattle.cheri_model.specs.declared.instr.Instr.{Instr}
use Rattle.cheri_model.specs.declared.trace.Status.{Status}
use Rattle.cheri_model.specs.runs.Machine.{MachineState, hart_at, no_hart}
use Rattle.cheri_model.specs.steps.Hart.{HartState}
use Rattle.conditions.specs.declared.parts.Shown.{Shown}
use Rattle.conditions.specs.declared.parts.Shown.TheVariants as shown
use Rattle.explore_sights.specs.Sights.{hides}
use Rattle.explore_sights.specs.declared.sights.Sight.TheVariants.{NoStep}
use Rattle.forgotten_runs.specs.ForgottenRuns.{forgotten_state}
use Rattle.forgotten_turns.specs.ForgottenTurns.{HidesForgotten}
use Rattle.hart_symmetry.proofs.RenamingLemmas.{renaming_other}
use Rattle.hart_symmetry.specs.Named.{NamedStay}
use Rattle.hart_symmetry.specs.Renaming.{IsRenaming, PassesRenamed}
use Rattle.live_registers.specs.LiveSets.{IsRight, LiveSets, forgotten_hart}
use Rattle.live_registers.specs.RegisterSets.{forgotten}
use Rattle.named_items.proofs.ShownLemmas.{items_same}
use Rattle.named_items.specs.NamedItems.{items_name}
use Rattle.outcomes.specs.Items.{status_value, value_of, values_of}
use Rattle.outcomes.specs.Outcomes.{is_final, is_stopped}
use Rattle.outcomes.specs.declared.items.ItemValue.{ItemValue}
use Rattle.outcomes.specs.declared.items.ItemValue.TheVariants.{Number}

-- ---- no hart runs

stopped_same : (live : LiveSets) (hs : List HartState) → list_all is_stopped (map (forgotten_hart live) hs) ≡ list_all is_stopped hs
unfolding forgotten_hart forgotten
stopped_same live [] = refl
stopped_same live (h ∷ hs) = ap (λ (b : Bool). is_stopped h && b) (stopped_same live hs)

pub final_same : (live : LiveSets) (s : MachineState) → is_final (forgotten_state live s) ≡ is_final s
unfolding is_final forgotten_state
final_same live s = stopped_same live s.harts

-- of each number, there being none that runs past the end
all_stopped : (hs : List HartState) (i : ℕ) → list_all is_stopped hs ≡ true → is_stopped (get_or hs i no_hart) ≡ true
all_stopped [] i all = refl
all_stopped (h ∷ hs) zero all = (and_parts (is_stopped h) (list_all is_stopped hs) all).0
all_stopped (h ∷ hs) (suc i) all = all_stopped hs i (and_parts (is_stopped h) (list_all is_stopped hs) all).1

each_stopped : (hs : List HartState) → ((i : ℕ) → is_stopped (get_or hs i no_hart) ≡ true) → list_all is_stopped hs ≡ true
each_stopped [] each = refl
each_stopped (h ∷ hs) each = and_from (is_stopped h) (list_all is_stopped hs) (each 0) (each_stopped hs (λ i. each (suc i)))

module _ (stays : ℕ → Bool) where
  final_too : (one other : MachineState) → IsRenaming stays one other → is_final one ≡ true → is_final other ≡ true
  unfolding is_final hart_at
  final_too one other renaming final =
      each_stopped other.harts (λ i. ap is_stopped (renaming.1.harts i) ∙ all_stopped one.harts (renaming.0 i) final)

  -- no hart runs just where none does with the harts in another order
  pub final_renamed : PassesRenamed stays is_final
  final_renamed one other renaming = elim (cases_Bool (is_final one)) [
    | inl final ↦ final_too one other renaming final ∙ sym final
    | inr runs ↦ elim (cases_Bool (is_final other)) [
      | inl final ↦ final ∙ sym (final_too other one (renaming_other stays one other renaming) final)
      | inr too ↦ too ∙ sym runs
    ]
  ]

-- ---- items

value_same : (one other : MachineState) (item : Shown) → ShowsSame one other item → value_of one item ≡ value_of other item
unfolding ShowsSame value_of
value_same one other (shown.Number place) same = ap (λ (n : ℕ). Number n) same
value_same one other (shown.Status hart) same = ap (λ (status : Status). status_value status) same

shown_same : (one other : MachineState) (items : List Shown) → AllByRecursion (ShowsSame one other) items →
    values_of items one ≡ values_of items other
unfolding values_of
shown_same one other [] all = refl
shown_same one other (item ∷ items) all =
    ap (λ (v : ItemValue). v ∷ map (value_of one) items) (value_same one other item all.0)
    ∙ ap (λ (vs : List ItemValue). value_of other item ∷ vs) (shown_same one other items all.1)

pub values_same : (program : List Instr) (live : LiveSets) → IsRight program live → (s : MachineState) (items : List Shown) →
    HasAsked live.asked (items_ask items) → values_of items (forgotten_state live s) ≡ values_of items s
values_same program live right s items asked =
    shown_same (forgotten_state live s) s items
    (recursion_from_All (ShowsSame (forgotten_state live s) s) items (all_same program live right s items asked))

-- what items hold with the harts in another order, where those that they name stay
pub values_renamed : (stays : ℕ → Bool) (items : List Shown) → NamedStay stays (items_name items) → (one other : MachineState) →
    IsRenaming stays one other → values_of items other ≡ values_of items one
values_renamed stays items named one other renaming =
    shown_same other one items (recursion_from_All (ShowsSame other one) items (items_same stays items named one other renaming))

-- ---- steps

-- where no step is seen, nothing is seen of what is forgotten
pub nothing_seen : (live : LiveSets) → HidesForgotten live (hides NoStep)
unfolding hides
nothing_seen live before after = refl
