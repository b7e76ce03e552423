-- Turns after each of which harts forget lead to what the states forget to be that turns lead to.
use Rattle.std.proofs.Common.{◌≡◌, ℕ, List, [], ◌∷◌, map, refl, sym, ap, ◌∙◌, inl, inr}
use Rattle.std.specs.Prelude.{Bool, true, Option, Some, None, option_map, option_and_then, if◌then◌else◌}
use Rattle.std.proofs.lemmas.Bool.{cases_Bool}
use Rattle.cheri_model.specs.declared.operation.Op.{Op}
use Rattle.cap_model.specs.values.CapValue.{CapValue}
use Rattle.cheri_model.specs.runs.Image.{ImageParts}
use Rattle.cheri_model.specs.runs.Machine.{MachineState, may_take, state_after_one}
use Rattle.cheri_model.specs.steps.Hart.{HartState}
use Rattle.explore_turns.specs.QuietSteps.{rest}
use Rattle.explore_turns.specs.Turns.{rest_of, turn}
use Rattle.graph_merging.specs.Merging.{merged}
use Rattle.graph_search.specs.Walks.{after}
use Rattle.schedules.specs.Schedules.{next, operation_of_label, taken}
use Rattle.forgotten_turns.proofs.ForgettingLemmas.{Forgets, rests_forget, all_rest}

module _ (image : ImageParts) (forget : HartState → HartState) (forgets : Forgets image.program forget)
    (hides : HartState → HartState → Bool)
    (hidden : (before after : HartState) → hides (forget before) (forget after) ≡ hides before after) (most : ℕ) where
  abbrev rested : HartState → HartState
  rested h = rest image.program [] hides most h

  abbrev made : List HartState → List CapValue → MachineState
  made harts memory = record { harts = harts; memory = memory }

  abbrev lose : MachineState → MachineState
  lose s = record s { harts = map forget s.harts }

  abbrev merge : MachineState → MachineState
  merge s = rest_of image [] hides most s

  abbrev goes : MachineState → ℕ → Option MachineState
  goes s l = turn image [] hides most s l

  abbrev lost_goes : MachineState → ℕ → Option MachineState
  lost_goes = merged (turn image [] hides most) (λ (s : MachineState). record s { harts = map forget s.harts })

  pub merge_loses : (s : MachineState) → lose (merge (lose s)) ≡ lose (merge s)
  unfolding rest_of
  merge_loses s = ap (λ (hs : List HartState). made hs s.memory) (rests_forget image.program forget forgets hides hidden most s.harts)

  pub lost_rests : (s : MachineState) → merge (lose (merge s)) ≡ lose (merge s)
  unfolding rest_of
  lost_rests s = ap (λ (hs : List HartState). made hs s.memory) (all_rest image.program forget forgets hides hidden most s.harts)

  module _ (may : (s : MachineState) (op : Op) → may_take (lose s) op ≡ may_take s op)
      (one : (s : MachineState) (op : Op) → may_take s op ≡ true →
      lose (state_after_one image (lose s) op) ≡ lose (state_after_one image s op)) where
    taken_loses : (s : MachineState) (o : Option Op) →
        option_map lose (option_map merge (taken image (lose s) o)) ≡ option_map lose (option_map merge (taken image s o))
    unfolding taken
    taken_loses s None = refl
    taken_loses s (Some op) =
        let before = state_after_one image (lose s) op in
        let behind = state_after_one image s op in
        ap (λ (b : Bool). option_map lose (option_map merge (if b then Some before else None))) (may s op)
        ∙ elim (cases_Bool (may_take s op)) [
          | inl taken ↦
              rw taken
              (ap (λ (t : MachineState). Some t)
              (sym (merge_loses before) ∙ (ap (λ (t : MachineState). lose (merge t)) (one s op taken) ∙ merge_loses behind)))
          | inr refused ↦ rw refused refl
        ]

    pub turn_loses : (s : MachineState) (l : ℕ) → lost_goes (lose s) l ≡ lost_goes s l
    unfolding next
    turn_loses s l = taken_loses s (operation_of_label image [] l)

    walk_on : (ls : List ℕ) (o : Option MachineState) →
        ((t : MachineState) → after lost_goes (lose t) ls ≡ option_map lose (after goes t ls)) →
        option_and_then (λ t. after lost_goes t ls) (option_map lose o)
        ≡ option_map lose (option_and_then (λ t. after goes t ls) o)
    walk_on ls None later = refl
    walk_on ls (Some t) later = later t

    pub walk_loses : (s : MachineState) (ls : List ℕ) → after lost_goes (lose s) ls ≡ option_map lose (after goes s ls)
    walk_loses s [] = refl
    walk_loses s (l ∷ ls) =
        ap (option_and_then (λ t. after lost_goes t ls)) (turn_loses s l)
        ∙ walk_on ls (goes s l) (λ t. walk_loses t ls)
