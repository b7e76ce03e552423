-- A quiet step keeps a condition that looks at shared granules alone.
use Rattle.std.proofs.Common.{◌≡◌, ◌≢◌, ℕ, ◌<◌, List, [], length, set, arith, ap, ◌∙◌, refl, inl, inr, nat_lt}
use Rattle.std.specs.Prelude.{Bool, true, false, not, ◌&&◌, ◌==◌}
use Rattle.std.proofs.lemmas.Bool.{and_parts, and_from, both_ways, eq-eqb, eqb-true, not-true, or_cases}
use Rattle.std.proofs.lemmas.Bool.Decides.{nat_tests}
use Rattle.std.proofs.lemmas.List.{get_or-set_other, length-set}
use Rattle.std.proofs.lemmas.Option.{slice_get-get_or}
use Rattle.cap_model.specs.values.CapValue.{CapValue, raw}
use Rattle.cheri_model.specs.runs.Image.{ImageParts}
use Rattle.cheri_model.specs.runs.Machine.{MachineState, hart_at, no_hart, is_running, may_take, state_after_step, stepped}
use Rattle.cheri_model.specs.steps.Hart.{HartState}
use Rattle.cheri_model.specs.steps.HartStep.{hart_step}
use Rattle.cheri_model.specs.steps.Memory.{granule_at}
use Rattle.conditions.specs.declared.parts.Node.{Node}
use Rattle.conditions.specs.Hiding as condition
use Rattle.conditions.specs.Holding.{holds}
use Rattle.conditions.proofs.HiddenLemmas.{hidden_keeps}
use Rattle.explore_sights.specs.declared.sights.Sight.TheVariants as sight
use Rattle.explore_sights.specs.Sights.{hides}
use Rattle.explore_turns.specs.QuietSteps.{asks_memory}
use Rattle.explore_turns.proofs.QuietLemmas.{own_step_alone}
use Rattle.own_granules.specs.Granules.{granules_of, granule_of, is_private, is_quiet, is_unseen}
use Rattle.own_granules.specs.Turns.{KeepsPassing}
use Rattle.states.specs.Locals.{touched}
use Rattle.states.proofs.TouchLemmas.{same_step}
use Rattle.asked_granules.specs.AskedGranules.{condition_reads}
use Rattle.asked_granules.proofs.HoldingLemmas.{holds_same}

module _ (image : ImageParts) (shared : ℕ → Bool) where
  abbrev memory_of : HartState → List CapValue → List CapValue
  memory_of h m = (hart_step image.program h m).memory

  -- a step leaves each granule but the one that it touches
  others_stay : (h : HartState) (m : List CapValue) (granule : ℕ) → length m ≡ granules_of image →
      granule ≢ granule_of image h → granule_at (memory_of h m) granule ≡ granule_at m granule
  unfolding granule_at
  others_stay h m granule size other =
      let k = touched image.program (length m) h in
      let same : k ≡ granule_of image h = ap (λ (n : ℕ). touched image.program n h) size in
      let apart : granule ≢ k = λ is. other (is ∙ same) in
      let step = same_step image.program h m m refl refl in
      ap (λ (x : List CapValue). granule_at x granule) step.first ∙ get_or-set_other m k granule step.value (raw 0) apart

  -- a step that asks for no access to a shared granule leaves these
  shared_stay : (h : HartState) (m : List CapValue) (granule : ℕ) → length m ≡ granules_of image →
      is_private image shared h ≡ true → shared granule ≡ true → granule_at (memory_of h m) granule ≡ granule_at m granule
  unfolding is_private
  shared_stay h m granule size private is =
      elim (or_cases (not (asks_memory image.program h)) (not (shared (granule_of image h))) private) [
        | inl alone ↦
            ap (λ (x : List CapValue). granule_at x granule)
            (own_step_alone image.program h m (not-true (asks_memory image.program h) alone)).1
        | inr own ↦
            let fails : shared (granule_of image h) ≡ false = not-true (shared (granule_of image h)) own in
            others_stay h m granule size (λ (same : granule ≡ granule_of image h).
            both_ways (shared granule) (ap shared same ∙ fails) is)
      ]

  -- what is so where a step is quiet
  record IsQuiet (nodes : List Node) (s : MachineState) (l : ℕ) : Type 0 where
    low : l < length s.harts
    private : is_private image shared (hart_at s l) ≡ true
    hidden : condition.hides nodes (hart_at s l) (stepped image s l).hart ≡ true

  quiet_is : (nodes : List Node) (s : MachineState) (l : ℕ) →
      is_quiet image [] shared (hides (sight.Condition nodes)) s l ≡ true → IsQuiet nodes s l
  unfolding is_quiet may_take hides
  quiet_is nodes s l quiet =
      let h = hart_at s l in
      let to = (stepped image s l).hart in
      let unseen : Bool = is_unseen [] (hides (sight.Condition nodes)) h to in
      let whole = and_parts (nat_lt l (length s.harts) && is_running h.status) (is_private image shared h && unseen) quiet in
      let may = and_parts (nat_lt l (length s.harts)) (is_running h.status) whole.0 in
      let rest = and_parts (is_private image shared h) unseen whole.1 in
      let below = may.0 in
      record {
        low = grind (arith, nat_tests);
        private = rest.0;
        hidden = rest.1;
      }

  -- the condition looks at shared granules alone
  module _ (nodes : List Node) (looks : (granule : ℕ) → condition_reads nodes granule ≡ true → shared granule ≡ true) where
    pub step_keeps : (s : MachineState) (l : ℕ) → length s.memory ≡ granules_of image →
        is_quiet image [] shared (hides (sight.Condition nodes)) s l ≡ true → holds s nodes ≡ true →
        holds (state_after_step image s l) nodes ≡ true
    unfolding state_after_step hart_at
    step_keeps s l size quiet so =
        let is = quiet_is nodes s l quiet in
        let h = hart_at s l in
        let to = stepped image s l in
        let moved : MachineState = record s { harts = set s.harts l to.hart } in
        let there = slice_get-get_or s.harts l no_hart is.low in
        holds_same moved to.memory nodes (λ granule reads. shared_stay h s.memory granule size is.private (looks granule reads))
        ∙ hidden_keeps nodes h to.hart s l is.hidden there so

    -- with the size of memory this is a test that quiet steps keep
    pub sized_keeps : KeepsPassing image [] shared (hides (sight.Condition nodes))
        (λ s. length s.memory == granules_of image && holds s nodes)
    unfolding state_after_step
    sized_keeps s l quiet so =
        let parts = and_parts (length s.memory == granules_of image) (holds s nodes) so in
        let size = eqb-true (length s.memory) (granules_of image) parts.0 in
        let h = hart_at s l in
        let step = same_step image.program h s.memory s.memory refl refl in
        let after : length (memory_of h s.memory) ≡ granules_of image =
        ap (λ (x : List CapValue). length x) step.first
        ∙ (length-set s.memory (touched image.program (length s.memory) h) step.value ∙ size) in
        and_from (length (memory_of h s.memory) == granules_of image) (holds (state_after_step image s l) nodes)
        (eq-eqb (length (memory_of h s.memory)) (granules_of image) after) (step_keeps s l size quiet parts.1)
