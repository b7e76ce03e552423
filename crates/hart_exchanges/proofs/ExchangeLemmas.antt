-- Orders in which two harts with equal images have each other's numbers.
use Rattle.std.proofs.Common.{◌≡◌, ◌≢◌, ℕ, zero, suc, ◌<◌, ◌≤◌, List, [], ◌∷◌, length, map, arith}
use Rattle.std.proofs.Common.{refl, sym, ap, ◌∙◌, subst, inl, inr}
use Rattle.std.specs.Prelude.{Bool, true, false, Option, Some, option_map, slice_get, unwrap_or}
use Rattle.std.proofs.lemmas.Bool.{and_from, and_parts, cases_eq, false≢true}
use Rattle.std.proofs.lemmas.List.{length-map}
use Rattle.std.proofs.lemmas.Option.{same_Some, slice_get-map, slice_get_within, unwrap_or-slice_get}
use Rattle.cap_model.specs.results.Swept.{swept}
use Rattle.cheri_model.specs.declared.image.HartImage.{HartImage}
use Rattle.cheri_model.specs.declared.operation.Op.{Op}
use Rattle.cheri_model.specs.declared.operation.Op.TheVariants as operation
use Rattle.cheri_model.specs.runs.Image.{ImageParts, opening_hart}
use Rattle.cheri_model.specs.runs.Machine.{MachineState, hart_at, may_take, no_hart, opening_state, state_after_one, swept_state}
use Rattle.cheri_model.specs.runs.Replay.{is_legal, replayed_state, state_after}
use Rattle.cheri_model.specs.runs.Sweeps.{swept_hart, swept_memory}
use Rattle.cheri_model.specs.steps.Hart.{HartState}
use Rattle.explore_rights.specs.Held.{Holds, held_by}
use Rattle.explore_rights.specs.declared.rights.Rights.{Rights}
use Rattle.hart_symmetry.specs.Renaming.{IsRenamed}
use Rattle.hart_symmetry.proofs.RenamingLemmas.{inside_too, renamed_mapped}
use Rattle.hart_symmetry.proofs.StepLemmas.{have_as_many, steps_by}
use Rattle.hart_symmetry.proofs.SwapLemmas.{swapped, at_first, at_second, elsewhere, twice}
use Rattle.schedules.specs.declared.ranges.SweepRange.{SweepRange}
use Rattle.schedules.specs.Schedules.{AreAllowed, IsAllowed, next}
use Rattle.schedules.proofs.WalkLemmas.{label_of_step, next_some, same_harts, some_next, step_hart}
use Rattle.hart_exchanges.specs.Exchanges.{AreEqual, AreExchanged, exchanged, exchanged_operation, exchanged_order}

there_is : {A : Type 0} (xs : List A) (k : ℕ) → k < length xs → (x : A) × (slice_get xs k ≡ Some x)
there_is {A} [] k inside = absurd (omega arith)
there_is {A} (x ∷ xs) zero inside = (x, refl)
there_is {A} (x ∷ xs) (suc k) inside = there_is xs k (omega arith)

-- none has to stay
abbrev stays : ℕ → Bool
stays hart = false

module _ (one other : ℕ) where
  exchanged_is : (n : ℕ) → exchanged one other n ≡ swapped one other n
  unfolding exchanged swapped
  exchanged_is n = refl

  pub first_is : exchanged one other one ≡ other
  first_is = exchanged_is one ∙ at_first one other

  second_is : exchanged one other other ≡ one
  second_is = exchanged_is other ∙ at_second one other

  others_are : (n : ℕ) → n ≢ one → n ≢ other → exchanged one other n ≡ n
  others_are n first second = exchanged_is n ∙ elsewhere one other n first second

  back_again : (n : ℕ) → exchanged one other (exchanged one other n) ≡ n
  back_again n =
      ap (exchanged one other) (exchanged_is n) ∙ (exchanged_is (swapped one other n) ∙ twice one other n)

  allowed_so : (sweeps : List SweepRange) (op : Op) → IsAllowed sweeps op → IsAllowed sweeps (exchanged_operation one other op)
  unfolding exchanged_operation
  allowed_so sweeps (operation.Step hart) allowed = tt
  allowed_so sweeps (operation.Sweep lo hi) allowed = allowed

  pub order_allowed : (sweeps : List SweepRange) (order : List Op) → AreAllowed sweeps order →
      AreAllowed sweeps (exchanged_order one other order)
  unfolding exchanged_order
  order_allowed sweeps [] allowed = tt
  order_allowed sweeps (op ∷ order) allowed = (allowed_so sweeps op allowed.0, order_allowed sweeps order allowed.1)

  module _ (image : ImageParts) where
    -- ---- operations

    -- the first state is the second with these harts in each other's places
    abbrev IsLike : MachineState → MachineState → Type 0
    IsLike s t = IsRenamed stays (exchanged one other) s t

    abbrev Goes : MachineState → MachineState → Op → Type 0
    Goes s t op =
        (may_take s (exchanged_operation one other op) ≡ true)
        × IsLike (state_after_one image s (exchanged_operation one other op)) (state_after_one image t op)

    step_goes : (s t : MachineState) (hart : ℕ) → length s.harts ≡ length image.harts → IsLike s t →
        may_take t (operation.Step hart) ≡ true → Goes s t (operation.Step hart)
    unfolding exchanged_operation
    step_goes s t hart fit like may =
        let p : ℕ → ℕ = exchanged one other in
        let count = like.count in
        let there = step_hart t hart may in
        let low : hart < length image.harts = omega arith in
        let after = state_after_one image t (operation.Step hart) in
        let goes : next image [] t hart ≡ Some after =
        some_next image [] t hart (operation.Step hart) (label_of_step image [] hart low) may in
        let edge = steps_by image stays [] p s t after hart (have_as_many image s fit) like goes in
        let step = next_some image [] s edge.0 (p hart) edge.1 in
        let inside = inside_too stays p s t like hart there in
        let own_low : p hart < length image.harts = omega arith in
        let own : step.0 ≡ operation.Step (p hart) =
        same_Some step.0 (operation.Step (p hart)) (sym step.1 ∙ label_of_step image [] (p hart) own_low) in
        let left : edge.0 ≡ state_after_one image s (operation.Step (p hart)) =
        sym step.3 ∙ ap (state_after_one image s) own in (
          subst (λ (op : Op). may_take s op ≡ true) own step.2,
          subst (λ (x : MachineState). IsLike x after) left edge.2,
        )

    no_hart_swept : (lo hi : ℕ) → swept_hart lo hi no_hart ≡ no_hart
    unfolding swept_hart swept
    no_hart_swept lo hi = refl

    sweep_goes : (s t : MachineState) (lo hi : ℕ) → IsLike s t → may_take t (operation.Sweep lo hi) ≡ true →
        Goes s t (operation.Sweep lo hi)
    unfolding exchanged_operation may_take state_after_one swept_state
    sweep_goes s t lo hi like may = (
      may,
      renamed_mapped stays (swept_hart lo hi) (no_hart_swept lo hi) (exchanged one other) s t (swept_memory lo hi s.memory)
          (swept_memory lo hi t.memory) (ap (swept_memory lo hi) like.memory) like,
    )

    operation_goes : (s t : MachineState) (op : Op) → length s.harts ≡ length image.harts → IsLike s t →
        may_take t op ≡ true → Goes s t op
    operation_goes s t (operation.Step hart) fit like may = step_goes s t hart fit like may
    operation_goes s t (operation.Sweep lo hi) fit like may = sweep_goes s t lo hi like may

    order_goes : (s t : MachineState) (order : List Op) → length s.harts ≡ length image.harts → IsLike s t →
        is_legal image t order ≡ true →
        (is_legal image s (exchanged_order one other order) ≡ true)
        × IsLike (state_after image s (exchanged_order one other order)) (state_after image t order)
    unfolding is_legal state_after exchanged_order
    order_goes s t [] fit like legal = (refl, like)
    order_goes s t (op ∷ order) fit like legal =
        let parts = and_parts (may_take t op) (is_legal image (state_after_one image t op) order) legal in
        let goes = operation_goes s t op fit like parts.0 in
        let own = exchanged_operation one other op in
        let after = state_after_one image s own in
        let rest = order_goes after (state_after_one image t op) order (same_harts image s own ∙ fit) goes.1 parts.1 in
        (and_from (may_take s own) (is_legal image after (exchanged_order one other order)) goes.0 rest.0, rest.1)

    -- ---- the opening state

    module _ (inside : one < length image.harts) (equal : AreEqual image.harts one other) where
      both_inside : other < length image.harts
      both_inside =
          let x = there_is image.harts one inside in
          slice_get_within image.harts other x.0 (sym equal ∙ x.1)

      same_images : (n : ℕ) → slice_get image.harts (exchanged one other n) ≡ slice_get image.harts n
      same_images n = elim (cases_eq n one) [
        | inl first ↦
            ap (λ (k : ℕ). slice_get image.harts (exchanged one other k)) first
            ∙ (ap (slice_get image.harts) first_is ∙ (sym equal ∙ sym (ap (slice_get image.harts) first)))
        | inr not_one ↦ elim (cases_eq n other) [
          | inl second ↦
              ap (λ (k : ℕ). slice_get image.harts (exchanged one other k)) second
              ∙ (ap (slice_get image.harts) second_is ∙ (equal ∙ sym (ap (slice_get image.harts) second)))
          | inr not_other ↦ ap (slice_get image.harts) (others_are n not_one not_other)
        ]
      ]

      abbrev opened : Option HartImage → HartState
      opened found = unwrap_or (option_map opening_hart found) no_hart

      opening_at : (n : ℕ) → hart_at (opening_state image) n ≡ opened (slice_get image.harts n)
      unfolding hart_at opening_state
      opening_at n =
          sym (unwrap_or-slice_get (map opening_hart image.harts) n no_hart)
          ∙ ap (λ (h : Option HartState). unwrap_or h no_hart) (slice_get-map opening_hart image.harts n)

      pub opening_length : length (opening_state image).harts ≡ length image.harts
      unfolding opening_state
      opening_length = length-map image.harts opening_hart

      stay_beyond : (n : ℕ) → length (opening_state image).harts ≤ n → exchanged one other n ≡ n
      stay_beyond n past =
          let low = both_inside in
          let count = opening_length in
          others_are n (λ same. omega (arith, same)) (λ same. omega (arith, same))

      opening_like : IsLike (opening_state image) (opening_state image)
      opening_like = record {
        to = exchanged one other;
        there = back_again;
        back = back_again;
        staying = λ n stay. absurd (false≢true stay);
        beyond = stay_beyond;
        count = refl;
        harts = λ n.
            opening_at n ∙ (ap opened (sym (same_images n)) ∙ sym (opening_at (exchanged one other n)));
        memory = refl;
      }

      module _ (order : List Op) (legal : is_legal image (opening_state image) order ≡ true) where
        goes_so : (is_legal image (opening_state image) (exchanged_order one other order) ≡ true)
            × IsLike (replayed_state image (exchanged_order one other order)) (replayed_state image order)
        unfolding replayed_state
        goes_so = order_goes (opening_state image) (opening_state image) order opening_length opening_like legal

        pub order_legal : is_legal image (opening_state image) (exchanged_order one other order) ≡ true
        order_legal = goes_so.0

        pub order_leaves : AreExchanged one other (replayed_state image order)
            (replayed_state image (exchanged_order one other order))
        order_leaves = record {
          count = sym goes_so.1.count;
          harts = λ n. sym (goes_so.1.harts n);
          memory = sym goes_so.1.memory;
        }

        pub order_holds : (rights : Rights) → Holds (held_by (hart_at (replayed_state image order) one)) rights →
            Holds (held_by (hart_at (replayed_state image (exchanged_order one other order)) other)) rights
        order_holds rights holds =
            let after = replayed_state image (exchanged_order one other order) in
            let same : hart_at (replayed_state image order) one ≡ hart_at after other =
            sym (order_leaves.harts one) ∙ ap (hart_at after) first_is in
            subst (λ (h : HartState). Holds (held_by h) rights) same holds
