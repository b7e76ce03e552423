-- Harts that are put in order stay among those of their group.
use Rattle.std.proofs.Common.{◌≡◌, ℕ, zero, suc, ◌<◌, ◌≤◌, List, length, get_or, sym, ap, ◌∙◌, arith, inl, inr}
use Rattle.std.specs.Prelude.{true, not, ◌&&◌, ◌==◌, slice_index_or}
use Rattle.std.specs.List.{range_with_len}
use Rattle.std.proofs.lemmas.Bool.{cases_eq, cases_Bool, and_parts, eqb-true}
use Rattle.std.proofs.lemmas.List.Edits.{length-swap}
use Rattle.std.proofs.lemmas.List.FromFn.{length-range_with_len}
use Rattle.cheri_model.specs.runs.Machine.{MachineState, no_hart}
use Rattle.hart_order.specs.HartOrder.{hart_before}
use Rattle.hart_order.specs.Arrangements.{Arrangement, group_of, are_grouped, exchange, put_among, arranged, place_in}
use Rattle.hart_symmetry.proofs.SwapLemmas.{swapped, at_first, at_second, elsewhere}
use Rattle.hart_order.proofs.PlaceLemmas.{own_place, place_moved}
use Rattle.hart_regrouping.specs.Regrouping.{KeepsGroups}

module _ (groups : List ℕ) where
  -- of two harts of one group each may have the other's number
  swap_keeps : (low high : ℕ) → are_grouped groups low high ≡ true → KeepsGroups groups (swapped low high)
  swap_keeps low high grouped i =
      let parts = and_parts (not (group_of groups low == 0)) (group_of groups low == group_of groups high) grouped in
      let same : group_of groups low ≡ group_of groups high = eqb-true (group_of groups low) (group_of groups high) parts.1 in
      elim (cases_eq i low) [
        | inl first ↦
            ap (λ (k : ℕ). group_of groups (swapped low high k)) first
            ∙ (ap (group_of groups) (at_first low high) ∙ (sym same ∙ sym (ap (group_of groups) first)))
        | inr one ↦ elim (cases_eq i high) [
          | inl second ↦
              ap (λ (k : ℕ). group_of groups (swapped low high k)) second
              ∙ (ap (group_of groups) (at_second low high) ∙ (same ∙ sym (ap (group_of groups) second)))
          | inr two ↦ ap (group_of groups) (elsewhere low high i one two)
        ]
      ]

  module _ (count : ℕ) where
    -- so many places, each of a hart of the same group
    record AreOwn (a : Arrangement) : Type 0 where
      size : length a.places ≡ count
      own : KeepsGroups groups (λ i. get_or a.places i i)

    own_exchange : (low high : ℕ) (a : Arrangement) → low < count → high < count → AreOwn a → AreOwn (exchange groups low high a)
    unfolding exchange
    own_exchange low high a low_there high_there are =
        let before = hart_before (slice_index_or a.harts high no_hart) (slice_index_or a.harts low no_hart) in
        let size = are.size in
        elim (cases_Bool (are_grouped groups low high && before)) [
          | inl turned ↦
              let grouped = (and_parts (are_grouped groups low high) before turned).0 in
              rw turned (record {
                size = length-swap a.places low high ∙ are.size;
                own = λ i.
                    ap (group_of groups) (place_moved a.places low high (omega arith) (omega arith) i)
                    ∙ (are.own (swapped low high i) ∙ swap_keeps low high grouped i);
              })
          | inr stay ↦ rw stay are
        ]

    own_put : (high low : ℕ) (a : Arrangement) → low ≤ high → high < count → AreOwn a → AreOwn (put_among groups high low a)
    unfolding put_among
    own_put high zero a few there are = are
    own_put high (suc low) a few there are =
        own_exchange low high (put_among groups high low a) (omega arith) there (own_put high low a (omega arith) there are)

    own_arranged : (high : ℕ) (a : Arrangement) → high ≤ count → AreOwn a → AreOwn (arranged groups high a)
    unfolding arranged
    own_arranged zero a few are = are
    own_arranged (suc high) a few are =
        own_put high high (arranged groups high a) (omega arith) (omega arith) (own_arranged high a (omega arith) are)

  -- a hart that is put in order stood at a number of its group
  pub place_keeps : (s : MachineState) → KeepsGroups groups (place_in groups s)
  unfolding place_in
  place_keeps s =
      let count = length s.harts in
      (own_arranged count count (record { harts = s.harts; places = range_with_len 0 count }) (omega arith) (record {
        size = length-range_with_len 0 count;
        own = λ i. ap (group_of groups) (own_place count i);
      })).own
