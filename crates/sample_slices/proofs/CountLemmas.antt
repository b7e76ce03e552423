-- How many runs ended, end by end.
use Rattle.std.proofs.Common.{◌≡◌, ◌∙◌, ℕ, ◌+◌, ◌-◌, ◌<◌, ◌≤◌, ◌==◌, List, length, drop, get_or, map, sym, ap, arith}
use Rattle.std.proofs.Math.ListN.{drop_of_length-le}
use Rattle.std.proofs.lemmas.List.{length-map}
use Rattle.std.proofs.lemmas.List.Sums.{sum_by-drop_more}
use Rattle.std.proofs.lemmas.Option.{get_or_from_slice_get, slice_get_within}
use Rattle.std.proofs.lemmas.Bool.Decides.{nat_tests}
use Rattle.std.specs.List.{sum_by}
use Rattle.std.specs.Prelude.{Bool, false, Some, slice_get}
use Rattle.cheri_model.specs.runs.Machine.{MachineState}
use Rattle.sample_tallies.proofs.OrderLemmas.{picked_at}
use Rattle.sample_tallies.specs.Tables.{Entry}
use Rattle.sample_tallies.specs.declared.seen.Seen.{Seen}
use Rattle.sample_slices.specs.Claimed.{runs_in_end}

-- whether a sum is so much, where some of it is known
pub less_left : (total part rest left : ℕ) → total ≡ part + rest → part ≤ left → (total == left) ≡ (rest == (left - part))
less_left total part rest left is few = grind (arith, nat_tests)

pub too_much : (total part rest left : ℕ) → total ≡ part + rest → left < part → (total == left) ≡ false
too_much total part rest left is many = grind (arith, nat_tests)

module _ (table ends : List (Entry MachineState)) (order : List ℕ) (i d : ℕ) (seen : Seen)
    (sorted : map (slice_get table) order ≡ map (λ (e : Entry MachineState). Some e) ends) (room : i < length order)
    (is : (end : Entry MachineState) → slice_get table (get_or order i d) ≡ Some end → seen ≡ end.seen) where
  -- the runs of this end and of those after it
  pub ended_more : sum_by runs_in_end (drop i ends) ≡ seen.runs + sum_by runs_in_end (drop (i + 1) ends)
  ended_more =
      let picked = picked_at table order ends i d sorted room in
      let end = picked.0 in
      let within : i < length ends = slice_get_within ends i end picked.1 in
      let here : get_or ends i end ≡ end = get_or_from_slice_get ends i end end picked.1 in
      let runs : seen.runs ≡ end.seen.runs = ap (λ (s : Seen). s.runs) (is end picked.2) in
      sum_by-drop_more runs_in_end ends i end within
      ∙ ap (λ (n : ℕ). n + sum_by runs_in_end (drop (i + 1) ends)) (ap runs_in_end here ∙ sym runs)

zero_side : (n : ℕ) → (n == 0) ≡ (0 == n)
zero_side n = grind (arith, nat_tests)

-- where no end is left nothing may be
pub none_left : (table ends : List (Entry MachineState)) (order : List ℕ) (i left : ℕ) (all : Bool)
    → map (slice_get table) order ≡ map (λ (e : Entry MachineState). Some e) ends → length order ≤ i
    → (sum_by runs_in_end (drop i ends) == left) ≡ all → (left == 0) ≡ all
none_left table ends order i left all sorted past so =
    let long : length ends ≡ length order =
    sym (length-map ends (λ (e : Entry MachineState). Some e)) ∙ sym (ap length sorted) ∙ length-map order (slice_get table) in
    let none : length ends ≤ i = omega (arith, long, past) in
    zero_side left ∙ (rw (drop_of_length-le ends none) at so)
