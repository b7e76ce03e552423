-- Sweeps of a hart: what is left in its registers and PCC, and one register more of a sweep.
use Rattle.std.proofs.Common.{◌≡◌, ℕ, ◌+◌, ◌-◌, ◌<◌, ◌≤◌, Bool, true, false, cond, List, ◌∷◌, ◌++◌, length, map, take, drop, inl, inr, arith, refl, sym, ap, ◌∙◌}
use Rattle.std.specs.Prelude.{count_by}
use Rattle.std.proofs.Math.ListN.{get_or, get_or-map}
use Rattle.std.proofs.lemmas.Bool.{cases_Bool}
use Rattle.std.proofs.lemmas.List.{length-map, length-take, get_or-drop}
use Rattle.std.proofs.Math.Seq.{get_or-append_right}
use Rattle.std.proofs.lemmas.List.Elements.{All-map}
use Rattle.std.proofs.lemmas.List.Sums.{count_by-le-length, count_by_more_no, count_by_more_yes, sum_by-cons}
use Rattle.cap_model.specs.values.CapValue.{CapValue, IsLawfulValue}
use Rattle.cheri_model.specs.steps.Hart.{HartState, null}
use Rattle.cap_model.specs.results.Readings.{number_of}
use Rattle.cap_model.specs.results.Addresses.{clear_tag}
use Rattle.cap_model.specs.results.Swept.{is_in_sweep, swept}
use Rattle.cheri_model.specs.runs.Sweeps.{cleared_in_hart}
use Rattle.cap_model.proofs.Results.Values.{bits_lt}
use Rattle.hart.specs.Hart.{IsHart}

module _ (lo hi : ℕ) where
  -- one value, which loses its tag or stays
  pub value_kept : (v : CapValue) (found : Bool) → found ≡ is_in_sweep lo hi v → found ≡ false → v ≡ swept lo hi v
  unfolding swept
  value_kept v found is none = let kept : is_in_sweep lo hi v ≡ false = sym is ∙ none in rw kept refl

  pub value_cleared : (v : CapValue) (found : Bool) → found ≡ is_in_sweep lo hi v → found ≡ true → clear_tag v ≡ swept lo hi v
  unfolding swept
  value_cleared v found is one = let cleared : is_in_sweep lo hi v ≡ true = sym is ∙ one in rw cleared refl

  swept_lawful : (v : CapValue) → IsLawfulValue v → IsLawfulValue (swept lo hi v)
  unfolding swept
  swept_lawful v lawful = elim (cases_Bool (is_in_sweep lo hi v)) [ inl cleared ↦ rw cleared (bits_lt v lawful) | inr kept ↦ rw kept lawful ]

  swept_null : swept lo hi null ≡ null
  unfolding swept
  swept_null = refl

  -- a hart stays one
  pub hart_swept : (registers : List CapValue) (counter : CapValue) → IsHart registers counter → IsHart (map (swept lo hi) registers) (swept lo hi counter)
  hart_swept registers counter h = record {
    count = length-map registers (swept lo hi) ∙ h.count;
    null_first = let first = get_or-map (swept lo hi) registers 0 null in rw (swept_null, h.null_first, swept_null) at first;
    regs = All-map IsLawfulValue (swept lo hi) registers (λ k d inside. swept_lawful _ (h.regs k d inside));
    pcc = swept_lawful counter h.pcc;
  }

  -- a register that the sweep has not come to is as it was
  pub register_ahead : (registers now : List CapValue) (i : ℕ) (v : CapValue) → i < length registers → now ≡ map (swept lo hi) (take i registers) ++ drop i registers →
      v ≡ get_or now i v → v ≡ get_or registers i v
  register_ahead registers now i v inside form is =
      let size : length (map (swept lo hi) (take i registers)) ≡ i = length-map (take i registers) (swept lo hi) ∙ omega (arith, length-take i registers) in
      let ahead = get_or-append_right (map (swept lo hi) (take i registers)) (drop i registers) i v (omega arith) in
      let zero_more : i - length (map (swept lo hi) (take i registers)) ≡ 0 = omega arith in
      let same : i + 0 ≡ i = omega arith in
      is ∙ ap (λ l. get_or l i v) form ∙ ahead ∙ ap (λ n. get_or (drop i registers) n v) zero_more ∙ get_or-drop i registers 0 v ∙ ap (λ n. get_or registers n v) same

  -- and it is counted
  pub register_more : (registers : List CapValue) (i : ℕ) (v : CapValue) → i < length registers → v ≡ get_or registers i v →
      count_by (is_in_sweep lo hi) (take i registers) + number_of (is_in_sweep lo hi v) ≡ count_by (is_in_sweep lo hi) (take (i + 1) registers)
  register_more registers i v inside is =
      let same : is_in_sweep lo hi (get_or registers i v) ≡ is_in_sweep lo hi v = ap (is_in_sweep lo hi) (sym is) in
      elim (cases_Bool (is_in_sweep lo hi v)) [
        | inl cleared ↦ rw cleared (sym (count_by_more_yes (is_in_sweep lo hi) registers i v inside (same ∙ cleared)))
        | inr kept ↦ rw kept (let none = count_by_more_no (is_in_sweep lo hi) registers i v inside (same ∙ kept) in omega (arith, none))
      ]

  -- PCC and the registers
  pub hart_counted : (hart : HartState) → number_of (is_in_sweep lo hi hart.pcc) + count_by (is_in_sweep lo hi) hart.regs ≡ cleared_in_hart lo hi hart
  unfolding cleared_in_hart
  hart_counted hart =
      let parts = sum_by-cons (λ v. cond (is_in_sweep lo hi v) 1 0) hart.pcc hart.regs in
      elim (cases_Bool (is_in_sweep lo hi hart.pcc)) [ inl cleared ↦ rw (parts, cleared) refl | inr kept ↦ rw (parts, kept) refl ]

  -- a hart has 33 values
  pub hart_few : (hart : HartState) → length hart.regs ≡ 32 → cleared_in_hart lo hi hart ≤ 33
  unfolding cleared_in_hart
  hart_few hart count = omega (arith, count, count_by-le-length (is_in_sweep lo hi) (hart.pcc ∷ hart.regs))
