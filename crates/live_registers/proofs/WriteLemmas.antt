-- A register that is written, in two lists of registers that are alike.
use Rattle.std.proofs.Common.{◌≡◌, ◌≢◌, ◌+◌, ◌<◌, ◌≤◌, ℕ, length, get_or, List, refl, sym, ap, ◌∙◌, arith, inl, inr, ◌⊎◌}
use Rattle.std.specs.Prelude.{Bool, true, false, ◌==◌, if◌then◌else◌, slice_set}
use Rattle.std.proofs.lemmas.Bool.{cases_lt, cases_eq, false≢true, eq-eqb, ne_eqb}
use Rattle.std.proofs.lemmas.List.{ext_get_or, get_or_past, get_or-set_same, get_or-set_other, length-set}
use Rattle.cap_model.specs.values.CapValue.{CapValue}
use Rattle.cheri_model.specs.steps.Hart.{HartState, null, put}
use Rattle.live_registers.specs.RegisterSets.{has, IsWithinBut, kept_value, kept, forgotten}
use Rattle.live_registers.proofs.SetLemmas.{AreAlike, length-kept, kept_at, value_held, value_lost}

-- the registers after a write; one of c0 is dropped
unfoldable pub put_in : ℕ → CapValue → List CapValue → List CapValue
put_in cd v regs = if cd == 0 then regs else slice_set regs cd v

pub put_is : (cd : ℕ) (v : CapValue) (hart : HartState) (regs : List CapValue) →
    put cd v (record hart { regs = regs }) ≡ record hart { regs = put_in cd v regs }
unfolding put put_in
put_is cd v hart regs =
    elim (cd == 0) as (λ (dropped : Bool). (if dropped then (record hart { regs = regs }) else record hart { regs = slice_set regs cd v })
    ≡ record hart { regs = if dropped then regs else slice_set regs cd v }) [
      | true ↦ refl
      | false ↦ refl
    ]

put_some : (cd : ℕ) (v : CapValue) (regs : List CapValue) → cd ≢ 0 → put_in cd v regs ≡ slice_set regs cd v
unfolding put_in
put_some cd v regs some = rw (ne_eqb cd 0 some) refl

module _ (small large : List Bool) (xs ys : List CapValue) where
  -- where nothing is written
  pub alike_but_zero : IsWithinBut small 0 large → AreAlike large xs ys → AreAlike small xs ys
  alike_but_zero within alike = record {
    size = alike.size;
    same = λ reg held. elim (cases_eq reg 0) [
      | inl first ↦ alike.same reg (rw first refl)
      | inr other ↦ alike.same reg (within reg held other)
    ];
  }

  -- a register that is written, with the same or where it isn't in the set
  set_alike : (cd : ℕ) (v w : CapValue) → cd ≢ 0 → (v ≡ w) ⊎ (has small cd ≡ false) → IsWithinBut small cd large →
      AreAlike large xs ys → AreAlike small (slice_set xs cd v) (slice_set ys cd w)
  set_alike cd v w some same_or_unneeded within alike = record {
    size = length-set xs cd v ∙ alike.size ∙ sym (length-set ys cd w);
    same = λ reg held. elim (cases_eq reg cd) [
      | inr other ↦
          get_or-set_other xs cd reg v null other ∙ alike.same reg (within reg held other)
          ∙ sym (get_or-set_other ys cd reg w null other)
      | inl this ↦ elim same_or_unneeded [
        | inr unneeded ↦ absurd (false≢true (sym unneeded ∙ rw this at held))
        | inl same ↦ elim (cases_lt reg (length xs)) [
          | inl inside ↦
              rw (this, same)
              (get_or-set_same xs cd w null (rw this at inside)
              ∙ sym (get_or-set_same ys cd w null (rw (this, alike.size) at inside)))
          | inr outside ↦
              get_or_past (slice_set xs cd v) reg null (rw (length-set xs cd v) outside)
              ∙ sym (get_or_past (slice_set ys cd w) reg null (rw (length-set ys cd w, ← alike.size) outside))
        ]
      ]
    ];
  }

  pub put_alike : (cd : ℕ) (v w : CapValue) → (v ≡ w) ⊎ ((cd ≡ 0) ⊎ (has small cd ≡ false)) → IsWithinBut small cd large →
      AreAlike large xs ys → AreAlike small (put_in cd v xs) (put_in cd w ys)
  unfolding put_in
  put_alike cd v w same_or_unneeded within alike = elim (cases_eq cd 0) [
    | inl zero ↦ rw (eq-eqb cd 0 zero) (alike_but_zero (rw zero at within) alike)
    | inr some ↦
        let either : (v ≡ w) ⊎ (has small cd ≡ false) = elim same_or_unneeded [
          | inl same ↦ inl same
          | inr unneeded ↦ elim unneeded [
            | inl zero ↦ absurd (some zero)
            | inr lost ↦ inr lost
          ]
        ] in
        rw (ne_eqb cd 0 some) (set_alike cd v w some either within alike)
  ]

-- ---- how the code forgets

-- a hart of which the registers below a number have been forgotten, but for those of a set
pub record IsForgotten (set : List Bool) (before after : HartState) (n : ℕ) : Type 0 where
  pub same : after ≡ record before { regs = after.regs }
  pub size : length after.regs ≡ length before.regs
  pub below : (k : ℕ) → k < n → k < length before.regs → get_or after.regs k null ≡ kept_value set (k, get_or before.regs k null)
  pub above : (k : ℕ) → n ≤ k → get_or after.regs k null ≡ get_or before.regs k null

pub forgotten_first : (set : List Bool) (before : HartState) → IsForgotten set before before 0
forgotten_first set before = record {
  same = refl;
  size = refl;
  below = λ k low inside. absurd (omega arith);
  above = λ k high. refl;
}

pub forgotten_kept : (set : List Bool) (before after : HartState) (n : ℕ) → has set n ≡ true → IsForgotten set before after n →
    IsForgotten set before after (n + 1)
forgotten_kept set before after n held is = record {
  same = is.same;
  size = is.size;
  below = λ k low inside. elim (cases_eq k n) [
    | inl this ↦ is.above k (omega arith) ∙ sym (value_held set k (get_or before.regs k null) (rw this held))
    | inr other ↦ is.below k (omega arith) inside
  ];
  above = λ k high. is.above k (omega arith);
}

pub forgotten_put : (set : List Bool) (before after : HartState) (n : ℕ) → has set n ≡ false → IsForgotten set before after n →
    IsForgotten set before (put n null after) (n + 1)
forgotten_put set before after n lost is =
    let some : n ≢ 0 = λ zero. false≢true (sym lost ∙ rw zero refl) in
    let puts : put n null after ≡ record after { regs = slice_set after.regs n null } =
    put_is n null after after.regs ∙ ap (λ (regs : List CapValue). record after { regs = regs }) (put_some n null after.regs some) in
    rw puts (record {
      same = ap (λ (h : HartState). record h { regs = slice_set after.regs n null }) is.same;
      size = length-set after.regs n null ∙ is.size;
      below = λ k low inside. elim (cases_eq k n) [
        | inl this ↦
            rw this (get_or-set_same after.regs n null null (rw (is.size, ← this) inside))
            ∙ sym (value_lost set k (get_or before.regs k null) (rw this lost))
        | inr other ↦ get_or-set_other after.regs n k null null other ∙ is.below k (omega arith) inside
      ];
      above = λ k high.
          let other : k ≢ n = λ same. omega arith in
          get_or-set_other after.regs n k null null other ∙ is.above k (omega arith);
    })

pub forgotten_all : (set : List Bool) (before after : HartState) → length before.regs ≡ 32 → IsForgotten set before after 32 →
    after ≡ forgotten set before
unfolding forgotten
forgotten_all set before after size is =
    is.same
    ∙ ap (λ (regs : List CapValue). record before { regs = regs })
    (ext_get_or null after.regs (kept set before.regs) (is.size ∙ sym (length-kept set before.regs))
    (λ k inside.
    let low : k < length before.regs = rw is.size at inside in
    is.below k (rw size at low) low ∙ sym (kept_at set before.regs k low)))
