-- Registers that are the same in a set, and what is kept of them.
use Rattle.std.proofs.Common.{◌≡◌, ◌≢◌, ◌+◌, ◌<◌, ◌≤◌, ℕ, length, get_or, List, refl, sym, ap, ◌∙◌, arith, inl, inr, ◌⊎◌, replicate}
use Rattle.std.specs.Prelude.{Bool, true, false, ◌==◌, ◌||◌, slice_set}
use Rattle.std.specs.List.{enumerate_from}
use Rattle.std.proofs.lemmas.Bool.{cases_lt, cases_Bool, cases_eq, false≢true, or_right, ne_eqb}
use Rattle.std.proofs.lemmas.List.{length-map, length-replicate, get_or-map, get_or-replicate, get_or_default, get_or_past, ext_get_or, get_or-set_same, get_or-set_other, length-set}
use Rattle.std.proofs.lemmas.List.FromFn.{length-enumerate_from, get_or-enumerate_from}
use Rattle.cap_model.specs.values.CapValue.{CapValue}
use Rattle.cheri_model.specs.steps.Hart.{null}
use Rattle.live_registers.specs.RegisterSets.{has, IsWithin, IsWithinBut, kept_value, kept}

-- as many registers, and those of the set the same
pub record AreAlike (set : List Bool) (xs ys : List CapValue) : Type 0 where
  pub size : length xs ≡ length ys
  pub same : (reg : ℕ) → has set reg ≡ true → get_or xs reg null ≡ get_or ys reg null

pub length-kept : (set : List Bool) (regs : List CapValue) → length (kept set regs) ≡ length regs
unfolding kept
length-kept set regs = length-map (enumerate_from 0 regs) (kept_value set) ∙ length-enumerate_from 0 regs

pub kept_at : (set : List Bool) (regs : List CapValue) (reg : ℕ) → reg < length regs →
    get_or (kept set regs) reg null ≡ kept_value set (reg, get_or regs reg null)
unfolding kept
kept_at set regs reg inside =
    let numbered = length-enumerate_from 0 regs in
    let this : 0 + reg ≡ reg = omega arith in
    get_or-map (kept_value set) (enumerate_from 0 regs) reg (0, null) null (rw numbered inside)
    ∙ ap (kept_value set) (get_or-enumerate_from 0 regs reg (0, null) inside)
    ∙ ap (λ (n : ℕ). kept_value set (n, get_or regs reg null)) this

pub value_held : (set : List Bool) (reg : ℕ) (v : CapValue) → has set reg ≡ true → kept_value set (reg, v) ≡ v
value_held set reg v held = rw held refl

pub value_lost : (set : List Bool) (reg : ℕ) (v : CapValue) → has set reg ≡ false → kept_value set (reg, v) ≡ null
value_lost set reg v lost = rw lost refl

pub kept_in : (set : List Bool) (regs : List CapValue) (reg : ℕ) → has set reg ≡ true →
    get_or (kept set regs) reg null ≡ get_or regs reg null
kept_in set regs reg held = elim (cases_lt reg (length regs)) [
  | inl inside ↦ kept_at set regs reg inside ∙ rw held refl
  | inr outside ↦
      get_or_past (kept set regs) reg null (rw (length-kept set regs) outside)
      ∙ sym (get_or_past regs reg null outside)
]

pub kept_alike : (set : List Bool) (regs : List CapValue) → AreAlike set (kept set regs) regs
kept_alike set regs = record { size = length-kept set regs; same = kept_in set regs }

pub alike_kept : (set : List Bool) (xs ys : List CapValue) → AreAlike set xs ys → kept set xs ≡ kept set ys
alike_kept set xs ys alike =
    ext_get_or null (kept set xs) (kept set ys)
    (length-kept set xs ∙ alike.size ∙ sym (length-kept set ys))
    (λ reg inside.
    let left : reg < length xs = rw (length-kept set xs) at inside in
    let right : reg < length ys = rw alike.size at left in
    let same : kept_value set (reg, get_or xs reg null) ≡ kept_value set (reg, get_or ys reg null) =
    elim (cases_Bool (has set reg)) [
      | inl held ↦ rw (alike.same reg held) refl
      | inr lost ↦ rw lost refl
    ] in
    kept_at set xs reg left ∙ same ∙ sym (kept_at set ys reg right))

pub alike_within : (small large : List Bool) (xs ys : List CapValue) → IsWithin small large →
    AreAlike large xs ys → AreAlike small xs ys
alike_within small large xs ys within alike =
    record { size = alike.size; same = λ reg held. alike.same reg (within reg held) }

-- ---- how the code computes sets

-- all registers
pub all_has : (n reg : ℕ) → has (replicate n true) reg ≡ true
all_has n reg = or_right (reg == 0) _ (elim (cases_lt reg n) [
  | inl inside ↦ get_or-replicate n reg true true inside
  | inr outside ↦ get_or_past (replicate n true) reg true (rw (length-replicate n true) outside)
])

-- a register past the end of a set is in it
pub has_past : (set : List Bool) (reg : ℕ) → length set ≤ reg → has set reg ≡ true
has_past set reg outside = or_right (reg == 0) _ (get_or_past set reg true outside)

-- what is read of a set's members
pub read_as : (set members : List Bool) (n : ℕ) (b : Bool) → members ≡ set → length members ≡ 32 → n < 32 →
    get_or members n false ≡ b → get_or set n true ≡ b
read_as set members n b is size inside read =
    rw (← is) (get_or_default members n true false (rw size inside) ∙ read)

-- what a set has after the registers below a number of another were added
pub record IsUnion (a b members : List Bool) (n : ℕ) : Type 0 where
  pub size : length members ≡ 32
  pub below : (k : ℕ) → k < n → get_or members k true ≡ (get_or a k true || get_or b k true)
  pub above : (k : ℕ) → n ≤ k → get_or members k true ≡ get_or a k true

pub union_first : (a b members : List Bool) → a ≡ members → length members ≡ 32 → IsUnion a b members 0
union_first a b members is size = record { size = size; below = λ k inside. absurd (omega arith); above = λ k outside. rw is refl }

or_false : (x y : Bool) → y ≡ false → (x || y) ≡ x
or_false true y is = refl
or_false false y is = is

pub union_added : (a b members : List Bool) (n : ℕ) → n < 32 → get_or b n true ≡ true → IsUnion a b members n →
    IsUnion a b (slice_set members n true) (n + 1)
union_added a b members n inside held is = record {
  size = length-set members n true ∙ is.size;
  below = λ k low. elim (cases_eq k n) [
    | inl this ↦ rw (this, held) (get_or-set_same members n true true (rw is.size inside) ∙ sym (or_right (get_or a n true) true refl))
    | inr other ↦ get_or-set_other members n k true true other ∙ is.below k (omega arith)
  ];
  above = λ k high.
      let other : k ≢ n = λ same. omega arith in
      get_or-set_other members n k true true other ∙ is.above k (omega arith);
}

pub union_kept : (a b members : List Bool) (n : ℕ) → get_or b n true ≡ false → IsUnion a b members n → IsUnion a b members (n + 1)
union_kept a b members n lost is = record {
  size = is.size;
  below = λ k low. elim (cases_eq k n) [
    | inl this ↦ rw this (is.above n (omega arith) ∙ sym (or_false (get_or a n true) (get_or b n true) lost))
    | inr other ↦ is.below k (omega arith)
  ];
  above = λ k high. is.above k (omega arith);
}

pub union_is : (a b members : List Bool) → length a ≡ 32 → length b ≡ 32 → IsUnion a b members 32 →
    (reg : ℕ) → has members reg ≡ (has a reg || has b reg)
union_is a b members size_a size_b is reg = elim (cases_eq reg 0) [
  | inl zero ↦ rw zero refl
  | inr some ↦
      rw (ne_eqb reg 0 some)
      (elim (cases_lt reg 32) [
        | inl inside ↦ is.below reg inside
        | inr outside ↦
            rw (get_or_past members reg true (rw is.size outside), get_or_past a reg true (rw size_a outside)) refl
      ])
]

-- each register below a number, but for c0 and one more, that is in one set is in another
unfoldable pub IsWithinTo : List Bool → ℕ → List Bool → ℕ → Type 0
IsWithinTo small but large n =
    (k : ℕ) → k ≢ 0 → k < n → get_or small k true ≡ true → k ≢ but → get_or large k true ≡ true

pub within_first : (small : List Bool) (but : ℕ) (large : List Bool) → IsWithinTo small but large 1
unfolding IsWithinTo
within_first small but large = λ k some inside. absurd (omega arith)

pub within_more : (small : List Bool) (but : ℕ) (large : List Bool) (n : ℕ) →
    (n ≡ but) ⊎ ((get_or small n true ≡ false) ⊎ (get_or large n true ≡ true)) → IsWithinTo small but large n →
    IsWithinTo small but large (n + 1)
unfolding IsWithinTo
within_more small but large n here each = λ k some inside held differs. elim (cases_eq k n) [
  | inr other ↦ each k some (omega arith) held differs
  | inl this ↦ elim here [
    | inl same ↦ absurd (differs (this ∙ same))
    | inr either ↦ elim either [
      | inl lost ↦ absurd (false≢true (sym lost ∙ rw this at held))
      | inr there ↦ rw this there
    ]
  ]
]

pub within_is : (small : List Bool) (but : ℕ) (large : List Bool) → length large ≡ 32 → IsWithinTo small but large 32 →
    IsWithinBut small but large
unfolding IsWithinTo
within_is small but large size each other held differs = elim (cases_eq other 0) [
  | inl zero ↦ rw zero refl
  | inr some ↦ elim (cases_lt other 32) [
    | inl inside ↦ or_right (other == 0) _ (each other some inside (rw (ne_eqb other 0 some) at held) differs)
    | inr outside ↦ has_past large other (rw size outside)
  ]
]
