-- How rights lie within others, and their order.
use Rattle.std.proofs.Common.{◌≡◌, ◌≢◌, ℕ, ◌<◌, ◌≤◌, arith, ap, sym, ◌∙◌, inl, inr, ◌⊎◌, nat_lt}
use Rattle.std.specs.Prelude.{Bool, true, false, ◌&&◌, ◌==◌, nat_le, bit_and, if◌then◌else◌}
use Rattle.std.specs.Int.Bits.{and_self}
use Rattle.std.proofs.lemmas.Bool.{cases_eq, cases_lt, cases_Bool, and_parts, and_from}
use Rattle.std.proofs.lemmas.Bool.Decides.{nat_tests}
use Rattle.std.proofs.lemmas.Nat.{and_assoc}
use Rattle.explore_rights.specs.declared.rights.Rights.{Rights}
use Rattle.explore_rights.specs.Rights.{is_within, is_before}

pub true_false : (b : Bool) → b ≡ true → b ≡ false → ⊥
true_false b yea nay = cc

le_of : (a b : ℕ) → nat_le a b ≡ true → a ≤ b
le_of a b t = grind (arith, nat_tests)

of_le : (a b : ℕ) → a ≤ b → nat_le a b ≡ true
of_le a b t = grind (arith, nat_tests)

eq_of : (a b : ℕ) → (a == b) ≡ true → a ≡ b
eq_of a b t = grind (arith, nat_tests)

of_eq : (a b : ℕ) → a ≡ b → (a == b) ≡ true
of_eq a b t = grind (arith, nat_tests)

of_ne : (a b : ℕ) → a ≢ b → (a == b) ≡ false
of_ne a b t = grind (arith, nat_tests)

lt_of : (a b : ℕ) → nat_lt a b ≡ true → a < b
lt_of a b t = grind (arith, nat_tests)

of_lt : (a b : ℕ) → a < b → nat_lt a b ≡ true
of_lt a b t = grind (arith, nat_tests)

when_true : (c x y : Bool) → c ≡ true → (if c then x else y) ≡ x
when_true c x y is = ap (λ (b : Bool). if b then x else y) is

when_false : (c x y : Bool) → c ≡ false → (if c then x else y) ≡ y
when_false c x y is = ap (λ (b : Bool). if b then x else y) is

-- What it means that rights lie within others.
pub record Lies (a b : Rights) : Type 0 where
  pub base : b.base ≤ a.base
  pub top : a.top ≤ b.top
  pub perms : bit_and a.perms.0 b.perms.0 ≡ a.perms.0

pub lies : (a b : Rights) → is_within a b ≡ true → Lies a b
unfolding is_within
lies a b t =
    let outer = and_parts (nat_le b.base a.base && nat_le a.top b.top) (bit_and a.perms.0 b.perms.0 == a.perms.0) t in
    let inner = and_parts (nat_le b.base a.base) (nat_le a.top b.top) outer.0 in
    record {
      base = le_of b.base a.base inner.0;
      top = le_of a.top b.top inner.1;
      perms = eq_of (bit_and a.perms.0 b.perms.0) a.perms.0 outer.1;
    }

pub within_of : (a b : Rights) → Lies a b → is_within a b ≡ true
unfolding is_within
within_of a b h =
    and_from (nat_le b.base a.base && nat_le a.top b.top) (bit_and a.perms.0 b.perms.0 == a.perms.0)
    (and_from (nat_le b.base a.base) (nat_le a.top b.top) (of_le b.base a.base h.base) (of_le a.top b.top h.top))
    (of_eq (bit_and a.perms.0 b.perms.0) a.perms.0 h.perms)

pub within_self : (a : Rights) → is_within a a ≡ true
within_self a = within_of a a (record {
  base = omega arith;
  top = omega arith;
  perms = and_self a.perms.0;
})

pub within_trans : (a b c : Rights) → is_within a b ≡ true → is_within b c ≡ true → is_within a c ≡ true
within_trans a b c one two =
    let h = lies a b one in
    let k = lies b c two in
    let h_base = h.base in
    let k_base = k.base in
    let h_top = h.top in
    let k_top = k.top in
    within_of a c (record {
      base = omega arith;
      top = omega arith;
      perms = ap (λ (n : ℕ). bit_and n c.perms.0) (sym h.perms)
          ∙ (and_assoc c.perms.0 a.perms.0 b.perms.0 ∙ (ap (bit_and a.perms.0) k.perms ∙ h.perms));
    })

-- what it means that rights come before others
abbrev pub Precedes : Rights → Rights → Type 0
Precedes a b =
    (a.base < b.base)
    ⊎ ((a.base ≡ b.base) × ((b.top < a.top) ⊎ ((a.top ≡ b.top) × (a.perms.0 < b.perms.0))))

pub precedes : (a b : Rights) → is_before a b ≡ true → Precedes a b
unfolding is_before
precedes a b t = elim (cases_eq a.base b.base) [
  | inl base ↦
      let rest : (if a.top == b.top then nat_lt a.perms.0 b.perms.0 else nat_lt b.top a.top) ≡ true =
      sym (when_true (a.base == b.base) (if a.top == b.top then nat_lt a.perms.0 b.perms.0 else nat_lt b.top a.top)
      (nat_lt a.base b.base) (of_eq a.base b.base base)) ∙ t in
      elim (cases_eq a.top b.top) [
        | inl top ↦ inr (
          base,
          inr (
            top,
            lt_of a.perms.0 b.perms.0
                (sym (when_true (a.top == b.top) (nat_lt a.perms.0 b.perms.0) (nat_lt b.top a.top) (of_eq a.top b.top top)) ∙ rest),
          ),
        )
        | inr top ↦ inr (
          base,
          inl (lt_of b.top a.top
              (sym (when_false (a.top == b.top) (nat_lt a.perms.0 b.perms.0) (nat_lt b.top a.top) (of_ne a.top b.top top)) ∙ rest)),
        )
      ]
  | inr base ↦ inl (lt_of a.base b.base
      (sym (when_false (a.base == b.base) (if a.top == b.top then nat_lt a.perms.0 b.perms.0 else nat_lt b.top a.top)
      (nat_lt a.base b.base) (of_ne a.base b.base base)) ∙ t))
]

pub before_of : (a b : Rights) → Precedes a b → is_before a b ≡ true
unfolding is_before
before_of a b h = elim h [
  | inl less ↦
      when_false (a.base == b.base) (if a.top == b.top then nat_lt a.perms.0 b.perms.0 else nat_lt b.top a.top)
      (nat_lt a.base b.base) (of_ne a.base b.base (λ same. absurd (omega arith))) ∙ of_lt a.base b.base less
  | inr rest ↦
      when_true (a.base == b.base) (if a.top == b.top then nat_lt a.perms.0 b.perms.0 else nat_lt b.top a.top)
      (nat_lt a.base b.base) (of_eq a.base b.base rest.0)
      ∙ elim (rest.1) as (λ _. (if a.top == b.top then nat_lt a.perms.0 b.perms.0 else nat_lt b.top a.top) ≡ true) [
        | inl less ↦
            when_false (a.top == b.top) (nat_lt a.perms.0 b.perms.0) (nat_lt b.top a.top)
            (of_ne a.top b.top (λ same. absurd (omega arith))) ∙ of_lt b.top a.top less
        | inr last ↦
            when_true (a.top == b.top) (nat_lt a.perms.0 b.perms.0) (nat_lt b.top a.top) (of_eq a.top b.top last.0)
            ∙ of_lt a.perms.0 b.perms.0 last.1
      ]
]

pub before_trans : (a b c : Rights) → is_before a b ≡ true → is_before b c ≡ true → is_before a c ≡ true
before_trans a b c one two = before_of a c (elim (precedes a b one) [
  | inl less ↦ elim (precedes b c two) [
    | inl less' ↦ inl (omega arith)
    | inr rest' ↦ let same = rest'.0 in inl (omega arith)
  ]
  | inr rest ↦
      let same = rest.0 in
      elim (precedes b c two) [
        | inl less' ↦ inl (omega arith)
        | inr rest' ↦
            let same' = rest'.0 in
            inr (
              same ∙ same',
              elim (rest.1) [
                | inl top ↦ elim (rest'.1) [
                  | inl top' ↦ inl (omega arith)
                  | inr last' ↦ let top' = last'.0 in inl (omega arith)
                ]
                | inr last ↦
                    let top = last.0 in
                    let perms = last.1 in
                    elim (rest'.1) [
                      | inl top' ↦ inl (omega arith)
                      | inr last' ↦
                          let top' = last'.0 in
                          let perms' = last'.1 in
                          inr (top ∙ top', omega arith)
                    ]
              ],
            )
      ]
])

-- nothing comes before itself
pub before_self : (a : Rights) → is_before a a ≡ true → ⊥
before_self a t = elim (precedes a a t) [
  | inl less ↦ absurd (omega arith)
  | inr rest ↦ elim (rest.1) [
    | inl top ↦ absurd (omega arith)
    | inr last ↦ let perms = last.1 in absurd (omega arith)
  ]
]

-- of two rights that do not lie within one another one comes first
pub before_other : (a b : Rights) → is_within a b ≡ false → is_before b a ≡ false → is_before a b ≡ true
before_other a b apart later = elim (cases_Bool (is_before a b)) [
  | inl so ↦ so
  | inr not_so ↦
      let base : a.base ≡ b.base = elim (cases_lt a.base b.base) [
        | inl less ↦ absurd (true_false (is_before a b) (before_of a b (inl less)) not_so)
        | inr least ↦ elim (cases_lt b.base a.base) [
          | inl less ↦ absurd (true_false (is_before b a) (before_of b a (inl less)) later)
          | inr most ↦ omega arith
        ]
      ] in
      let top : a.top ≡ b.top = elim (cases_lt b.top a.top) [
        | inl less ↦ absurd (true_false (is_before a b) (before_of a b (inr (base, inl less))) not_so)
        | inr least ↦ elim (cases_lt a.top b.top) [
          | inl less ↦ absurd (true_false (is_before b a) (before_of b a (inr (sym base, inl less))) later)
          | inr most ↦ omega arith
        ]
      ] in
      let perms : a.perms.0 ≡ b.perms.0 = elim (cases_lt a.perms.0 b.perms.0) [
        | inl less ↦ absurd (true_false (is_before a b) (before_of a b (inr (base, inr (top, less)))) not_so)
        | inr least ↦ elim (cases_lt b.perms.0 a.perms.0) [
          | inl less ↦ absurd (true_false (is_before b a) (before_of b a (inr (sym base, inr (sym top, less)))) later)
          | inr most ↦ omega arith
        ]
      ] in
      absurd (true_false (is_within a b) (within_of a b (record {
        base = omega arith;
        top = omega arith;
        perms = ap (bit_and a.perms.0) (sym perms) ∙ and_self a.perms.0;
      })) apart)
]
