-- What harts hold that stand for one another.
use Rattle.std.proofs.Common.{◌≡◌, ℕ, ◌<◌, List, length, arith, sym, ap, ◌∙◌, subst, inl, inr, ◌⊎◌}
use Rattle.std.specs.Prelude.{Bool, true, not, ◌==◌, ◌||◌, slice_get}
use Rattle.std.proofs.lemmas.Bool.{and_from, and_parts, cases_eq, cases_lt, eq-eqb, eqb-true, ne_eqb, or_left, or_right}
use Rattle.cheri_model.specs.declared.image.HartImage.{HartImage}
use Rattle.cheri_model.specs.runs.Machine.{MachineState, hart_at}
use Rattle.cheri_model.specs.steps.Hart.{HartState}
use Rattle.explore_rights.specs.Held.{Holds, held_by}
use Rattle.explore_rights.specs.declared.rights.Rights.{Rights}
use Rattle.hart_order.specs.Arrangements.{are_grouped, group_of}
use Rattle.hart_regrouping.specs.Regrouping.{IsRegrouping}
use Rattle.hart_exchanges.specs.Exchanges.{AreEqual, AreGroupsEqual, stands_for}

-- a hart stands for itself
pub itself : (groups : List ℕ) (one other : ℕ) → one ≡ other → stands_for groups one other ≡ true
unfolding stands_for
itself groups one other same = or_left (one == other) (are_grouped groups one other) (eq-eqb one other same)

-- and for another of its group
pub of_group : (groups : List ℕ) (one other : ℕ) → are_grouped groups one other ≡ true → stands_for groups one other ≡ true
unfolding stands_for
of_group groups one other same = or_right (one == other) (are_grouped groups one other) same

-- a hart that stands for another is this, or of its group
stands_either : (groups : List ℕ) (one other : ℕ) → stands_for groups one other ≡ true →
    (one ≡ other) ⊎ (are_grouped groups one other ≡ true)
unfolding stands_for
stands_either groups one other stands = elim (cases_eq one other) [
  | inl same ↦ inl same
  | inr apart ↦ inr (sym (ap (λ (b : Bool). b || are_grouped groups one other) (ne_eqb one other apart)) ∙ stands)
]

-- one that stands for a hart which stands for another stands for this, too
pub stands_through : (groups : List ℕ) (one other third : ℕ) → stands_for groups one other ≡ true →
    stands_for groups other third ≡ true → stands_for groups one third ≡ true
stands_through groups one other third first second = elim (stands_either groups one other first) [
  | inl same ↦ subst (λ (k : ℕ). stands_for groups k third ≡ true) (sym same) second
  | inr grouped ↦ elim (stands_either groups other third second) [
    | inl same ↦ subst (λ (k : ℕ). stands_for groups one k ≡ true) same first
    | inr too ↦
        let parts = and_parts (not (group_of groups one == 0)) (group_of groups one == group_of groups other) grouped in
        let later = and_parts (not (group_of groups other == 0)) (group_of groups other == group_of groups third) too in
        of_group groups one third
        (and_from (not (group_of groups one == 0)) (group_of groups one == group_of groups third) parts.0
        (eq-eqb (group_of groups one) (group_of groups third)
        (eqb-true (group_of groups one) (group_of groups other) parts.1
        ∙ eqb-true (group_of groups other) (group_of groups third) later.1)))
  ]
]

-- harts that stand for one another have equal images, where those of groups do
pub equal_so : (harts : List HartImage) (groups : List ℕ) (one other : ℕ) → AreGroupsEqual harts groups →
    stands_for groups one other ≡ true → AreEqual harts one other
equal_so harts groups one other equal stands = elim (stands_either groups one other stands) [
  | inl same ↦ ap (slice_get harts) same
  | inr grouped ↦ equal one other grouped
]

module _ (groups : List ℕ) (state after : MachineState) (like : IsRegrouping groups state after) (hart : ℕ) where
  abbrev to : ℕ
  to = like.1.0.to hart

  same_group : group_of groups hart ≡ group_of groups to
  same_group = ap (group_of groups) (sym (like.1.0.back hart)) ∙ like.1.1 to

  pub stands_so : stands_for groups hart to ≡ true
  stands_so = elim (cases_eq (group_of groups hart) 0) [
    | inl none ↦
        let stays : like.0 hart ≡ hart = like.1.0.staying hart (eq-eqb (group_of groups hart) 0 none) in
        itself groups hart to (sym (like.1.0.there hart) ∙ ap like.1.0.to stays)
    | inr some ↦
        of_group groups hart to
        (and_from (not (group_of groups hart == 0)) (group_of groups hart == group_of groups to)
        (ap not (ne_eqb (group_of groups hart) 0 some)) (eq-eqb (group_of groups hart) (group_of groups to) same_group))
  ]

  same_hart : hart_at state hart ≡ hart_at after to
  same_hart = sym (like.1.0.harts to ∙ ap (hart_at state) (like.1.0.back hart))

  inside_so : hart < length state.harts → to < length after.harts
  inside_so inside = elim (cases_lt to (length state.harts)) [
    | inl low ↦ let count = like.1.0.count in omega arith
    | inr past ↦
        let still : hart ≡ to = sym (like.1.0.back hart) ∙ like.1.0.beyond to past in
        absurd (omega (arith, still))
  ]

  pub holds_so : (rights : Rights) → hart < length state.harts → Holds (held_by (hart_at state hart)) rights →
      (other : ℕ) × (other < length after.harts) × (stands_for groups hart other ≡ true)
      × Holds (held_by (hart_at after other)) rights
  holds_so rights inside holds = (
    to,
    inside_so inside,
    stands_so,
    subst (λ (h : HartState). Holds (held_by h) rights) same_hart holds,
  )
