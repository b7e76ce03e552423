-- What the harts hold that stand for one another.
use Rattle.std.proofs.Common.{◌≡◌, ℕ, zero, suc, ◌+◌, ◌<◌, List, [], ◌++◌, length, get_or, arith, add-one, sym, subst, inl, inr}
use Rattle.std.specs.Prelude.{Bool, true, false, Option, IfSome, if◌then◌else◌, slice_get, Vec}
use Rattle.std.specs.Global.{Global}
use Rattle.std.proofs.lemmas.Bool.{cases_Bool, cases_eq}
use Rattle.std.proofs.lemmas.Option.{none-some, slice_get-get_or}
use Rattle.authorities.specs.Authorities.{AreGreatest, IsHeld, hart_values}
use Rattle.authorities.specs.declared.rights.Authority.{Authority}
use Rattle.authorities.proofs.MergeLemmas.{holds_either, holds_left, holds_right}
use Rattle.cap_model.specs.values.CapValue.{CapValue}
use Rattle.cheri_model.specs.runs.Machine.{MachineState}
use Rattle.explore_rights.specs.Held.{Holds}
use Rattle.explore_rights.specs.declared.rights.Rights.{Rights}
use Rattle.hart_exchanges.specs.Exchanges.{stands_for}
use Rattle.alike_authority.specs.GroupRights.{group_values}

module _ (groups : List ℕ) (hart : ℕ) where
  abbrev values : ℕ → MachineState → List CapValue
  values number s = group_values groups hart number s

  -- with one hart more, by whether it stands for the hart
  abbrev with_one : Bool → ℕ → MachineState → List CapValue
  with_one stands number s = if stands then values number s ++ hart_values number s else values number s

  one_more : (number : ℕ) (s : MachineState) (stands : Bool) (r : Rights) → stands_for groups hart number ≡ stands →
      Holds (with_one stands number s) r → Holds (values (suc number) s) r
  unfolding group_values
  one_more number s stands r is holds = subst (λ (b : Bool). Holds (with_one b number s) r) (sym is) holds

  more_one : (number : ℕ) (s : MachineState) (stands : Bool) (r : Rights) → stands_for groups hart number ≡ stands →
      Holds (values (suc number) s) r → Holds (with_one stands number s) r
  unfolding group_values
  more_one number s stands r is holds = subst (λ (b : Bool). Holds (with_one b number s) r) is holds

  none_held : (s : MachineState) (r : Rights) → Holds (values 0 s) r → ⊥
  unfolding group_values
  none_held s r holds = none-some holds.1 holds.2

  -- what a hart holds that stands for the hart is among it
  pub member_held : (number other : ℕ) (s : MachineState) (r : Rights) → other < number →
      stands_for groups hart other ≡ true → Holds (hart_values other s) r → Holds (values number s) r
  member_held zero other s r low stands holds = absurd (omega arith)
  member_held (suc number) other s r low stands holds = elim (cases_eq other number) [
    | inl same ↦
        one_more number s true r (subst (λ (k : ℕ). stands_for groups hart k ≡ true) same stands)
        (holds_right (values number s) (hart_values number s) r
        (subst (λ (k : ℕ). Holds (hart_values k s) r) same holds))
    | inr apart ↦
        let before = member_held number other s r (omega arith) stands holds in
        elim (cases_Bool (stands_for groups hart number)) [
          | inl so ↦ one_more number s true r so (holds_left (values number s) (hart_values number s) r before)
          | inr not_so ↦ one_more number s false r not_so before
        ]
  ]

  -- and all of it is held by such a hart
  abbrev pub IsMembers : ℕ → MachineState → Rights → Type 0
  IsMembers number s r =
      (other : ℕ) × (other < number) × (stands_for groups hart other ≡ true) × Holds (hart_values other s) r

  pub held_member : (number : ℕ) (s : MachineState) (r : Rights) → Holds (values number s) r → IsMembers number s r
  held_member zero s r holds = absurd (none_held s r holds)
  held_member (suc number) s r holds = elim (cases_Bool (stands_for groups hart number)) [
    | inl stands ↦ elim (holds_either (values number s) (hart_values number s) r (more_one number s true r stands holds)) [
      | inl before ↦ let m = held_member number s r before in (m.0, omega (arith, m.1), m.2, m.3)
      | inr own ↦ (number, omega arith, stands, own)
    ]
    | inr apart ↦
        let m = held_member number s r (more_one number s false r apart holds) in (m.0, omega (arith, m.1), m.2, m.3)
  ]

  -- ---- the greatest of it

  module _ (at : ℕ → Option MachineState) where
    pub group_none : AreGreatest at (values 0) []
    unfolding IsHeld
    group_none = record {
      first = λ k a is. absurd (none-some a is);
      bounded = λ i r held. absurd (none_held held.0 r held.2);
      apart = λ j k a b is. absurd (none-some a is);
      ordered = λ j k a b low is. absurd (none-some a is);
    }

    group_as : (number : ℕ) (stands : Bool) (list : List Authority) → stands_for groups hart number ≡ stands →
        AreGreatest at (with_one stands number) list → AreGreatest at (values (number + 1)) list
    unfolding group_values
    group_as number stands list is greatest =
        subst (λ (k : ℕ). AreGreatest at (values k) list) (sym (add-one number))
        (subst (λ (b : Bool). AreGreatest at (with_one b number) list) (sym is) greatest)

    pub group_more : (number : ℕ) (list : List Authority) → stands_for groups hart number ≡ true →
        AreGreatest at (λ s. values number s ++ hart_values number s) list → AreGreatest at (values (number + 1)) list
    group_more number list is greatest = group_as number true list is greatest

    pub group_same : (number : ℕ) (list : List Authority) → stands_for groups hart number ≡ false →
        AreGreatest at (values number) list → AreGreatest at (values (number + 1)) list
    group_same number list is greatest = group_as number false list is greatest

-- the list at a place
pub list_at : (at : ℕ → Option MachineState) (lists : List (Vec Authority Global)) (i : ℕ) (d : Vec Authority Global) →
    i < length lists →
    ((number : ℕ) → IfSome (slice_get lists number) (λ own. AreGreatest at (hart_values number) own.items)) →
    AreGreatest at (hart_values i) (get_or lists i d).items
list_at at lists i d within each =
    subst (λ (o : Option (Vec Authority Global)). IfSome o (λ own. AreGreatest at (hart_values i) own.items))
    (slice_get-get_or lists i d within) (each i)
