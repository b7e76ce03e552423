-- How the greatest rights of two holders are made one list.
use Rattle.std.proofs.Common.{◌≡◌, ℕ, zero, suc, ◌+◌, ◌<◌, ◌≤◌, List, [], ◌∷◌, ◌++◌, length, take, get_or, arith}
use Rattle.std.proofs.Common.{ap, sym, ◌∙◌, refl, inl, inr, ◌⊎◌, subst, append_assoc, append-nil}
use Rattle.std.specs.Prelude.{Option, Some, Bool, true, false, filter, slice_get, bit_and, nat_le, if◌then◌else◌}
use Rattle.std.proofs.lemmas.Bool.{cases_Bool}
use Rattle.std.proofs.lemmas.Bool.Decides.{nat_tests}
use Rattle.std.proofs.lemmas.List.{take_all, take_more}
use Rattle.std.proofs.lemmas.Nat.{and_comm}
use Rattle.std.proofs.lemmas.Option.{none-some, same_Some}
use Rattle.cap_model.specs.values.CapValue.{CapValue}
use Rattle.cheri_model.specs.runs.Machine.{MachineState}
use Rattle.explore_rights.specs.declared.rights.Rights.{Rights}
use Rattle.explore_rights.specs.Held.{Holds}
use Rattle.explore_rights.specs.Rights.{is_before, is_within}
use Rattle.explore_rights.proofs.RightsLemmas.{lies, true_false, within_self, within_trans}
use Rattle.authorities.specs.declared.rights.Authority.{Authority}
use Rattle.authorities.specs.Authorities.{AreGreatest, IsFirst, IsHeld}
use Rattle.authorities.specs.Gathering.{AreApart, IsCovered, IsIn, IsSorted, with_rights}
use Rattle.authorities.specs.Merging.{IsMerged, stays_beside}
use Rattle.authorities.proofs.ListLemmas.{before_all, filter_in, get_in, in_either, in_filter, in_get, in_left, in_right}
use Rattle.authorities.proofs.ListLemmas.{sorted_filter, sorted_get}
use Rattle.authorities.proofs.AddLemmas.{adds}
use Rattle.authorities.proofs.GatherLemmas.{one_place}

-- rights that lie within each other are the same
pub within_both : (a b : Rights) → is_within a b ≡ true → is_within b a ≡ true → a ≡ b
within_both a b one other =
    let there = lies a b one in
    let back = lies b a other in
    let low = there.base in
    let low' = back.base in
    let high = there.top in
    let high' = back.top in
    let base : a.base ≡ b.base = omega arith in
    let top : a.top ≡ b.top = omega arith in
    let perms : a.perms.0 ≡ b.perms.0 = sym there.perms ∙ (and_comm a.perms.0 b.perms.0 ∙ back.perms) in
    ap (λ (n : ℕ). record a { base = n }) base
    ∙ (ap (λ (n : ℕ). record a { base = b.base; top = n }) top
    ∙ ap (λ (n : ℕ). record b { perms = record { 0 = n } }) perms)

-- ---- one more

stays_least : (new held : Authority) → stays_beside new held ≡ true → is_within held.rights new.rights ≡ true →
    held.first ≤ new.first
unfolding stays_beside
stays_least new held stays within =
    let e : nat_le held.first new.first ≡ true =
    sym (ap (λ (b : Bool). if b then nat_le held.first new.first else true) within) ∙ stays in
    grind (arith, nat_tests)

goes_later : (new held : Authority) → stays_beside new held ≡ false →
    (is_within held.rights new.rights ≡ true) × (new.first < held.first)
unfolding stays_beside
goes_later new held goes = elim (cases_Bool (is_within held.rights new.rights)) [
  | inl within ↦
      let e : nat_le held.first new.first ≡ false =
      sym (ap (λ (b : Bool). if b then nat_le held.first new.first else true) within) ∙ goes in
      (within, grind (arith, nat_tests))
  | inr apart ↦
      absurd (true_false true refl
      (sym (ap (λ (b : Bool). if b then nat_le held.first new.first else true) apart) ∙ goes))
]

module _ (all zs : List Authority) (y : Authority) (merged : IsMerged all zs) where
  abbrev others : List Authority
  others = filter (stays_beside y) zs

  abbrev after : List Authority
  after = with_rights others y.rights y.first

  others_apart : AreApart others
  others_apart = record {
    apart = λ a b is js.
        merged.apart.apart a b (in_filter (stays_beside y) a zs is).0 (in_filter (stays_beside y) b zs js).0;
    sorted = sorted_filter (stays_beside y) zs merged.apart.sorted;
  }

  cover_new : IsCovered after y.rights
  cover_new = (adds others y.rights y.first others_apart).covers

  cover_kept : (z : Authority) → IsIn z zs → IsCovered after z.rights
  unfolding IsCovered
  cover_kept z is = elim (cases_Bool (stays_beside y z)) [
    | inl stays ↦
        (adds others y.rights y.first others_apart).kept z.rights
        (z, filter_in (stays_beside y) z zs is stays, within_self z.rights)
    | inr goes ↦
        let w = cover_new in
        (w.0, w.1, within_trans z.rights y.rights (w.0).rights (goes_later y z goes).0 w.2)
  ]

  cover_old : (r : Rights) → IsCovered zs r → IsCovered after r
  unfolding IsCovered
  cover_old r is =
      let w = cover_kept is.0 is.1 in
      (w.0, w.1, within_trans r (is.0).rights (w.0).rights is.2 w.2)

  -- what is new lies within nothing that stays
  new_least : ¬ IsCovered others y.rights → (b : Authority) → IsIn b all → is_within y.rights b.rights ≡ true →
      y.first ≤ b.first
  unfolding IsCovered
  new_least free b is within =
      let z = merged.covered b is in
      let beyond : is_within y.rights (z.0).rights ≡ true = within_trans y.rights b.rights (z.0).rights within z.2 in
      elim (cases_Bool (stays_beside y z.0)) [
        | inl stays ↦ absurd (free (z.0, filter_in (stays_beside y) z.0 zs z.1 stays, beyond))
        | inr goes ↦
            let later = goes_later y z.0 goes in
            let old = merged.least z.0 b z.1 is (within_trans (z.0).rights y.rights b.rights later.0 within) in
            let less = later.1 in
            omega arith
      ]

  from_either : (a : Authority) → IsIn a after → (IsIn a zs × (stays_beside y a ≡ true)) ⊎ ((a ≡ y) × ¬ IsCovered others y.rights)
  from_either a is = elim ((adds others y.rights y.first others_apart).from a is) [
    | inl old ↦ inl (in_filter (stays_beside y) a zs old)
    | inr new ↦ inr new
  ]

  least_of : (a b : Authority) → IsIn a after → IsIn b (all ++ y ∷ []) → is_within a.rights b.rights ≡ true → a.first ≤ b.first
  least_of a b is js within = elim (from_either a is) [
    | inl old ↦ elim (in_either b all (y ∷ []) js) [
      | inl before ↦ merged.least a b old.0 before within
      | inr own ↦ elim own [
        | inl same ↦
            subst (λ (c : Authority). a.first ≤ c.first) same
            (stays_least y a old.1 (subst (λ (c : Authority). is_within a.rights c.rights ≡ true) (sym same) within))
        | inr none ↦ absurd none
      ]
    ]
    | inr new ↦ elim (in_either b all (y ∷ []) js) [
      | inl before ↦
          subst (λ (c : Authority). c.first ≤ b.first) (sym new.0)
          (new_least new.1 b before (subst (λ (c : Authority). is_within c.rights b.rights ≡ true) new.0 within))
      | inr own ↦ elim own [
        | inl same ↦
            let first : a.first ≡ b.first = ap (λ (c : Authority). c.first) (new.0 ∙ same) in
            omega arith
        | inr none ↦ absurd none
      ]
    ]
  ]

  pub merged_more : IsMerged (all ++ y ∷ []) after
  merged_more = record {
    from = λ a is. elim (from_either a is) [
      | inl old ↦ in_left a all (y ∷ []) (merged.from a old.0)
      | inr new ↦ in_right a all (y ∷ []) (inl (sym new.0))
    ];
    covered = λ a is. elim (in_either a all (y ∷ []) is) [
      | inl before ↦ cover_old a.rights (merged.covered a before)
      | inr own ↦ elim own [
        | inl same ↦ subst (λ (c : Authority). IsCovered after c.rights) same cover_new
        | inr none ↦ absurd none
      ]
    ];
    least = least_of;
    apart = (adds others y.rights y.first others_apart).apart;
  }

pub merged_none : (xs : List Authority) → AreApart xs → IsMerged (xs ++ []) xs
unfolding IsCovered
merged_none xs apart = rw append-nil (record {
  from = λ a is. is;
  covered = λ a is. (a, is, within_self a.rights);
  least = λ a b is js within.
      let same = apart.apart a b is js within in
      let first : a.first ≡ b.first = ap (λ (c : Authority). c.first) same in
      omega arith;
  apart = apart;
})

-- the same of those up to a place
pub merged_step : (xs ys zs new : List Authority) (i : ℕ) (d : Authority) → i < length ys →
    new ≡ with_rights (filter (stays_beside (get_or ys i d)) zs) (get_or ys i d).rights (get_or ys i d).first →
    IsMerged (xs ++ take i ys) zs → IsMerged (xs ++ take (i + 1) ys) new
merged_step xs ys zs new i d within made merged =
    let y = get_or ys i d in
    let more : xs ++ take (i + 1) ys ≡ (xs ++ take i ys) ++ y ∷ [] =
    ap (λ (l : List Authority). xs ++ l) (take_more ys i d within) ∙ sym (append_assoc xs (take i ys) (y ∷ [])) in
    subst (λ (l : List Authority). IsMerged l new) (sym more)
    (subst (IsMerged ((xs ++ take i ys) ++ y ∷ [])) (sym made) (merged_more (xs ++ take i ys) zs y merged))

pub merged_all : (xs ys zs : List Authority) (i : ℕ) → length ys ≤ i → IsMerged (xs ++ take i ys) zs → IsMerged (xs ++ ys) zs
merged_all xs ys zs i past merged =
    subst (λ (l : List Authority). IsMerged (xs ++ l) zs) (take_all i ys past) merged

-- ---- the greatest of two holders

-- what is at earlier places comes before
sorted_from : (xs : List Authority) → ((j k : ℕ) (a b : Authority) → j < k → slice_get xs j ≡ Some a →
    slice_get xs k ≡ Some b → is_before a.rights b.rights ≡ true) → IsSorted xs
sorted_from [] ordered = tt
sorted_from (x ∷ xs) ordered = (
  before_all x xs (λ b is. let k = in_get b xs is in ordered 0 (suc k.0) x b (omega arith) refl k.1),
  sorted_from xs (λ j k a b less is js. ordered (suc j) (suc k) a b (omega arith) is js),
)

pub greatest_apart : (at : ℕ → Option MachineState) (values : MachineState → List CapValue) (xs : List Authority) →
    AreGreatest at values xs → AreApart xs
greatest_apart at values xs greatest = record {
  apart = λ a b is js within.
      let j = in_get a xs is in
      let k = in_get b xs js in
      let same = greatest.apart j.0 k.0 a b j.1 k.1 within in
      same_Some a b (sym j.1 ∙ (ap (slice_get xs) same ∙ k.1));
  sorted = sorted_from xs greatest.ordered;
}

pub holds_left : (vs ws : List CapValue) (r : Rights) → Holds vs r → Holds (vs ++ ws) r
holds_left [] ws r h = absurd (none-some h.1 h.2)
holds_left (v ∷ vs) ws r (zero, x, at, tagged, same) = (0, x, at, tagged, same)
holds_left (v ∷ vs) ws r (suc k, x, at, tagged, same) =
    let h = holds_left vs ws r (k, x, at, tagged, same) in
    (suc h.0, h.1, h.2, h.3, h.4)

pub holds_right : (vs ws : List CapValue) (r : Rights) → Holds ws r → Holds (vs ++ ws) r
holds_right [] ws r h = h
holds_right (v ∷ vs) ws r h =
    let later = holds_right vs ws r h in
    (suc later.0, later.1, later.2, later.3, later.4)

pub holds_either : (vs ws : List CapValue) (r : Rights) → Holds (vs ++ ws) r → Holds vs r ⊎ Holds ws r
holds_either [] ws r h = inr h
holds_either (v ∷ vs) ws r (zero, x, at, tagged, same) = inl (0, x, at, tagged, same)
holds_either (v ∷ vs) ws r (suc k, x, at, tagged, same) = elim (holds_either vs ws r (k, x, at, tagged, same)) [
  | inl h ↦ inl (suc h.0, h.1, h.2, h.3, h.4)
  | inr h ↦ inr h
]

module _ (at : ℕ → Option MachineState) (one other : MachineState → List CapValue) where
  abbrev both : MachineState → List CapValue
  both s = one s ++ other s

  held_left : (i : ℕ) (r : Rights) → IsHeld at one i r → IsHeld at both i r
  unfolding IsHeld
  held_left i r h = (h.0, h.1, holds_left (one h.0) (other h.0) r h.2)

  held_right : (i : ℕ) (r : Rights) → IsHeld at other i r → IsHeld at both i r
  unfolding IsHeld
  held_right i r h = (h.0, h.1, holds_right (one h.0) (other h.0) r h.2)

  held_either : (i : ℕ) (r : Rights) → IsHeld at both i r → IsHeld at one i r ⊎ IsHeld at other i r
  unfolding IsHeld
  held_either i r h = elim (holds_either (one h.0) (other h.0) r h.2) [
    | inl left ↦ inl (h.0, h.1, left)
    | inr right ↦ inr (h.0, h.1, right)
  ]

-- one of the two, of whose list all entries are among those that were merged
module _ (at : ℕ → Option MachineState) (values : MachineState → List CapValue) (xs all zs : List Authority)
    (greatest : AreGreatest at values xs) (inside : (a : Authority) → IsIn a xs → IsIn a all) (merged : IsMerged all zs) where
  covered_too : (i : ℕ) (r : Rights) → IsHeld at values i r → IsCovered zs r
  unfolding IsCovered
  covered_too i r held =
      let x = greatest.bounded i r held in
      let z = merged.covered x.1 (inside x.1 (get_in x.1 xs x.0 x.2)) in
      (z.0, z.1, within_trans r (x.1).rights (z.0).rights x.3 z.2)

  -- it doesn't hold the rights of an entry before
  not_earlier : (a : Authority) → IsIn a zs → (i : ℕ) → i < a.first → ¬ IsHeld at values i a.rights
  unfolding IsCovered
  not_earlier a is i low held =
      let x = greatest.bounded i a.rights held in
      let among = inside x.1 (get_in x.1 xs x.0 x.2) in
      let z = merged.covered x.1 among in
      let same = merged.apart.apart a z.0 is z.1 (within_trans a.rights (x.1).rights (z.0).rights x.3 z.2) in
      let back : is_within (x.1).rights a.rights ≡ true =
      subst (λ (c : Authority). is_within (x.1).rights c.rights ≡ true) (sym same) z.2 in
      let just = within_both a.rights (x.1).rights x.3 back in
      let least = merged.least a x.1 is among x.3 in
      let early : i < (x.1).first = omega arith in
      (greatest.first x.0 x.1 x.2).earlier i early (subst (λ (r : Rights). IsHeld at values i r) just held)

module _ (at : ℕ → Option MachineState) (one other : MachineState → List CapValue) (xs ys zs : List Authority)
    (first : AreGreatest at one xs) (second : AreGreatest at other ys) (merged : IsMerged (xs ++ ys) zs) where
  abbrev in_first : (a : Authority) → IsIn a xs → IsIn a (xs ++ ys)
  in_first a is = in_left a xs ys is

  abbrev in_second : (a : Authority) → IsIn a ys → IsIn a (xs ++ ys)
  in_second a is = in_right a xs ys is

  held_first : (a : Authority) → IsIn a zs → IsHeld at (both at one other) a.first a.rights
  held_first a is = elim (in_either a xs ys (merged.from a is)) [
    | inl left ↦
        let k = in_get a xs left in held_left at one other a.first a.rights (first.first k.0 a k.1).held
    | inr right ↦
        let k = in_get a ys right in held_right at one other a.first a.rights (second.first k.0 a k.1).held
  ]

  none_earlier : (a : Authority) → IsIn a zs → (i : ℕ) → i < a.first → ¬ IsHeld at (both at one other) i a.rights
  none_earlier a is i low held = elim (held_either at one other i a.rights held) [
    | inl left ↦ not_earlier at one xs (xs ++ ys) zs first in_first merged a is i low left
    | inr right ↦ not_earlier at other ys (xs ++ ys) zs second in_second merged a is i low right
  ]

  covered_both : (i : ℕ) (r : Rights) → IsHeld at (both at one other) i r → IsCovered zs r
  covered_both i r held = elim (held_either at one other i r held) [
    | inl left ↦ covered_too at one xs (xs ++ ys) zs first in_first merged i r left
    | inr right ↦ covered_too at other ys (xs ++ ys) zs second in_second merged i r right
  ]

  pub merged_greatest : AreGreatest at (λ s. one s ++ other s) zs
  unfolding IsCovered
  merged_greatest = record {
    first = λ k a is. record {
      held = held_first a (get_in a zs k is);
      earlier = none_earlier a (get_in a zs k is);
    };
    bounded = λ i r held.
        let c = covered_both i r held in
        let k = in_get c.0 zs c.1 in
        (k.0, c.0, k.1, c.2);
    apart = λ j k a b is js within.
        let same = merged.apart.apart a b (get_in a zs j is) (get_in b zs k js) within in
        one_place zs merged.apart j k a b is js same;
    ordered = λ j k a b low is js. sorted_get zs j k a b merged.apart.sorted low is js;
  }
