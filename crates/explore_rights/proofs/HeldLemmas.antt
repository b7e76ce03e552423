-- Where a step keeps rights, each lies within one that is held after it.
use Rattle.std.proofs.Common.{◌≡◌, ℕ, zero, suc, ◌+◌, ◌<◌, List, [], ◌∷◌, length, get_or, slice_set, arith, ap, sym, ◌∙◌, refl, inl, inr, subst}
use Rattle.std.proofs.lemmas.Grind.{common_steps}
use Rattle.std.specs.Prelude.{Bool, true, ◌||◌, slice_get, Some, if◌then◌else◌}
use Rattle.std.specs.List.{list_all, list_any}
use Rattle.std.proofs.lemmas.Bool.{cases_Bool, and_parts, and_from}
use Rattle.std.proofs.lemmas.Option.{none-some, same_Some}
use Rattle.cap_model.specs.values.CapValue.{CapValue, tag_of}
use Rattle.cheri_model.specs.steps.Hart.{HartState, register}
use Rattle.explore_rights.specs.declared.rights.Rights.{Rights}
use Rattle.explore_rights.specs.Rights.{rights_of, is_within}
use Rattle.explore_rights.specs.Held.{Holds, held_by, bounds, is_kept, keeps_rights}
use Rattle.explore_rights.proofs.RightsLemmas.{within_self, within_trans}

all_get : (p : CapValue → Bool) (xs : List CapValue) (k : ℕ) (v : CapValue) → list_all p xs ≡ true →
    slice_get xs k ≡ Some v → p v ≡ true
all_get p [] k v all is = absurd (none-some v is)
all_get p (x ∷ xs) zero v all is =
    subst (λ (y : CapValue). p y ≡ true) (same_Some x v is) (and_parts (p x) (list_all p xs) all).0
all_get p (x ∷ xs) (suc k) v all is = all_get p xs k v (and_parts (p x) (list_all p xs) all).1 is

-- a value of the list that passes
abbrev Passing : (CapValue → Bool) → List CapValue → Type 0
Passing p xs = (k : ℕ) × (v : CapValue) × (slice_get xs k ≡ Some v) × (p v ≡ true)

any_get : (p : CapValue → Bool) (xs : List CapValue) → list_any p xs ≡ true → Passing p xs
any_get p [] any = absurd (cc)
any_get p (x ∷ xs) any = elim (cases_Bool (p x)) [
  | inl so ↦ (0, x, refl, so)
  | inr fails ↦
      let later : list_any p xs ≡ true = sym (ap (λ (b : Bool). b || list_any p xs) fails) ∙ any in
      let found = any_get p xs later in
      (suc found.0, found.1, found.2, found.3)
]

kept_any : (others : List CapValue) (v : CapValue) → tag_of v ≡ true → is_kept others v ≡ true →
    list_any (bounds (rights_of v)) others ≡ true
unfolding is_kept
kept_any others v tagged kept =
    sym (ap (λ (b : Bool). if b then list_any (bounds (rights_of v)) others else true) tagged) ∙ kept

bounds_both : (r : Rights) (v : CapValue) → bounds r v ≡ true →
    (tag_of v ≡ true) × (is_within r (rights_of v) ≡ true)
unfolding bounds
bounds_both r v is = and_parts (tag_of v) (is_within r (rights_of v)) is

pub kept_within : (before after : HartState) (r : Rights) → keeps_rights before after ≡ true →
    Holds (held_by before) r → (s : Rights) × Holds (held_by after) s × (is_within r s ≡ true)
unfolding keeps_rights
kept_within before after r keeps held =
    let k = held.0 in
    let v = held.1 in
    let there = held.2 in
    let tagged = held.3 in
    let same = held.4 in
    let kept = all_get (is_kept (held_by after)) (held_by before) k v keeps there in
    let found = any_get (bounds (rights_of v)) (held_by after) (kept_any (held_by after) v tagged kept) in
    let w = found.1 in
    let both = bounds_both (rights_of v) w found.3 in (
      rights_of w,
      (found.0, w, found.2, both.0, refl),
      subst (λ (x : Rights). is_within x (rights_of w) ≡ true) same both.1,
    )

-- a register more of what a hart holds
pub one_more_held : (hart : HartState) (held : List CapValue) (number place : ℕ) (value : CapValue) →
    length hart.regs ≡ 32 → number < 32 → place ≡ number + 1 → value ≡ register hart number →
    (length held ≡ 33)
    × ((k : ℕ) (d : CapValue) → k < number + 1 → get_or held k d ≡ get_or (held_by hart) k d) →
    (length (slice_set held place value) ≡ 33)
    × ((k : ℕ) (d : CapValue) → k < number + 1 + 1 →
    get_or (slice_set held place value) k d ≡ get_or (held_by hart) k d)
unfolding register
one_more_held hart held number place value count below there is so = grind (arith, common_steps)

-- what holds rights has something that bounds them, and what bounds them is held
get_any : (p : CapValue → Bool) (xs : List CapValue) (k : ℕ) (v : CapValue) → slice_get xs k ≡ Some v → p v ≡ true →
    list_any p xs ≡ true
get_any p [] k v is so = absurd (none-some v is)
get_any p (x ∷ xs) zero v is so =
    ap (λ (b : Bool). b || list_any p xs) (subst (λ (y : CapValue). p y ≡ true) (sym (same_Some x v is)) so)
get_any p (x ∷ xs) (suc k) v is so = elim (cases_Bool (p x)) [
  | inl here ↦ ap (λ (b : Bool). b || list_any p xs) here
  | inr fails ↦ ap (λ (b : Bool). b || list_any p xs) fails ∙ get_any p xs k v is so
]

both_bound : (r : Rights) (v : CapValue) → tag_of v ≡ true → is_within r (rights_of v) ≡ true → bounds r v ≡ true
unfolding bounds
both_bound r v tagged within = and_from (tag_of v) (is_within r (rights_of v)) tagged within

pub bounding_any : (values : List CapValue) (r : Rights) → Holds values r → list_any (bounds r) values ≡ true
bounding_any values r held =
    get_any (bounds r) values held.0 held.1 held.2
    (both_bound r held.1 held.3
    (subst (λ (x : Rights). is_within r x ≡ true) (sym held.4) (within_self r)))

pub any_bounding : (values : List CapValue) (r : Rights) → list_any (bounds r) values ≡ true →
    (s : Rights) × Holds values s × (is_within r s ≡ true)
any_bounding values r any =
    let found = any_get (bounds r) values any in
    let both = bounds_both r found.1 found.3 in
    (rights_of found.1, (found.0, found.1, found.2, both.0, refl), both.1)

pub kept_bounding : (before after : HartState) (r : Rights) → keeps_rights before after ≡ true →
    list_any (bounds r) (held_by before) ≡ true → list_any (bounds r) (held_by after) ≡ true
kept_bounding before after r keeps any =
    let held = any_bounding (held_by before) r any in
    let found = kept_within before after held.0 keeps held.1 in
    let w = found.1.1 in
    get_any (bounds r) (held_by after) found.1.0 w found.1.2
    (both_bound r w found.1.3
    (subst (λ (x : Rights). is_within r x ≡ true) (sym found.1.4) (within_trans r held.0 found.0 held.2 found.2)))
