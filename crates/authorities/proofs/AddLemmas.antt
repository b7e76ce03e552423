-- One more rights in the list of the greatest.
use Rattle.std.proofs.Common.{◌≡◌, ℕ, List, [], ◌∷◌, ◌++◌, ap, sym, ◌∙◌, refl, inl, inr, ◌⊎◌, subst}
use Rattle.std.specs.Prelude.{Bool, true, false, not, filter, if◌then◌else◌, ◌||◌}
use Rattle.std.specs.List.{list_any}
use Rattle.std.proofs.lemmas.Bool.{cases_Bool}
use Rattle.explore_rights.specs.declared.rights.Rights.{Rights}
use Rattle.authorities.specs.declared.rights.Authority.{Authority}
use Rattle.explore_rights.specs.Rights.{is_within, is_before}
use Rattle.authorities.specs.Gathering.{IsIn, IsSorted, IsCovered, AreApart, stays, is_covered, with_rights}
use Rattle.explore_rights.proofs.RightsLemmas.{true_false, within_self, within_trans, before_trans, before_other}
use Rattle.authorities.proofs.ListLemmas.{in_left, in_right, in_either, in_filter, filter_in, sorted_filter, sorted_append}

pub covered_of : (xs : List Authority) (r : Rights) → is_covered xs r ≡ true → IsCovered xs r
unfolding is_covered IsCovered
covered_of [] r t = absurd (cc)
covered_of (x ∷ xs) r t = elim (cases_Bool (is_within r x.rights)) [
  | inl so ↦ (x, inl refl, so)
  | inr not_so ↦
      let rest : list_any (λ (a : Authority). is_within r a.rights) xs ≡ true =
      ap (λ (b : Bool). b || list_any (λ (a : Authority). is_within r a.rights) xs) (sym not_so) ∙ t in
      let c = covered_of xs r rest in
      (c.0, inr c.1, c.2)
]

pub covered_is : (xs : List Authority) (r : Rights) (a : Authority) → IsIn a xs → is_within r a.rights ≡ true →
    is_covered xs r ≡ true
unfolding is_covered
covered_is [] r a is so = absurd is
covered_is (x ∷ xs) r a is so = elim (cases_Bool (is_within r x.rights)) [
  | inl here ↦ ap (λ (b : Bool). b || list_any (λ (c : Authority). is_within r c.rights) xs) here
  | inr not_so ↦
      ap (λ (b : Bool). b || list_any (λ (c : Authority). is_within r c.rights) xs) not_so
      ∙ elim is as (λ _. list_any (λ (c : Authority). is_within r c.rights) xs ≡ true) [
        | inl same ↦ absurd (true_false (is_within r x.rights) (ap (λ (c : Authority). is_within r c.rights) same ∙ so) not_so)
        | inr later ↦ covered_is xs r a later so
      ]
]

pub not_covered : (xs : List Authority) (r : Rights) → is_covered xs r ≡ false → ¬ IsCovered xs r
unfolding IsCovered
not_covered xs r not_so is = true_false (is_covered xs r) (covered_is xs r is.0 is.1 is.2) not_so

side : (before b : Bool) → (if before then b else not b) ≡ true → b ≡ before
side true b t = t
side false true t = sym t
side false false t = refl

own_side : (b : Bool) → (if b then b else not b) ≡ true
own_side true = refl
own_side false = refl

-- what stays, before the new rights and after them
stays_parts : (r : Rights) (before : Bool) (a : Authority) → stays r before a ≡ true →
    (is_within a.rights r ≡ false) × (is_before a.rights r ≡ before)
unfolding stays
stays_parts r before a t = elim (cases_Bool (is_within a.rights r)) [
  | inl so ↦ absurd (true_false false (ap (λ (b : Bool). if b then false
      else (if before then is_before a.rights r else not (is_before a.rights r))) (sym so) ∙ t) refl)
  | inr not_so ↦
      let rest : (if before then is_before a.rights r else not (is_before a.rights r)) ≡ true =
      ap (λ (b : Bool). if b then false
      else (if before then is_before a.rights r else not (is_before a.rights r))) (sym not_so) ∙ t in
      (not_so, side before (is_before a.rights r) rest)
]

stays_made : (r : Rights) (a : Authority) → is_within a.rights r ≡ false → stays r (is_before a.rights r) a ≡ true
unfolding stays
stays_made r a not_so =
    ap (λ (b : Bool). if b then false
    else (if is_before a.rights r then is_before a.rights r else not (is_before a.rights r))) not_so
    ∙ own_side (is_before a.rights r)

module _ (xs : List Authority) (r : Rights) (n : ℕ) (apart : AreApart xs) (new : is_covered xs r ≡ false) where
  abbrev pub one : Authority
  one = record { rights = r; first = n }

  abbrev pub ys : List Authority
  ys = filter (stays r true) xs ++ one ∷ [] ++ filter (stays r false) xs

  pub with_is : with_rights xs r n ≡ ys
  unfolding with_rights
  with_is = ap (λ (b : Bool). if b then xs
      else filter (stays r true) xs ++ record { rights = r; first = n } ∷ [] ++ filter (stays r false) xs) new

  in_ys : (b : Authority) → IsIn b ys → (IsIn b xs × (is_within b.rights r ≡ false)) ⊎ (one ≡ b)
  in_ys b is = elim (in_either b (filter (stays r true) xs ++ one ∷ []) (filter (stays r false) xs) is) [
    | inl left ↦ elim (in_either b (filter (stays r true) xs) (one ∷ []) left) [
      | inl before ↦
          let f = in_filter (stays r true) b xs before in inl (f.0, (stays_parts r true b f.1).0)
      | inr own ↦ elim own [
        | inl same ↦ inr same
        | inr none ↦ absurd none
      ]
    ]
    | inr after ↦
        let f = in_filter (stays r false) b xs after in inl (f.0, (stays_parts r false b f.1).0)
  ]

  one_in : IsIn one ys
  one_in = in_left one (filter (stays r true) xs ++ one ∷ []) (filter (stays r false) xs)
      (in_right one (filter (stays r true) xs) (one ∷ []) (inl refl))

  old_in : (b : Authority) → IsIn b xs → is_within b.rights r ≡ false → IsIn b ys
  old_in b is not_so = elim (cases_Bool (is_before b.rights r)) [
    | inl so ↦ in_left b (filter (stays r true) xs ++ one ∷ []) (filter (stays r false) xs)
        (in_left b (filter (stays r true) xs) (one ∷ []) (filter_in (stays r true) b xs is
        (subst (λ (side : Bool). stays r side b ≡ true) so (stays_made r b not_so))))
    | inr later ↦ in_right b (filter (stays r true) xs ++ one ∷ []) (filter (stays r false) xs)
        (filter_in (stays r false) b xs is (subst (λ (side : Bool). stays r side b ≡ true) later (stays_made r b not_so)))
  ]

  -- the new rights lie within none of the list
  free : (b : Authority) → IsIn b xs → is_within r b.rights ≡ true → ⊥
  free b is so = true_false (is_covered xs r) (covered_is xs r b is so) new

  covers_new : IsCovered ys r
  unfolding IsCovered
  covers_new = (one, one_in, within_self r)

  covers_old : (q : Rights) → IsCovered xs q → IsCovered ys q
  unfolding IsCovered
  covers_old q is = elim (cases_Bool (is_within (is.0).rights r)) [
    | inl so ↦ (one, one_in, within_trans q (is.0).rights r is.2 so)
    | inr not_so ↦ (is.0, old_in is.0 is.1 not_so, is.2)
  ]

  apart_new : (a b : Authority) → IsIn a ys → IsIn b ys → is_within a.rights b.rights ≡ true → a ≡ b
  apart_new a b one_is two_is within = elim (in_ys a one_is) [
    | inl old ↦ elim (in_ys b two_is) [
      | inl old' ↦ apart.apart a b old.0 old'.0 within
      | inr same ↦ absurd (true_false (is_within a.rights r)
          (subst (λ (c : Authority). is_within a.rights c.rights ≡ true) (sym same) within) old.1)
    ]
    | inr same ↦ elim (in_ys b two_is) [
      | inl old' ↦ absurd (free b old'.0 (subst (λ (c : Authority). is_within c.rights b.rights ≡ true) (sym same) within))
      | inr same' ↦ sym same ∙ same'
    ]
  ]

  before_one : (a : Authority) → IsIn a (filter (stays r true) xs) → is_before a.rights r ≡ true
  before_one a is = (stays_parts r true a (in_filter (stays r true) a xs is).1).1

  after_one : (b : Authority) → IsIn b (filter (stays r false) xs) → is_before r b.rights ≡ true
  after_one b is =
      let f = in_filter (stays r false) b xs is in
      let apart' : is_within r b.rights ≡ false = elim (cases_Bool (is_within r b.rights)) [
        | inl so ↦ absurd (free b f.0 so)
        | inr not_so ↦ not_so
      ] in
      before_other r b.rights apart' (stays_parts r false b f.1).1

  sorted_new : IsSorted ys
  sorted_new = sorted_append (filter (stays r true) xs ++ one ∷ []) (filter (stays r false) xs)
      (sorted_append (filter (stays r true) xs) (one ∷ []) (sorted_filter (stays r true) xs apart.sorted) (tt, tt)
      (λ a b is js. elim js [
        | inl same ↦ subst (λ (c : Authority). is_before a.rights c.rights ≡ true) same (before_one a is)
        | inr none ↦ absurd none
      ]))
      (sorted_filter (stays r false) xs apart.sorted)
      (λ a b is js. elim (in_either a (filter (stays r true) xs) (one ∷ []) is) [
        | inl before ↦ before_trans a.rights r b.rights (before_one a before) (after_one b js)
        | inr own ↦ elim own [
          | inl same ↦ subst (λ (c : Authority). is_before c.rights b.rights ≡ true) same (after_one b js)
          | inr none ↦ absurd none
        ]
      ])

-- What one more rights makes of the list.
pub record Adds (xs zs : List Authority) (r : Rights) (n : ℕ) : Type 0 where
  pub covers : IsCovered zs r
  pub kept : (q : Rights) → IsCovered xs q → IsCovered zs q
  pub from : (b : Authority) → IsIn b zs → IsIn b xs ⊎ ((b ≡ record { rights = r; first = n }) × ¬ IsCovered xs r)
  pub apart : AreApart zs

with_covered : (xs : List Authority) (r : Rights) (n : ℕ) → is_covered xs r ≡ true → with_rights xs r n ≡ xs
unfolding with_rights
with_covered xs r n so = ap (λ (b : Bool). if b then xs
    else filter (stays r true) xs ++ record { rights = r; first = n } ∷ [] ++ filter (stays r false) xs) so

pub adds : (xs : List Authority) (r : Rights) (n : ℕ) → AreApart xs → Adds xs (with_rights xs r n) r n
adds xs r n apart = elim (cases_Bool (is_covered xs r)) [
  | inl so ↦ subst (λ (zs : List Authority). Adds xs zs r n) (sym (with_covered xs r n so)) (record {
    covers = covered_of xs r so;
    kept = λ q is. is;
    from = λ b is. inl is;
    apart = apart;
  })
  | inr new ↦ subst (λ (zs : List Authority). Adds xs zs r n) (sym (with_is xs r n apart new)) (record {
    covers = covers_new xs r n apart new;
    kept = covers_old xs r n apart new;
    from = λ b is. elim (in_ys xs r n apart new b is) [
      | inl old ↦ inl old.0
      | inr own ↦ inr (sym own, not_covered xs r new)
    ];
    apart = record { apart = apart_new xs r n apart new; sorted = sorted_new xs r n apart new };
  })
]
