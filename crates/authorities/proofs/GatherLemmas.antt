-- How the greatest rights are gathered.
use Rattle.std.proofs.Common.{◌≡◌, ◌≢◌, ℕ, zero, suc, ◌+◌, ◌<◌, List, [], ◌∷◌, ◌++◌, length, take, get_or, arith, ap, sym, ◌∙◌, refl, inl, inr, ◌⊎◌, subst}
use Rattle.std.specs.Prelude.{Option, Some, IfSome, Bool, true, false, slice_get, slice_index_or, ◌≤◌}
use Rattle.std.proofs.lemmas.Bool.{cases_eq, cases_lt}
use Rattle.std.proofs.lemmas.List.{take_more}
use Rattle.std.proofs.lemmas.Option.{none-some, same_Some}
use Rattle.cap_model.specs.values.CapValue.{CapValue, tag_of}
use Rattle.cheri_model.specs.runs.Machine.{MachineState}
use Rattle.state_store.specs.Stores.{Stored}
use Rattle.explore_rights.specs.declared.rights.Rights.{Rights}
use Rattle.authorities.specs.declared.rights.Authority.{Authority}
use Rattle.authorities.specs.declared.holders.Holder.{Holder}
use Rattle.authorities.specs.Authorities.{values_of, IsHeld, AreGreatest}
use Rattle.explore_rights.specs.Rights.{rights_of}
use Rattle.explore_rights.specs.Held.{Holds}
use Rattle.graph_search.specs.Trees.{state_at}
use Rattle.graph_search.proofs.TreeLemmas.{node_means}
use Rattle.states.specs.Graphs.{GraphParts, state_in}
use Rattle.authorities.specs.Holders.{place_of, part_in, part_numbers, HasPart, HoldsNumbered, AreNumbersOf}
use Rattle.authorities.proofs.HolderLemmas.{numbers_of, has_part}
use Rattle.authorities.specs.Gathering.{IsCovered, AreApart, with_rights, IsValueCovered, AreMarked, AreMarkedParts, Gathers, AreGathered, IsGathering}
use Rattle.explore_rights.proofs.RightsLemmas.{before_self}
use Rattle.authorities.proofs.ListLemmas.{in_get, get_in, sorted_get}
use Rattle.authorities.proofs.AddLemmas.{adds}

-- the single one of a list
single : {A : Type 0} (x y : A) (k : ℕ) → slice_get (x ∷ []) k ≡ Some y → x ≡ y
single {A} x y zero is = same_Some x y is
single {A} x y (suc k) is = absurd (none-some y is)

pub value_kept : (values : List CapValue) (xs ys : List Authority) (id : ℕ) →
    ((r : Rights) → IsCovered xs r → IsCovered ys r) → IsValueCovered values xs id → IsValueCovered values ys id
unfolding IsValueCovered
value_kept values xs ys id kept covered v is tagged = kept (rights_of v) (covered v is tagged)

-- nothing new
pub gathers_same : (values : List CapValue) (id n : ℕ) (xs : List Authority) → IsValueCovered values xs id →
    AreApart xs → Gathers values (id ∷ []) n xs xs
gathers_same values id n xs covered apart = record {
  covered = λ k i is. subst (IsValueCovered values xs) (single id i k is) covered;
  kept = λ r is. is;
  from = λ a is. inl is;
  apart = apart;
}

pub gathers_untagged : (values : List CapValue) (id n : ℕ) (v : CapValue) (xs : List Authority) →
    slice_get values id ≡ Some v → tag_of v ≡ false → AreApart xs → Gathers values (id ∷ []) n xs xs
unfolding IsValueCovered
gathers_untagged values id n v xs is untagged apart =
    gathers_same values id n xs (λ w at tagged.
    let same : v ≡ w = same_Some v w (sym is ∙ at) in
    let wrong : true ≡ false = sym tagged ∙ (ap tag_of (sym same) ∙ untagged) in
    absurd (cc)) apart

pub gathers_tagged : (values : List CapValue) (id n : ℕ) (v : CapValue) (xs : List Authority) →
    slice_get values id ≡ Some v → tag_of v ≡ true → AreApart xs →
    Gathers values (id ∷ []) n xs (with_rights xs (rights_of v) n)
unfolding IsValueCovered
gathers_tagged values id n v xs is tagged apart =
    let a = adds xs (rights_of v) n apart in
    record {
      covered = λ k i here w at _.
          let own : id ≡ i = single id i k here in
          let same : v ≡ w = same_Some v w (sym is ∙ (ap (slice_get values) own ∙ at)) in
          subst (λ (u : CapValue). IsCovered (with_rights xs (rights_of v) n) (rights_of u)) same a.covers;
      kept = a.kept;
      from = λ b there. elim (a.from b there) [
        | inl old ↦ inl old
        | inr new ↦ inr (
          ap (λ (c : Authority). c.first) new.0,
          subst (λ (r : Rights). ¬ IsCovered xs r) (ap (λ (c : Authority). c.rights) (sym new.0)) new.1,
          (0, id, v, refl, is, tagged, ap (λ (c : Authority). c.rights) (sym new.0)),
        )
      ];
      apart = a.apart;
    }

pub gathers_none : (values : List CapValue) (n : ℕ) (xs : List Authority) → AreApart xs → Gathers values [] n xs xs
gathers_none values n xs apart = record {
  covered = λ k i is. absurd (none-some i is);
  kept = λ r is. is;
  from = λ a is. inl is;
  apart = apart;
}

get_either : {A : Type 0} (xs : List A) (x y : A) (k : ℕ) → slice_get (xs ++ x ∷ []) k ≡ Some y →
    (slice_get xs k ≡ Some y) ⊎ (x ≡ y)
get_either {A} [] x y k is = inr (single x y k is)
get_either {A} (z ∷ xs) x y zero is = inl is
get_either {A} (z ∷ xs) x y (suc k) is = get_either xs x y k is

get_left : {A : Type 0} (xs : List A) (x y : A) (k : ℕ) → slice_get xs k ≡ Some y → slice_get (xs ++ x ∷ []) k ≡ Some y
get_left {A} [] x y k is = absurd (none-some y is)
get_left {A} (z ∷ xs) x y zero is = is
get_left {A} (z ∷ xs) x y (suc k) is = get_left xs x y k is

get_last : {A : Type 0} (xs : List A) (x : A) → slice_get (xs ++ x ∷ []) (length xs) ≡ Some x
get_last {A} [] x = refl
get_last {A} (z ∷ xs) x = get_last xs x

pub gathers_on : (values : List CapValue) (is : List ℕ) (id n : ℕ) (xs ys zs : List Authority) →
    Gathers values is n xs ys → Gathers values (id ∷ []) n ys zs → Gathers values (is ++ id ∷ []) n xs zs
gathers_on values is id n xs ys zs one two = record {
  covered = λ k i at. elim (get_either is id i k at) [
    | inl before ↦ value_kept values ys zs i two.kept (one.covered k i before)
    | inr last ↦ subst (IsValueCovered values zs) last (two.covered 0 id refl)
  ];
  kept = λ r covered. two.kept r (one.kept r covered);
  from = λ a in_zs. elim (two.from a in_zs) [
    | inl in_ys ↦ elim (one.from a in_ys) [
      | inl in_xs ↦ inl in_xs
      | inr new ↦
          let h = new.2 in
          inr (new.0, new.1, (h.0, h.1, h.2, get_left is id h.1 h.0 h.3, h.4, h.5, h.6))
    ]
    | inr new ↦
        let h = new.2 in
        let own : id ≡ h.1 = single id h.1 h.0 h.3 in
        inr (
          new.0,
          λ covered. new.1 (one.kept a.rights covered),
          (length is, id, h.2, get_last is id, ap (slice_get values) own ∙ h.4, h.5, h.6),
        )
  ];
  apart = two.apart;
}

pub gathers_more : (values : List CapValue) (ids : List ℕ) (i n : ℕ) (xs ys zs : List Authority) → i < length ids →
    Gathers values (take i ids) n xs ys → Gathers values (get_or ids i 0 ∷ []) n ys zs →
    Gathers values (take (i + 1) ids) n xs zs
gathers_more values ids i n xs ys zs within one two =
    subst (λ (is : List ℕ). Gathers values is n xs zs) (sym (take_more ids i 0 within))
    (gathers_on values (take i ids) (get_or ids i 0) n xs ys zs one two)

-- marks
pub marked_more : (values : List CapValue) (xs ys : List Authority) (marks marks' : List Bool) (id n : ℕ) →
    AreMarked values xs marks → Gathers values (id ∷ []) n xs ys →
    ((k : ℕ) → k ≢ id → slice_index_or marks' k false ≡ slice_index_or marks k false) → AreMarked values ys marks'
unfolding AreMarked
marked_more values xs ys marks marks' id n marked gathers others i so = elim (cases_eq i id) [
  | inl same ↦ subst (IsValueCovered values ys) (sym same) (gathers.covered 0 id refl)
  | inr other ↦ value_kept values xs ys i gathers.kept (marked i (sym (others i other) ∙ so))
]

pub covered_mark : (values : List CapValue) (xs : List Authority) (marks : List Bool) (id : ℕ) →
    AreMarked values xs marks → slice_index_or marks id false ≡ true → IsValueCovered values xs id
unfolding AreMarked
covered_mark values xs marks id marked so = marked id so

pub none_marked : (values : List CapValue) (xs : List Authority) → AreMarked values xs []
unfolding AreMarked
none_marked values xs id so = absurd (cc)

pub none_seen : (who : Holder) (store : Stored) (xs : List Authority) → AreMarkedParts who store xs []
unfolding AreMarkedParts
none_seen who store xs part k id ids so is at = absurd (cc)

pub parts_more : (who : Holder) (store : Stored) (xs ys : List Authority) (seen seen' : List Bool) (part n : ℕ)
    (ids : List ℕ) → AreMarkedParts who store xs seen → part_numbers who store part ≡ Some ids →
    Gathers store.values ids n xs ys →
    ((k : ℕ) → k ≢ part → slice_index_or seen' k false ≡ slice_index_or seen k false) →
    AreMarkedParts who store ys seen'
unfolding AreMarkedParts
parts_more who store xs ys seen seen' part n ids marked own gathers others p k id is so numbers at =
    elim (cases_eq p part) [
      | inl same ↦
          let list : ids ≡ is = same_Some ids is (sym own ∙ (ap (part_numbers who store) (sym same) ∙ numbers)) in
          gathers.covered k id (ap (λ (l : List ℕ). slice_get l k) list ∙ at)
      | inr other ↦ value_kept store.values xs ys id gathers.kept
          (marked p k id is (sym (others p other) ∙ so) numbers at)
    ]

pub parts_kept : (who : Holder) (store : Stored) (xs ys : List Authority) (seen : List Bool) →
    AreMarkedParts who store xs seen → ((r : Rights) → IsCovered xs r → IsCovered ys r) → AreMarkedParts who store ys seen
unfolding AreMarkedParts
parts_kept who store xs ys seen marked kept p k id is so numbers at =
    value_kept store.values xs ys id kept (marked p k id is so numbers at)

-- a tagged value that is covered
covered_value : (values : List CapValue) (xs : List Authority) (id : ℕ) (v : CapValue) (r : Rights) →
    IsValueCovered values xs id → slice_get values id ≡ Some v → tag_of v ≡ true → rights_of v ≡ r → IsCovered xs r
unfolding IsValueCovered
covered_value values xs id v r covered is tagged same = subst (IsCovered xs) same (covered v is tagged)

-- what one more state holds
module _ (at : ℕ → Option MachineState) (values : MachineState → List CapValue) (store : List CapValue) (n : ℕ)
    (s : MachineState) (there : at n ≡ Some s) (ids : List ℕ) (numbers : AreNumbersOf store ids (values s))
    (xs : List Authority) (before : AreGathered at values n xs) where
  held_numbered : (r : Rights) → IsHeld at values n r → HoldsNumbered store ids r
  unfolding IsHeld
  held_numbered r h =
      let same : s ≡ h.0 = same_Some s h.0 (sym there ∙ h.1) in
      numbers.numbered r (subst (λ (t : MachineState). Holds (values t) r) (sym same) h.2)

  numbered_held : (r : Rights) → HoldsNumbered store ids r → IsHeld at values n r
  unfolding IsHeld
  numbered_held r h = (s, there, numbers.holding r h)

  pub gathered_state : (ys : List Authority) → Gathers store ids n xs ys → AreGathered at values (n + 1) ys
  gathered_state ys gathers = record {
    first = λ a is. elim (gathers.from a is) [
      | inl old ↦ before.first a old
      | inr new ↦
          let here : n ≡ a.first = sym new.0 in
          record {
            held = subst (λ (i : ℕ). IsHeld at values i a.rights) here (numbered_held a.rights new.2);
            earlier = λ i low held. new.1 (before.covered i a.rights
                (let first = new.0 in let less : i < n = omega arith in less) held);
          }
    ];
    covered = λ i r low held. elim (cases_eq i n) [
      | inl same ↦
          let h = held_numbered r (subst (λ (j : ℕ). IsHeld at values j r) same held) in
          covered_value store ys h.1 h.2 r (gathers.covered h.0 h.1 h.3) h.4 h.5 h.6
      | inr other ↦ gathers.kept r (before.covered i r (omega arith) held)
    ];
    apart = gathers.apart;
  }

  pub gathered_again : ((k id : ℕ) → slice_get ids k ≡ Some id → IsValueCovered store xs id) →
      AreGathered at values (n + 1) xs
  gathered_again covered = gathered_state xs (record {
    covered = covered;
    kept = λ r is. is;
    from = λ a is. inl is;
    apart = before.apart;
  })

pub apart_none : AreApart []
apart_none = record { apart = λ a b is. absurd is; sorted = tt }

pub gathered_none : (at : ℕ → Option MachineState) (values : MachineState → List CapValue) → AreGathered at values 0 []
gathered_none at values = record {
  first = λ a is. absurd is;
  covered = λ i r low. absurd (omega arith);
  apart = apart_none;
}

-- what is at two places of the list is not the same
pub one_place : (xs : List Authority) → AreApart xs → (j k : ℕ) (a b : Authority) → slice_get xs j ≡ Some a →
    slice_get xs k ≡ Some b → a ≡ b → j ≡ k
one_place xs apart j k a b is js same = elim (cases_lt j k) [
  | inl low ↦ absurd (before_self a.rights (sorted_get xs j k a a apart.sorted low is (js ∙ ap Some (sym same))))
  | inr most ↦ elim (cases_lt k j) [
    | inl low ↦ absurd (before_self a.rights (sorted_get xs k j a a apart.sorted low (js ∙ ap Some (sym same)) is))
    | inr least ↦ omega arith
  ]
]

-- all states
pub greatest_made : (at : ℕ → Option MachineState) (values : MachineState → List CapValue) (n : ℕ) (xs : List Authority) →
    ((i : ℕ) (s : MachineState) → at i ≡ Some s → i < n) → AreGathered at values n xs → AreGreatest at values xs
unfolding IsHeld IsCovered
greatest_made at values n xs within h = record {
  first = λ k a is. h.first a (get_in a xs k is);
  bounded = λ i r held.
      let c = h.covered i r (within i held.0 held.1) held in
      let k = in_get c.0 xs c.1 in
      (k.0, c.0, k.1, c.2);
  apart = λ j k a b is js lies.
      let same = h.apart.apart a b (get_in a xs j is) (get_in b xs k js) lies in
      one_place xs h.apart j k a b is js same;
  ordered = λ j k a b low is js. sorted_get xs j k a b h.apart.sorted low is js;
}

-- one more state, of whose row the holder's part was looked at, or is now
module _ (g : GraphParts) (nodes : List (List ℕ)) (who : Holder) (n : ℕ) (row : List ℕ) (here : slice_get nodes n ≡ Some row)
    (meant : (s : MachineState) × (state_at (state_in g) nodes n ≡ Some s)) (place : place_of who ≤ length g.image.harts)
    (xs : List Authority) (marks seen : List Bool)
    (before : IsGathering (state_at (state_in g) nodes) who g.store xs marks seen n) where
  row_means : state_in g row ≡ Some (meant.0)
  row_means = node_means (state_in g) nodes n row meant.0 here meant.1

  pub row_part : HasPart g who row
  row_part = has_part g who row meant.0 row_means place

  row_numbers : (ids : List ℕ) × (part_numbers who g.store (part_in who row) ≡ Some ids)
      × AreNumbersOf g.store.values ids (values_of who meant.0)
  row_numbers = numbers_of g who row meant.0 row_means row_part.place

  pub numbers_are : (ids : List ℕ) → part_numbers who g.store (part_in who row) ≡ Some ids →
      AreNumbersOf g.store.values ids (values_of who meant.0)
  numbers_are ids own =
      subst (λ (l : List ℕ). AreNumbersOf g.store.values l (values_of who meant.0))
      (same_Some row_numbers.0 ids (sym row_numbers.1 ∙ own)) row_numbers.2

  pub gathering_again : slice_index_or seen (part_in who row) false ≡ true →
      IsGathering (state_at (state_in g) nodes) who g.store xs marks seen (n + 1)
  unfolding AreMarkedParts
  gathering_again so = record {
    gathered = gathered_again (state_at (state_in g) nodes) (values_of who) g.store.values n meant.0 meant.1
        row_numbers.0 row_numbers.2 xs before.gathered
        (λ k id at. before.parts (part_in who row) k id row_numbers.0 so row_numbers.1 at);
    marked = before.marked;
    parts = before.parts;
  }

  pub gathering_more : (ids : List ℕ) (ys : List Authority) (marks' seen' : List Bool) →
      part_numbers who g.store (part_in who row) ≡ Some ids → Gathers g.store.values ids n xs ys →
      AreMarked g.store.values ys marks' →
      ((k : ℕ) → k ≢ part_in who row → slice_index_or seen' k false ≡ slice_index_or seen k false) →
      IsGathering (state_at (state_in g) nodes) who g.store ys marks' seen' (n + 1)
  gathering_more ids ys marks' seen' own gathers marked others = record {
    gathered = gathered_state (state_at (state_in g) nodes) (values_of who) g.store.values n meant.0 meant.1
        ids (numbers_are ids own) xs before.gathered ys gathers;
    marked = marked;
    parts = parts_more who g.store xs ys seen seen' (part_in who row) n ids before.parts own gathers others;
  }

-- what is so of each list is so of one more
pub each_pushed : {A : Type 0} (P : ℕ → A → Type 0) (xs : List A) (x : A) →
    ((n : ℕ) → IfSome (slice_get xs n) (P n)) → P (length xs) x → (n : ℕ) → IfSome (slice_get (xs ++ x ∷ []) n) (P n)
each_pushed {A} P [] x each last zero = last
each_pushed {A} P [] x each last (suc n) = tt
each_pushed {A} P (y ∷ xs) x each last zero = each 0
each_pushed {A} P (y ∷ xs) x each last (suc n) =
    each_pushed (λ (k : ℕ). P (suc k)) xs x (λ k. each (suc k)) last n
