-- Two searches of a graph from the same state find the same states, one after another.
use Rattle.std.proofs.Common.{◌≡◌, ℕ, zero, suc, ◌+◌, ◌<◌, ◌≤◌, List, length, arith, ap, sym, ◌∙◌, inl, inr, ◌⊎◌, subst}
use Rattle.std.specs.Prelude.{Option, Some, None}
use Rattle.std.proofs.lemmas.Bool.{cases_lt, cases_eq}
use Rattle.std.proofs.lemmas.Option.{same_Some}
use Rattle.graph_search.specs.declared.edges.Edge.{Edge}
use Rattle.graph_search.specs.Trees.{state_at, edge_at}
use Rattle.graph_search.specs.Searches.{IsSearched, IsSearching, IsEarlier, Reaches}

earlier_cases : (i l j m : ℕ) → IsEarlier i l j m ⊎ (((i ≡ j) × (l ≡ m)) ⊎ IsEarlier j m i l)
earlier_cases i l j m = elim (cases_lt i j) [
  | inl below ↦ inl (omega arith, λ same. omega arith)
  | inr above ↦ elim (cases_lt j i) [
    | inl more ↦ inr (inr (omega arith, λ same. omega arith))
    | inr less ↦
        let same : i ≡ j = omega arith in
        elim (cases_lt l m) [
          | inl below ↦ inl (omega arith, λ _. below)
          | inr high ↦ elim (cases_lt m l) [
            | inl low ↦ inr (inr (omega arith, λ _. low))
            | inr equal ↦ inr (inl (same, omega arith))
          ]
        ]
  ]
]

earlier_trans : (i l j m k n : ℕ) → IsEarlier i l j m → IsEarlier j m k n → IsEarlier i l k n
earlier_trans i l j m k n one two =
    let first = one.0 in
    let second = two.0 in (
      omega arith,
      λ same.
          let e : i ≡ j = omega arith in
          let d : j ≡ k = omega arith in
          let a : l < m = one.1 e in
          let b : m < n = two.1 d in
          omega arith,
    )

-- a node whose edge is earlier than in another search has a state that the other doesn't find, where all states before are the same
not_found : {S : Type 0} (next : S → ℕ → Option S) (at at' : ℕ → Option S) (edge edge' : ℕ → Edge) (count count' f l f' l' i j : ℕ) (s t : S) →
    IsSearched next at edge count f l → IsSearched next at' edge' count' f' l' → 0 < i →
    ((k : ℕ) → k < i → at k ≡ at' k) → IsEarlier (edge i).from (edge i).label (edge' i).from (edge' i).label →
    at' (edge i).from ≡ Some s → next s (edge i).label ≡ Some t → at i ≡ Some t → ¬ at' j ≡ Some t
not_found {S} next at at' edge edge' count count' f l f' l' i j s t h h' some before earlier here goes own found =
    elim (cases_lt j i) [
      | inl low ↦ let same : j ≡ i = h.distinct j i t (before j low ∙ found) own in omega arith
      | inr high ↦
          let last : j < count' = h'.within j t found in
          let sooner : IsEarlier (edge i).from (edge i).label (edge' j).from (edge' j).label = elim (cases_eq i j) [
            | inl same ↦
                subst (λ (k : ℕ). IsEarlier (edge i).from (edge i).label (edge' k).from (edge' k).label) same earlier
            | inr other ↦
                earlier_trans (edge i).from (edge i).label (edge' i).from (edge' i).label (edge' j).from (edge' j).label
                earlier (h'.rising i j some (omega arith) last)
          ] in
          h'.earliest (edge i).from (edge i).label j s t here goes found (omega arith) sooner
    ]

-- so no node's edge is
no_sooner : {S : Type 0} (next : S → ℕ → Option S) (at at' : ℕ → Option S) (edge edge' : ℕ → Edge) (count count' f l f' l' i : ℕ) →
    IsSearched next at edge count f l → IsSearched next at' edge' count' f' l' → 0 < i → i < count → i < count' →
    ((j : ℕ) → j < i → at j ≡ at' j) → ¬ IsEarlier (edge i).from (edge i).label (edge' i).from (edge' i).label
no_sooner {S} next at at' edge edge' count count' f l f' l' i h h' some below below' before earlier =
    let older = h.older i some below in
    let far : (edge i).from < count = omega arith in
    let s = h.meant (edge i).from far in
    let t = h.meant i below in
    let here : at' (edge i).from ≡ Some s.0 = sym (before (edge i).from older) ∙ s.1 in
    let goes : next s.0 (edge i).label ≡ Some t.0 = h.leads i s.0 some below s.1 ∙ t.1 in
    let found = h'.closed (edge i).from (edge i).label s.0 t.0
    (earlier_trans (edge i).from (edge i).label (edge' i).from (edge' i).label f' l' earlier (h'.followed i some below')) here goes in
    not_found next at at' edge edge' count count' f l f' l' i found.0 s.0 t.0 h h' some before earlier here goes t.1 found.1

-- the states that both found
same_below : {S : Type 0} (next : S → ℕ → Option S) (at at' : ℕ → Option S) (edge edge' : ℕ → Edge) (count count' f l f' l' : ℕ) →
    IsSearched next at edge count f l → IsSearched next at' edge' count' f' l' → at 0 ≡ at' 0 →
    (n i : ℕ) → i < n → i < count → i < count' → at i ≡ at' i
same_below {S} next at at' edge edge' count count' f l f' l' h h' first zero i low below below' = absurd (omega arith)
same_below {S} next at at' edge edge' count count' f l f' l' h h' first (suc n) i low below below' = elim (cases_eq i 0) [
  | inl none ↦ ap at none ∙ (first ∙ sym (ap at' none))
  | inr other ↦
      let some : 0 < i = omega arith in
      let before : (j : ℕ) → j < i → at j ≡ at' j = λ j lower.
      same_below next at at' edge edge' count count' f l f' l' h h' first n j (omega arith) (omega arith) (omega arith) in
      let older = h.older i some below in
      let older' = h'.older i some below' in
      let far : (edge i).from < count = omega arith in
      let far' : (edge' i).from < count' = omega arith in
      let s = h.meant (edge i).from far in
      let s' = h'.meant (edge' i).from far' in
      elim (earlier_cases (edge i).from (edge i).label (edge' i).from (edge' i).label) [
        | inl sooner ↦
            absurd (no_sooner next at at' edge edge' count count' f l f' l' i h h' some below below' before sooner)
        | inr rest ↦ elim rest [
          | inl same ↦
              let parent : s.0 ≡ s'.0 = same_Some s.0 s'.0 (sym s.1 ∙ (before (edge i).from older ∙ (ap at' same.0 ∙ s'.1))) in
              sym (h.leads i s.0 some below s.1)
              ∙ (ap (λ (x : S). next x (edge i).label) parent ∙ (ap (next s'.0) same.1 ∙ h'.leads i s'.0 some below' s'.1))
          | inr later ↦
              absurd (no_sooner next at' at edge' edge count' count f' l' f l i h' h some below' below
              (λ j lower. sym (before j lower)) later)
        ]
      ]
]

-- a search that followed all edges found no fewer
no_fewer : {S : Type 0} (next : S → ℕ → Option S) (at at' : ℕ → Option S) (edge edge' : ℕ → Edge) (count count' f l : ℕ) →
    IsSearched next at edge count f l → IsSearched next at' edge' count' count' 0 → at 0 ≡ at' 0 → 0 < count' → ¬ count' < count
no_fewer {S} next at at' edge edge' count count' f l h h' first some fewer =
    let same : (i : ℕ) → i < count' → at i ≡ at' i = λ i below.
    same_below next at at' edge edge' count count' f l count' 0 h h' first (i + 1) i (omega arith) (omega arith) below in
    let older = h.older count' some fewer in
    let s = h.meant (edge count').from (let far : (edge count').from < count = omega arith in far) in
    let t = h.meant count' fewer in
    let found = h'.closed (edge count').from (edge count').label s.0 t.0 (omega arith, λ equal. omega arith)
    (sym (same (edge count').from older) ∙ s.1) (h.leads count' s.0 some fewer s.1 ∙ t.1) in
    let low : found.0 < count' = h'.within found.0 t.0 found.1 in
    let equal : found.0 ≡ count' = h.distinct found.0 count' t.0 (same found.0 low ∙ found.1) t.1 in
    omega arith

module _ {S : Type 0} (next : S → ℕ → Option S) (meaning meaning' : List ℕ → Option S) (limit limit' : ℕ)
    (nodes nodes' : List (List ℕ)) (edges edges' : List Edge) where
  -- where a search stands
  searching_of : (cut : Option Edge) → Reaches next meaning limit (length nodes) nodes edges cut →
      (f l : ℕ) × IsSearching next meaning limit nodes edges f l
  searching_of None stands = (length nodes, 0, stands)
  searching_of (Some edge) stands = (edge.from, edge.label, stands.1)

  -- a search with a limit that is no less has the states of this one, under the same numbers
  pub same_numbers : (cut cut' : Option Edge) → Reaches next meaning limit (length nodes) nodes edges cut →
      Reaches next meaning' limit' (length nodes') nodes' edges' cut' → length nodes ≤ limit' →
      state_at meaning nodes 0 ≡ state_at meaning' nodes' 0 →
      (i : ℕ) → i < length nodes → state_at meaning' nodes' i ≡ state_at meaning nodes i
  same_numbers cut None stands stands' more first i below =
      let h = searching_of cut stands in
      let known : ¬ length nodes' < length nodes = no_fewer next (state_at meaning nodes) (state_at meaning' nodes') (edge_at edges)
      (edge_at edges') (length nodes) (length nodes') h.0 h.1 h.2.searched stands'.searched first stands'.some in
      let below' : i < length nodes' = elim (cases_lt (length nodes') (length nodes)) [
        | inl fewer ↦ absurd (known fewer)
        | inr enough ↦ omega arith
      ] in
      sym (same_below next (state_at meaning nodes) (state_at meaning' nodes') (edge_at edges) (edge_at edges') (length nodes)
      (length nodes') h.0 h.1 (length nodes') 0 h.2.searched stands'.searched first (i + 1) i (omega arith) below below')
  same_numbers cut (Some edge) stands stands' more first i below =
      let h = searching_of cut stands in
      let full = stands'.2.full in
      sym (same_below next (state_at meaning nodes) (state_at meaning' nodes') (edge_at edges) (edge_at edges') (length nodes)
      (length nodes') h.0 h.1 edge.from edge.label h.2.searched stands'.1.searched first (i + 1) i (omega arith) below (omega arith))
