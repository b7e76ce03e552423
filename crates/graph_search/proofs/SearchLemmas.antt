-- How a search goes on.
use Rattle.std.proofs.Common.{◌≡◌, ◌≢◌, ℕ, ◌+◌, ◌<◌, ◌≤◌, arith, ap, sym, ◌∙◌, inl, inr, ◌⊎◌, subst}
use Rattle.std.specs.Prelude.{Option, Some, None}
use Rattle.std.proofs.lemmas.Bool.{cases_lt, cases_eq}
use Rattle.std.proofs.lemmas.Option.{none-some, same_Some}
use Rattle.graph_search.specs.declared.edges.Edge.{Edge}
use Rattle.graph_search.specs.Trees.{IsFound}
use Rattle.graph_search.specs.Searches.{IsSearched, IsEarlier}

-- the label before this one was the last to be followed, or the label was followed before
pub earlier_cases : (i m f l : ℕ) → IsEarlier i m f (l + 1) → IsEarlier i m f l ⊎ ((i ≡ f) × (m ≡ l))
earlier_cases i m f l earlier =
    let in_order = earlier.0 in
    elim (cases_eq i f) [
      | inl same ↦
          let below : m < l + 1 = earlier.1 same in
          elim (cases_lt m l) [
            | inl before ↦ inl (in_order, λ _. before)
            | inr last ↦ inr (same, omega arith)
          ]
      | inr other ↦ inl (in_order, λ same. absurd (other same))
    ]

later : (i m f l : ℕ) → IsEarlier i m f l → IsEarlier i m f (l + 1)
later i m f l earlier = (earlier.0, λ same. let below : m < l = earlier.1 same in omega arith)

-- the edge leads nowhere, or to a state that was found
pub moved : {S : Type 0} (next : S → ℕ → Option S) (at : ℕ → Option S) (edge : ℕ → Edge) (count f l : ℕ) →
    IsSearched next at edge count f l →
    ((s t : S) → at f ≡ Some s → next s l ≡ Some t → IsFound at t) →
    IsSearched next at edge count f (l + 1)
moved {S} next at edge count f l h found = record {
  meant = h.meant;
  within = h.within;
  distinct = h.distinct;
  older = h.older;
  leads = h.leads;
  rising = h.rising;
  followed = λ i some below. later (edge i).from (edge i).label f l (h.followed i some below);
  closed = λ i m s t earlier here leads. elim (earlier_cases i m f l earlier) [
    | inl before ↦ h.closed i m s t before here leads
    | inr last ↦
        found s t (subst (λ (k : ℕ). at k ≡ Some s) last.0 here) (subst (λ (k : ℕ). next s k ≡ Some t) last.1 leads)
  ];
  earliest = h.earliest;
}

-- all edges of a node were followed
pub next_node : {S : Type 0} (next : S → ℕ → Option S) (at : ℕ → Option S) (edge : ℕ → Edge) (count f l : ℕ) →
    IsSearched next at edge count f l →
    ((s : S) (m : ℕ) → l ≤ m → next s m ≡ None) →
    IsSearched next at edge count (f + 1) 0
next_node {S} next at edge count f l h beyond = record {
  meant = h.meant;
  within = h.within;
  distinct = h.distinct;
  older = h.older;
  leads = h.leads;
  rising = h.rising;
  followed = λ i some below.
      let in_order : (edge i).from ≤ f = (h.followed i some below).0 in
      (omega arith, λ same. omega arith);
  closed = λ i m s t earlier here leads.
      let in_order : i ≤ f + 1 = earlier.0 in
      elim (cases_eq i (f + 1)) [
        | inl same ↦ let none : m < 0 = earlier.1 same in absurd (omega arith)
        | inr other ↦ elim (cases_lt m l) [
          | inl below ↦
              let order : i ≤ f = omega arith in
              h.closed i m s t (order, λ _. below) here leads
          | inr above ↦ absurd (none-some t (sym (beyond s m above) ∙ leads))
        ]
      ];
  earliest = h.earliest;
}

-- the edge leads to a state that was not found, which is the last one now
pub added : {S : Type 0} (next : S → ℕ → Option S) (at at' : ℕ → Option S) (edge edge' : ℕ → Edge)
    (count f l : ℕ) (s t : S) →
    IsSearched next at edge count f l →
    at f ≡ Some s → next s l ≡ Some t → ((i : ℕ) → at i ≢ Some t) →
    ((i : ℕ) → i ≢ count → at' i ≡ at i) → at' count ≡ Some t →
    ((i : ℕ) → i < count → edge' i ≡ edge i) → (edge' count).from ≡ f → (edge' count).label ≡ l →
    IsSearched next at' edge' (count + 1) f (l + 1)
added {S} next at at' edge edge' count f l s t h here leads absent same_at last same_edge from label =
    let below_f : f < count = h.within f s here in
    let was : (i : ℕ) → i < count → at' i ≡ at i = λ i below. same_at i (λ same. omega arith) in
    let old : (i : ℕ) (u : S) → at' i ≡ Some u → i ≢ count → at i ≡ Some u = λ i u is other. sym (same_at i other) ∙ is in
    let new : (u : S) → at' count ≡ Some u → t ≡ u = λ u is. same_Some t u (sym last ∙ is) in
    let from_of : (i : ℕ) → i < count → (edge' i).from ≡ (edge i).from = λ i below. ap (λ (e : Edge). e.from) (same_edge i below) in
    let label_of : (i : ℕ) → i < count → (edge' i).label ≡ (edge i).label = λ i below. ap (λ (e : Edge). e.label) (same_edge i below) in
    let found : (u : S) → IsFound at u → IsFound at' u = λ u is. (is.0, was is.0 (h.within is.0 u is.1) ∙ is.1) in
    record {
      meant = λ i below. elim (cases_eq i count) [
        | inl same ↦ (t, ap at' same ∙ last)
        | inr other ↦
            let lower : i < count = omega arith in
            let m = h.meant i lower in
            (m.0, was i lower ∙ m.1)
      ];
      within = λ i u is. elim (cases_eq i count) [
        | inl same ↦ omega arith
        | inr other ↦ let lower : i < count = h.within i u (old i u is other) in omega arith
      ];
      distinct = λ i j u is js. elim (cases_eq i count) [
        | inl same ↦ elim (cases_eq j count) [
          | inl equal ↦ same ∙ sym equal
          | inr other ↦
              absurd (absent j (old j u js other ∙ ap (λ (x : S). Some x) (sym (new u (sym (ap at' same) ∙ is)))))
        ]
        | inr other ↦ elim (cases_eq j count) [
          | inl equal ↦
              absurd (absent i (old i u is other ∙ ap (λ (x : S). Some x) (sym (new u (sym (ap at' equal) ∙ js)))))
          | inr apart ↦ h.distinct i j u (old i u is other) (old j u js apart)
        ]
      ];
      older = λ i some below. elim (cases_eq i count) [
        | inl same ↦ let e = ap (λ (k : ℕ). (edge' k).from) same in omega arith
        | inr other ↦
            let lower : i < count = omega arith in
            let e = from_of i lower in
            let o = h.older i some lower in
            omega arith
      ];
      leads = λ i u some below is. elim (cases_eq i count) [
        | inl same ↦
            let e : (edge' i).from ≡ f = ap (λ (k : ℕ). (edge' k).from) same ∙ from in
            let d : (edge' i).label ≡ l = ap (λ (k : ℕ). (edge' k).label) same ∙ label in
            let u_is : s ≡ u = same_Some s u (sym here ∙ (sym (was f below_f) ∙ (sym (ap at' e) ∙ is))) in
            ap (λ (x : S). next x (edge' i).label) (sym u_is) ∙ (ap (next s) d ∙ (leads ∙ (sym last ∙ sym (ap at' same))))
        | inr other ↦
            let lower : i < count = omega arith in
            let o = h.older i some lower in
            let far : (edge i).from < count = omega arith in
            let is_old : at (edge i).from ≡ Some u = sym (was (edge i).from far) ∙ (sym (ap at' (from_of i lower)) ∙ is) in
            ap (next u) (label_of i lower) ∙ (h.leads i u some lower is_old ∙ sym (was i lower))
      ];
      rising = λ i j some before below.
          let lower : i < count = omega arith in
          let ef = from_of i lower in
          let el = label_of i lower in
          elim (cases_eq j count) [
            | inl same ↦
                let jf : (edge' j).from ≡ f = ap (λ (k : ℕ). (edge' k).from) same ∙ from in
                let jl : (edge' j).label ≡ l = ap (λ (k : ℕ). (edge' k).label) same ∙ label in
                let b = h.followed i some lower in
                let b0 = b.0 in
                (omega arith, λ e. let x : (edge i).from ≡ f = sym ef ∙ (e ∙ jf) in let b1 = b.1 x in omega arith)
            | inr other ↦
                let high : j < count = omega arith in
                let jf = from_of j high in
                let jl = label_of j high in
                let b = h.rising i j some before high in
                let b0 = b.0 in
                (omega arith, λ e. let b1 = b.1 (sym ef ∙ (e ∙ jf)) in omega arith)
          ];
      followed = λ i some below. elim (cases_eq i count) [
        | inl same ↦
            let e : (edge' i).from ≡ f = ap (λ (k : ℕ). (edge' k).from) same ∙ from in
            let d : (edge' i).label ≡ l = ap (λ (k : ℕ). (edge' k).label) same ∙ label in
            (omega arith, λ _. omega arith)
        | inr other ↦
            let lower : i < count = omega arith in
            let e = from_of i lower in
            let d = label_of i lower in
            let b = h.followed i some lower in
            let b0 = b.0 in
            (omega arith, λ x. let b1 = b.1 (sym e ∙ x) in omega arith)
      ];
      closed = λ i m u v earlier is goes.
          let in_order = earlier.0 in
          let other : i ≢ count = λ same. omega arith in
          let is_old = old i u is other in
          elim (earlier_cases i m f l earlier) [
            | inl before ↦ found v (h.closed i m u v before is_old goes)
            | inr same ↦
                let u_is : s ≡ u = same_Some s u (sym here ∙ (sym (ap at same.0) ∙ is_old)) in
                let v_is : t ≡ v = same_Some t v (sym leads ∙ (ap (λ (x : S). next x l) u_is
                ∙ (sym (ap (next u) same.1) ∙ goes))) in
                (count, last ∙ ap (λ (x : S). Some x) v_is)
          ];
      earliest = λ i m j u v is goes js some earlier. elim (cases_eq j count) [
        | inl same ↦
            let e : (edge' j).from ≡ f = ap (λ (k : ℕ). (edge' k).from) same ∙ from in
            let d : (edge' j).label ≡ l = ap (λ (k : ℕ). (edge' k).label) same ∙ label in
            let before : IsEarlier i m f l = subst (λ (k : ℕ). IsEarlier i m k l) e
            (subst (λ (k : ℕ). IsEarlier i m (edge' j).from k) d earlier) in
            let in_order = before.0 in
            let other : i ≢ count = λ equal. omega arith in
            let v_is : t ≡ v = new v (sym (ap at' same) ∙ js) in
            let f_is = h.closed i m u v before (old i u is other) goes in
            absent f_is.0 (f_is.1 ∙ ap (λ (x : S). Some x) (sym v_is))
        | inr apart ↦
            let js_old = old j v js apart in
            let low : j < count = h.within j v js_old in
            let e = from_of j low in
            let d = label_of j low in
            let before : IsEarlier i m (edge j).from (edge j).label = subst (λ (k : ℕ). IsEarlier i m k (edge j).label) e
            (subst (λ (k : ℕ). IsEarlier i m (edge' j).from k) d earlier) in
            let in_order = before.0 in
            let o = h.older j some low in
            let other : i ≢ count = λ equal. omega arith in
            h.earliest i m j u v (old i u is other) goes js_old some before
      ];
    }
