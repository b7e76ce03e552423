-- The walks along the edges by which nodes were found are the least ones.
use Rattle.std.proofs.Common.{◌≡◌, ◌≢◌, ℕ, zero, suc, ◌+◌, ◌<◌, ◌≤◌, List, [], ◌∷◌, ◌++◌, arith, ap, sym, ◌∙◌, refl, inl, inr, ◌⊎◌, subst}
use Rattle.std.specs.Prelude.{Option, Some, Bool, true, false, option_and_then, reverse}
use Rattle.std.proofs.lemmas.Bool.{cases_lt, cases_eq}
use Rattle.std.proofs.lemmas.List.{reverse-append, reverse-reverse}
use Rattle.std.proofs.lemmas.Option.{option_and_then_some}
use Rattle.graph_search.specs.declared.edges.Edge.{Edge}
use Rattle.graph_search.specs.Walks.{after, IsWalk, IsReachable, IsWitness, IsBefore}
use Rattle.graph_search.specs.Trees.{IsFound, IsTrace}
use Rattle.graph_search.specs.Searches.{IsSearched, IsEarlier, IsExplored, IsCut}
use Rattle.graph_search.proofs.OrderLemmas.{before_more, before_last, nothing_before, before_trans, before_irrefl, before_cases, after_more}

reverse_more : (l : ℕ) (ls : List ℕ) → reverse (l ∷ ls) ≡ reverse ls ++ l ∷ []
reverse_more l ls = reverse-append (l ∷ []) ls

-- the walk is this one, or comes before it
abbrev IsAtMost : List ℕ → List ℕ → Type 0
IsAtMost ls ms = (ls ≡ ms) ⊎ IsBefore ls ms

at_most_more : (ls ms : List ℕ) (l : ℕ) → IsAtMost ls ms → IsAtMost (ls ++ l ∷ []) (ms ++ l ∷ [])
at_most_more ls ms l at_most = elim at_most [
  | inl same ↦ inl (ap (λ (ns : List ℕ). ns ++ l ∷ []) same)
  | inr before ↦ inr (before_more ls ms l l before)
]

before_at_most : (ls ms ns : List ℕ) → IsBefore ls ms → IsAtMost ms ns → IsBefore ls ns
before_at_most ls ms ns before at_most = elim at_most [
  | inl same ↦ subst (λ (xs : List ℕ). IsBefore ls xs) same before
  | inr more ↦ before_trans ls ms ns before more
]

not_after : (ls ms : List ℕ) → IsAtMost ls ms → ¬ IsBefore ms ls
not_after ls ms at_most before = before_irrefl ms (before_at_most ms ls ms before at_most)

earlier_or_not : (i l j m : ℕ) → IsEarlier i l j m ⊎ (((i ≡ j) × (l ≡ m)) ⊎ IsEarlier j m i l)
earlier_or_not i l j m = elim (cases_lt i j) [
  | inl below ↦ inl (omega arith, λ same. omega arith)
  | inr above ↦ elim (cases_lt j i) [
    | inl more ↦ inr (inr (omega arith, λ same. omega arith))
    | inr less ↦
        let same : i ≡ j = omega arith in
        elim (cases_lt l m) [
          | inl below ↦ inl (omega arith, λ _. below)
          | inr high ↦ elim (cases_lt m l) [
            | inl low ↦ inr (inr (omega arith, λ _. low))
            | inr equal ↦ inr (inl (same, omega arith))
          ]
        ]
  ]
]

earlier_trans : (i l j m k n : ℕ) → IsEarlier i l j m → IsEarlier j m k n → IsEarlier i l k n
earlier_trans i l j m k n one two =
    let first = one.0 in
    let second = two.0 in (
      omega arith,
      λ same.
          let e : i ≡ j = omega arith in
          let d : j ≡ k = omega arith in
          let a : l < m = one.1 e in
          let b : m < n = two.1 d in
          omega arith,
    )

trace_unique : (edge : ℕ → Edge) (i : ℕ) (ls ms : List ℕ) → IsTrace edge i ls → IsTrace edge i ms → ls ≡ ms
trace_unique edge i [] [] one two = refl
trace_unique edge i [] (m ∷ ms) one two = let some = two.0 in absurd (omega arith)
trace_unique edge i (l ∷ ls) [] one two = let some = one.0 in absurd (omega arith)
trace_unique edge i (l ∷ ls) (m ∷ ms) one two =
    ap (λ (x : ℕ). x ∷ ls) (sym one.1 ∙ two.1)
    ∙ ap (λ (xs : List ℕ). m ∷ xs) (trace_unique edge (edge i).from ls ms one.2 two.2)

module _ {S : Type 0} (next : S → ℕ → Option S) (at : ℕ → Option S) (edge : ℕ → Edge) (count f l : ℕ)
    (h : IsSearched next at edge count f l) (start : S) (first : at 0 ≡ Some start) where
  trace_below : (n i : ℕ) → i < n → i < count → (ls : List ℕ) × IsTrace edge i ls
  trace_below zero i low below = absurd (omega arith)
  trace_below (suc n) i low below = elim (cases_eq i 0) [
    | inl none ↦ ([], none)
    | inr some ↦
        let more : 0 < i = omega arith in
        let older = h.older i more below in
        let rest = trace_below n (edge i).from (omega arith) (omega arith) in
        ((edge i).label ∷ rest.0, (more, refl, rest.1))
  ]

  pub trace_of : (i : ℕ) → i < count → (ls : List ℕ) × IsTrace edge i ls
  trace_of i below = trace_below (i + 1) i (omega arith) below

  trace_walk : (i : ℕ) (ls : List ℕ) → i < count → IsTrace edge i ls → after next start (reverse ls) ≡ at i
  trace_walk i [] below trace = sym first ∙ ap at (sym trace)
  trace_walk i (m ∷ ls) below trace =
      let some = trace.0 in
      let older = h.older i some below in
      let far : (edge i).from < count = omega arith in
      let rest = trace_walk (edge i).from ls far trace.2 in
      let s = h.meant (edge i).from far in
      ap (after next start) (reverse_more m ls)
      ∙ (after_more next start (reverse ls) m
      ∙ (ap (λ (o : Option S). option_and_then (λ t. next t m) o) (rest ∙ s.1)
      ∙ (ap (next s.0) (sym trace.1) ∙ h.leads i s.0 some below s.1)))

  trace_before : (i j : ℕ) (ls ms : List ℕ) → i < j → j < count → IsTrace edge i ls → IsTrace edge j ms →
      IsBefore (reverse ls) (reverse ms)
  trace_before i j ls [] order below one two = absurd (omega arith)
  trace_before i j [] (m ∷ ms) order below one two =
      subst (λ (ns : List ℕ). IsBefore [] ns) (sym (reverse_more m ms)) (nothing_before (reverse ms) m)
  trace_before i j (x ∷ ls) (m ∷ ms) order below one two =
      let some = one.0 in
      let rising = h.rising i j some order below in
      let older = h.older j two.0 below in
      let goal : IsBefore (reverse ls ++ x ∷ []) (reverse ms ++ m ∷ []) = elim (cases_eq (edge i).from (edge j).from) [
        | inl same ↦
            let less : (edge i).label < (edge j).label = rising.1 same in
            let labels : x < m = subst (λ (k : ℕ). k < m) one.1 (subst (λ (k : ℕ). (edge i).label < k) two.1 less) in
            let equal : ls ≡ ms =
            trace_unique edge (edge j).from ls ms (subst (λ (k : ℕ). IsTrace edge k ls) same one.2) two.2 in
            subst (λ (ns : List ℕ). IsBefore (reverse ls ++ x ∷ []) (reverse ns ++ m ∷ [])) equal
            (before_last (reverse ls) x m labels)
        | inr apart ↦
            let low = rising.0 in
            let order_from : (edge i).from < (edge j).from = omega arith in
            before_more (reverse ls) (reverse ms) x m
            (trace_before (edge i).from (edge j).from ls ms order_from (omega arith) one.2 two.2)
      ] in
      subst (λ (ns : List ℕ). IsBefore ns (reverse (m ∷ ms))) (sym (reverse_more x ls))
      (subst (λ (ns : List ℕ). IsBefore (reverse ls ++ x ∷ []) ns) (sym (reverse_more m ms)) goal)

  -- node k's edge with label x is earlier than node i's with label m
  edge_before : (i k x m : ℕ) (ps xs ls : List ℕ) → i < count → IsTrace edge i ps → IsTrace edge k xs →
      IsAtMost (reverse ps) ls → IsEarlier k x i m → IsBefore (reverse xs ++ x ∷ []) (ls ++ m ∷ [])
  edge_before i k x m ps xs ls below one two at_most earlier = elim (cases_eq k i) [
    | inl same ↦
        let less : x < m = earlier.1 same in
        let equal : ps ≡ xs = trace_unique edge i ps xs one (subst (λ (n : ℕ). IsTrace edge n xs) same two) in
        subst (λ (ns : List ℕ). IsBefore (reverse ns ++ x ∷ []) (ls ++ m ∷ [])) equal
        (elim at_most [
          | inl here ↦ subst (λ (ns : List ℕ). IsBefore (reverse ps ++ x ∷ []) (ns ++ m ∷ [])) here
              (before_last (reverse ps) x m less)
          | inr before ↦ before_more (reverse ps) ls x m before
        ])
    | inr apart ↦
        let low = earlier.0 in
        let order : k < i = omega arith in
        before_more (reverse xs) ls x m
        (before_at_most (reverse xs) (reverse ps) ls (trace_before k i xs ps order below two one) at_most)
  ]

  -- the walk comes after the walks to all nodes
  abbrev IsPast : List ℕ → Type 0
  IsPast ls = (j : ℕ) (ms : List ℕ) → j < count → IsTrace edge j ms → IsBefore (reverse ms) ls

  -- the walk leads to a node, and not before its own; or it comes after all of them
  abbrev Comes : S → List ℕ → Type 0
  Comes t ls = ((j : ℕ) × (ms : List ℕ) × (at j ≡ Some t) × IsTrace edge j ms × IsAtMost (reverse ms) ls) ⊎ IsPast ls

  past_more : (ls : List ℕ) (m : ℕ) → IsPast ls → IsPast (ls ++ m ∷ [])
  past_more ls m past j [] below trace = nothing_before ls m
  past_more ls m past j (x ∷ xs) below trace =
      let older = h.older j trace.0 below in
      subst (λ (ns : List ℕ). IsBefore ns (ls ++ m ∷ [])) (sym (reverse_more x xs))
      (before_more (reverse xs) ls x m (past (edge j).from xs (omega arith) trace.2))

  -- an edge that was not followed
  past_edge : (i m : ℕ) (ps ls : List ℕ) → i < count → IsTrace edge i ps → IsAtMost (reverse ps) ls →
      ((k x : ℕ) → IsEarlier k x f l → IsEarlier k x i m) → IsPast (ls ++ m ∷ [])
  past_edge i m ps ls below trace at_most later j [] low none = nothing_before ls m
  past_edge i m ps ls below trace at_most later j (x ∷ xs) low some =
      let followed = h.followed j some.0 low in
      let earlier = later (edge j).from (edge j).label followed in
      let here : IsEarlier (edge j).from x i m = subst (λ (k : ℕ). IsEarlier (edge j).from k i m) some.1 earlier in
      subst (λ (ns : List ℕ). IsBefore ns (ls ++ m ∷ [])) (sym (reverse_more x xs))
      (edge_before i (edge j).from x m ps xs ls below trace some.2 at_most here)

  -- an edge that was followed
  found_edge : (i m j : ℕ) (s t : S) (ps ls qs : List ℕ) → at i ≡ Some s → next s m ≡ Some t → at j ≡ Some t →
      IsTrace edge i ps → IsAtMost (reverse ps) ls → IsTrace edge j qs → IsAtMost (reverse qs) (ls ++ m ∷ [])
  found_edge i m j s t ps ls [] is goes js trace at_most none = inr (nothing_before ls m)
  found_edge i m j s t ps ls (q ∷ qs) is goes js trace at_most some =
      let below = h.within i s is in
      let not_earlier = h.earliest i m j s t is goes js some.0 in
      subst (λ (ns : List ℕ). IsAtMost ns (ls ++ m ∷ [])) (sym (reverse_more q qs))
      (elim (earlier_or_not i m (edge j).from (edge j).label) [
        | inl earlier ↦ absurd (not_earlier earlier)
        | inr rest ↦ elim rest [
          | inl same ↦
              let labels : m ≡ q = same.1 ∙ some.1 in
              let equal : ps ≡ qs =
              trace_unique edge i ps qs trace (subst (λ (k : ℕ). IsTrace edge k qs) (sym same.0) some.2) in
              subst (λ (k : ℕ). IsAtMost (reverse qs ++ k ∷ []) (ls ++ m ∷ [])) labels
              (at_most_more (reverse qs) ls m (subst (λ (ns : List ℕ). IsAtMost (reverse ns) ls) equal at_most))
          | inr earlier ↦
              let here : IsEarlier (edge j).from q i m =
              subst (λ (k : ℕ). IsEarlier (edge j).from k i m) some.1 earlier in
              inr (edge_before i (edge j).from q m ps qs ls below trace some.2 at_most here)
        ]
      ])

  comes_more : (s t : S) (ls : List ℕ) (m : ℕ) → Comes s ls → next s m ≡ Some t → Comes t (ls ++ m ∷ [])
  comes_more s t ls m comes goes = elim comes [
    | inl here ↦
        let below = h.within here.0 s here.2 in
        elim (earlier_or_not here.0 m f l) [
          | inl earlier ↦
              let found = h.closed here.0 m s t earlier here.2 goes in
              let trace = trace_of found.0 (h.within found.0 t found.1) in
              inl (
                found.0,
                trace.0,
                found.1,
                trace.1,
                found_edge here.0 m found.0 s t here.1 ls trace.0 here.2 goes found.1 here.3 here.4 trace.1,
              )
          | inr rest ↦ elim rest [
            | inl same ↦ inr (past_edge here.0 m here.1 ls below here.3 here.4
                (λ k x before. subst (λ (n : ℕ). IsEarlier k x n m) (sym same.0)
                (subst (λ (n : ℕ). IsEarlier k x f n) (sym same.1) before)))
            | inr earlier ↦ inr (past_edge here.0 m here.1 ls below here.3 here.4
                (λ k x before. earlier_trans k x f l here.0 m before earlier))
          ]
        ]
    | inr past ↦ inr (past_more ls m past)
  ]

  bound_reverse : (rs : List ℕ) (t : S) → after next start (reverse rs) ≡ Some t → Comes t (reverse rs)
  bound_reverse [] t walk = inl (0, [], first ∙ walk, refl, inl refl)
  bound_reverse (m ∷ rs) t walk =
      let e : option_and_then (λ (s : S). next s m) (after next start (reverse rs)) ≡ Some t =
      sym (after_more next start (reverse rs) m) ∙ (sym (ap (after next start) (reverse_more m rs)) ∙ walk) in
      subst (λ (ns : List ℕ). Comes t ns) (sym (reverse_more m rs))
      (option_and_then_some (λ (s : S). next s m) (after next start (reverse rs)) t e
      (λ s is goes. comes_more s t (reverse rs) m (bound_reverse rs s is) goes))

  bound : (ls : List ℕ) (t : S) → after next start ls ≡ Some t → Comes t ls
  bound ls t walk =
      let back = reverse-reverse ls in
      subst (λ (ns : List ℕ). Comes t ns) back
      (bound_reverse (reverse ls) t (ap (after next start) back ∙ walk))

  witnessed : (i : ℕ) (s : S) (ls : List ℕ) → at i ≡ Some s → IsTrace edge i ls → IsWitness next start s (reverse ls)
  witnessed i s ls is trace =
      let below = h.within i s is in (
        trace_walk i ls below trace ∙ is,
        λ ms walk before. elim (bound ms s walk) [
          | inl here ↦
              let same : i ≡ here.0 = h.distinct i here.0 s is here.2 in
              let equal : ls ≡ here.1 =
              trace_unique edge here.0 ls here.1 (subst (λ (k : ℕ). IsTrace edge k ls) same trace) here.3 in
              not_after (reverse ls) ms
              (subst (λ (ns : List ℕ). IsAtMost (reverse ns) ms) (sym equal) here.4) before
          | inr past ↦ not_after (reverse ls) ms (inr (past i ls below trace)) before
        ],
      )

  witness_is : (i : ℕ) (s : S) (ls qs : List ℕ) → at i ≡ Some s → IsTrace edge i qs → IsWitness next start s ls →
      reverse qs ≡ ls
  witness_is i s ls qs is trace least =
      let own = witnessed i s qs is trace in
      elim (before_cases (reverse qs) ls) [
        | inl before ↦ absurd (least.1 (reverse qs) own.0 before)
        | inr rest ↦ elim rest [
          | inl same ↦ same
          | inr before ↦ absurd (own.1 ls least.0 before)
        ]
      ]

  ordered : (i j : ℕ) (s t : S) (ls ms : List ℕ) → i < j → at i ≡ Some s → at j ≡ Some t →
      IsWitness next start s ls → IsWitness next start t ms → IsBefore ls ms
  ordered i j s t ls ms order is js one two =
      let below = h.within j t js in
      let left = trace_of i (omega arith) in
      let right = trace_of j below in
      subst (λ (ns : List ℕ). IsBefore ns ms) (witness_is i s ls left.0 is left.1 one)
      (subst (λ (ns : List ℕ). IsBefore (reverse left.0) ns) (witness_is j t ms right.0 js right.1 two)
      (trace_before i j left.0 right.0 order below left.1 right.1))

  before_others : (i : ℕ) (s t : S) (ls ms : List ℕ) → at i ≡ Some s → IsWitness next start s ls →
      IsWalk next start ms t → ((j : ℕ) → at j ≢ Some t) → IsBefore ls ms
  before_others i s t ls ms is least walk absent =
      let below = h.within i s is in
      let trace = trace_of i below in
      elim (bound ms t walk) [
        | inl here ↦ absurd (absent here.0 here.2)
        | inr past ↦ subst (λ (ns : List ℕ). IsBefore ns ms) (witness_is i s ls trace.0 is trace.1 least)
            (past i trace.0 below trace.1)
      ]

  sound : (s : S) → IsFound at s → IsReachable next start s
  sound s found =
      let below = h.within found.0 s found.1 in
      let trace = trace_of found.0 below in
      (reverse trace.0, trace_walk found.0 trace.0 below trace.1 ∙ found.1)

  pub explored_of : (limit : ℕ) (finished : Bool) → count ≤ limit →
      (finished ≡ true → (s : S) → IsReachable next start s → IsFound at s) →
      (finished ≡ false → IsCut next at count limit) →
      IsExplored next start limit at edge count finished
  explored_of limit finished few all cut = record {
    first = first;
    within = few;
    meant = h.meant;
    distinct = h.distinct;
    sound = sound;
    witnessed = witnessed;
    complete = all;
    full = λ unfinished. (cut unfinished).full;
    more = λ unfinished.
        let m = (cut unfinished).more in
        let walk = sound m.2 (m.0, m.4) in (
          m.3,
          (
            walk.0 ++ m.1 ∷ [],
            after_more next start walk.0 m.1
                ∙ (ap (λ (o : Option S). option_and_then (λ t. next t m.1) o) walk.1 ∙ m.5),
          ),
          m.6,
        );
    ordered = ordered;
    before_others = before_others;
  }

-- every walk from a state that was found stays among those that were, where all edges were followed
reached_reverse : {S : Type 0} (next : S → ℕ → Option S) (at : ℕ → Option S) (edge : ℕ → Edge) (count : ℕ) →
    IsSearched next at edge count count 0 → (start : S) → at 0 ≡ Some start →
    (rs : List ℕ) (t : S) → after next start (reverse rs) ≡ Some t → IsFound at t
reached_reverse {S} next at edge count h start first [] t walk = (0, first ∙ walk)
reached_reverse {S} next at edge count h start first (m ∷ rs) t walk =
    let e : option_and_then (λ (s : S). next s m) (after next start (reverse rs)) ≡ Some t =
    sym (after_more next start (reverse rs) m) ∙ (sym (ap (after next start) (reverse_more m rs)) ∙ walk) in
    option_and_then_some (λ (s : S). next s m) (after next start (reverse rs)) t e
    (λ s is goes.
    let found = reached_reverse next at edge count h start first rs s is in
    let below = h.within found.0 s found.1 in
    h.closed found.0 m s t (omega arith, λ same. omega arith) found.1 goes)

pub finished : {S : Type 0} (next : S → ℕ → Option S) (at : ℕ → Option S) (edge : ℕ → Edge) (count limit : ℕ) →
    IsSearched next at edge count count 0 → (start : S) → at 0 ≡ Some start → count ≤ limit →
    IsExplored next start limit at edge count true
finished {S} next at edge count limit h start first few =
    explored_of next at edge count count 0 h start first limit true few
    (λ _ s reachable.
    let back = reverse-reverse reachable.0 in
    reached_reverse next at edge count h start first (reverse reachable.0) s
    (ap (after next start) back ∙ reachable.1))
    (λ same. absurd (cc))

pub stopped : {S : Type 0} (next : S → ℕ → Option S) (at : ℕ → Option S) (edge : ℕ → Edge) (count limit f l : ℕ) →
    IsSearched next at edge count f l → (start : S) → at 0 ≡ Some start → count ≤ limit →
    IsCut next at count limit → IsExplored next start limit at edge count false
stopped {S} next at edge count limit f l h start first few cut =
    explored_of next at edge count f l h start first limit false few (λ same. absurd (cc)) (λ _. cut)
