-- What is so of the lists of a search.
use Rattle.std.proofs.Common.{◌≡◌, ◌≢◌, ℕ, zero, suc, ◌+◌, ◌-◌, ◌*◌, ◌<◌, ◌≤◌, List, [], ◌∷◌, ◌++◌, length, take, drop, arith, ap, sym, ◌∙◌, refl, inl, inr, subst, length-append}
use Rattle.std.specs.Prelude.{Option, Some, None, IsSome, IfSome, is_some, is_none, Bool, true, false, option_and_then, slice_get, slice_index_or}
use Rattle.std.proofs.Math.Path.{fun_ext}
use Rattle.std.proofs.Math.Seq.{get_or-append_seam, take-append_seam}
use Rattle.std.proofs.lemmas.List.{get_or_append_left, length-take-le, length-drop, take-append-drop, append_assoc}
use borrow.Rule.Slice.PartMut.{put_mid, post_of}
use Rattle.std.proofs.lemmas.Bool.{cases_lt}
use Rattle.std.proofs.lemmas.Option.{none-some, same_Some, slice_get_within, option_and_then_some}
use Rattle.interner.specs.Rows.{row_at}
use Rattle.interner.proofs.RowLemmas.{row_at-append, row_at-last, row_ends, row_begins}
use Rattle.graph_search.specs.declared.edges.Edge.{Edge}
use Rattle.graph_search.specs.Graphs.{LeadsTo}
use Rattle.graph_search.specs.Trees.{state_at, edge_at, IsFound, Adds, Fits, IsOrderly}
use Rattle.graph_search.specs.Searches.{IsSearched, IsSearching, IsExplored, GoesOn, IsCut, Reaches, AreSteps, Follows, place_of}
use Rattle.graph_search.proofs.SearchLemmas.{moved, added, next_node}
use Rattle.graph_search.proofs.WitnessLemmas.{finished, stopped}

pub some_of : {A : Type 0} (o : Option A) → IsSome o → (x : A) × (o ≡ Some x)
some_of None some = absurd (cc)
some_of (Some x) some = (x, refl)

pub slice_get-more : {A : Type 0} (xs : List A) (x : A) (i : ℕ) → i ≢ length xs →
    slice_get (xs ++ x ∷ []) i ≡ slice_get xs i
slice_get-more [] x zero other = absurd (other refl)
slice_get-more [] x (suc i) other = refl
slice_get-more (y ∷ ys) x zero other = refl
slice_get-more (y ∷ ys) x (suc i) other = slice_get-more ys x i (λ same. other (ap suc same))

slice_get-last : {A : Type 0} (xs : List A) (x : A) → slice_get (xs ++ x ∷ []) (length xs) ≡ Some x
slice_get-last [] x = refl
slice_get-last (y ∷ ys) x = slice_get-last ys x

-- the row that means a node's state
pub row_of : {S : Type 0} (meaning : List ℕ → Option S) (nodes : List (List ℕ)) (i : ℕ) (s : S) →
    state_at meaning nodes i ≡ Some s → (row : List ℕ) × (slice_get nodes i ≡ Some row) × (meaning row ≡ Some s)
row_of {S} meaning nodes i s is =
    option_and_then_some meaning (slice_get nodes i) s is (λ row here means. (row, here, means))

-- meanings that are kept keep the states of all nodes
pub same_states : {S : Type 0} (meaning meaning' : List ℕ → Option S) (nodes : List (List ℕ)) →
    ((n : List ℕ) (s : S) → meaning n ≡ Some s → meaning' n ≡ Some s) →
    ((i : ℕ) → i < length nodes → (s : S) × (state_at meaning nodes i ≡ Some s)) →
    state_at meaning nodes ≡ state_at meaning' nodes
same_states {S} meaning meaning' nodes kept meant = fun_ext (λ i.
    let split : (o : Option (List ℕ)) → slice_get nodes i ≡ o →
    option_and_then meaning o ≡ option_and_then meaning' o = λ o. elim o as (λ (o : Option (List ℕ)).
    slice_get nodes i ≡ o → option_and_then meaning o ≡ option_and_then meaning' o) [
      | None ↦ λ _. refl
      | Some row ↦ λ here.
          let s = meant i (slice_get_within nodes i row here) in
          let means : meaning row ≡ Some s.0 =
          sym (ap (λ (o : Option (List ℕ)). option_and_then meaning o) here) ∙ s.1 in
          means ∙ sym (kept row s.0 means)
    ] in
    split (slice_get nodes i) refl)

module _ {S : Type 0} (next next' : S → ℕ → Option S) (meaning meaning' : List ℕ → Option S) (limit : ℕ)
    (nodes : List (List ℕ)) (edges : List Edge) (f l : ℕ)
    (h : IsSearching next meaning limit nodes edges f l)
    (same : next' ≡ next) (kept : (n : List ℕ) (s : S) → meaning n ≡ Some s → meaning' n ≡ Some s) where
  -- a step of the graph changes nothing of the search
  pub same_search : IsSearching next' meaning' limit nodes edges f l
  same_search =
      let states = same_states meaning meaning' nodes kept h.searched.meant in
      record {
        some = h.some;
        within = h.within;
        even = h.even;
        searched = subst (λ (n : S → ℕ → Option S). IsSearched n (state_at meaning' nodes) (edge_at edges)
            (length nodes) f l) (sym same)
            (subst (λ (at : ℕ → Option S). IsSearched next at (edge_at edges) (length nodes) f l) states h.searched);
      }

  pub same_first : state_at meaning' nodes 0 ≡ state_at meaning nodes 0
  same_first = sym (ap (λ (at : ℕ → Option S). at 0) (same_states meaning meaning' nodes kept h.searched.meant))

-- the edge leads nowhere, or to a state that was found
pub searching_moved : {S : Type 0} (next : S → ℕ → Option S) (meaning : List ℕ → Option S) (limit : ℕ)
    (nodes : List (List ℕ)) (edges : List Edge) (f l : ℕ) → IsSearching next meaning limit nodes edges f l →
    ((s t : S) → state_at meaning nodes f ≡ Some s → next s l ≡ Some t → IsFound (state_at meaning nodes) t) →
    IsSearching next meaning limit nodes edges f (l + 1)
searching_moved {S} next meaning limit nodes edges f l h found = record {
  some = h.some;
  within = h.within;
  even = h.even;
  searched = moved next (state_at meaning nodes) (edge_at edges) (length nodes) f l h.searched found;
}

pub searching_next : {S : Type 0} (next : S → ℕ → Option S) (meaning : List ℕ → Option S) (limit : ℕ)
    (nodes : List (List ℕ)) (edges : List Edge) (f l : ℕ) → IsSearching next meaning limit nodes edges f l →
    ((s : S) (m : ℕ) → l ≤ m → next s m ≡ None) → IsSearching next meaning limit nodes edges (f + 1) 0
searching_next {S} next meaning limit nodes edges f l h beyond = record {
  some = h.some;
  within = h.within;
  even = h.even;
  searched = next_node next (state_at meaning nodes) (edge_at edges) (length nodes) f l h.searched beyond;
}

-- no node means the state of a row that is none of them
pub absent_state : {S : Type 0} (meaning : List ℕ → Option S) (nodes : List (List ℕ)) (row : List ℕ) (t : S) →
    ((m n : List ℕ) (s : S) → meaning m ≡ Some s → meaning n ≡ Some s → m ≡ n) →
    meaning row ≡ Some t → ((i : ℕ) → slice_get nodes i ≢ Some row) →
    (i : ℕ) → state_at meaning nodes i ≢ Some t
absent_state {S} meaning nodes row t one means absent i is =
    let r = row_of meaning nodes i t is in
    absent i (r.1 ∙ ap (λ (n : List ℕ). Some n) (one r.0 row t r.2 means))

-- a row that is a node
pub found_state : {S : Type 0} (meaning : List ℕ → Option S) (nodes : List (List ℕ)) (row : List ℕ) (t : S) (i : ℕ) →
    meaning row ≡ Some t → slice_get nodes i ≡ Some row → IsFound (state_at meaning nodes) t
found_state {S} meaning nodes row t i means here =
    (i, ap (λ (o : Option (List ℕ)). option_and_then meaning o) here ∙ means)

pub searching_added : {S : Type 0} (next : S → ℕ → Option S) (meaning : List ℕ → Option S) (limit : ℕ)
    (nodes : List (List ℕ)) (edges : List Edge) (edge : Edge) (s t : S) (row : List ℕ) →
    IsSearching next meaning limit nodes edges edge.from edge.label → length nodes < limit →
    state_at meaning nodes edge.from ≡ Some s → next s edge.label ≡ Some t → meaning row ≡ Some t →
    ((i : ℕ) → state_at meaning nodes i ≢ Some t) →
    IsSearching next meaning limit (nodes ++ row ∷ []) (edges ++ edge ∷ []) edge.from (edge.label + 1)
searching_added {S} next meaning limit nodes edges edge s t row h room here leads means absent =
    let count : length (nodes ++ row ∷ []) ≡ length nodes + 1 = length-append nodes (row ∷ []) in
    let edge_count : length (edges ++ edge ∷ []) ≡ length edges + 1 = length-append edges (edge ∷ []) in
    let some = h.some in
    let even = h.even in
    let last : edge_at (edges ++ edge ∷ []) (length nodes) ≡ edge =
    ap (edge_at (edges ++ edge ∷ [])) (sym even) ∙ get_or-append_seam edges edge [] (record { from = 0; label = 0 }) in
    record {
      some = omega arith;
      within = omega arith;
      even = omega arith;
      searched = subst (λ (n : ℕ). IsSearched next (state_at meaning (nodes ++ row ∷ []))
          (edge_at (edges ++ edge ∷ [])) n edge.from (edge.label + 1)) (sym count)
          (added next (state_at meaning nodes) (state_at meaning (nodes ++ row ∷ [])) (edge_at edges)
          (edge_at (edges ++ edge ∷ [])) (length nodes) edge.from edge.label s t h.searched here leads absent
          (λ i other. ap (λ (o : Option (List ℕ)). option_and_then meaning o) (slice_get-more nodes row i other))
          (ap (λ (o : Option (List ℕ)). option_and_then meaning o) (slice_get-last nodes row) ∙ means)
          (λ i below. get_or_append_left edges (edge ∷ []) (record { from = 0; label = 0 }) i (omega arith))
          (ap (λ (e : Edge). e.from) last) (ap (λ (e : Edge). e.label) last));
    }

pub first_stays : {S : Type 0} (meaning : List ℕ → Option S) (nodes : List (List ℕ)) (row : List ℕ) →
    0 < length nodes → state_at meaning (nodes ++ row ∷ []) 0 ≡ state_at meaning nodes 0
first_stays {S} meaning nodes row some =
    let other : 0 ≢ length nodes = λ same. omega arith in
    ap (λ (o : Option (List ℕ)). option_and_then meaning o) (slice_get-more nodes row 0 other)

-- where a search begins
pub searching_begins : {S : Type 0} (next : S → ℕ → Option S) (meaning : List ℕ → Option S) (limit : ℕ)
    (row : List ℕ) (edges : List Edge) (s : S) → 0 < limit → length edges ≡ 1 → meaning row ≡ Some s →
    IsSearching next meaning limit (row ∷ []) edges 0 0
searching_begins {S} next meaning limit row edges s some even means =
    let only : (i : ℕ) (u : S) → state_at meaning (row ∷ []) i ≡ Some u → i ≡ 0 = λ i u is.
    let r = row_of meaning (row ∷ []) i u is in
    let below : i < 1 = slice_get_within (row ∷ []) i r.0 r.1 in
    omega arith in
    record {
      some = omega arith;
      within = omega arith;
      even = even;
      searched = record {
        meant = λ i below. let none : 0 ≡ i = omega arith in (s, subst (λ (k : ℕ). state_at meaning (row ∷ []) k ≡ Some s) none means);
        within = λ i u is. let none = only i u is in omega arith;
        distinct = λ i j u is js. only i u is ∙ sym (only j u js);
        older = λ i more below. absurd (omega arith);
        leads = λ i u more below is. absurd (omega arith);
        rising = λ i j more order below. absurd (omega arith);
        followed = λ i more below. absurd (omega arith);
        closed = λ i m u v earlier is goes.
            let none = only i u is in
            let low : m < 0 = earlier.1 none in
            absurd (omega arith);
        earliest = λ i m j u v is goes js more earlier. let none = only j v js in omega arith;
      };
    }

-- how a search ends
pub ends : {S : Type 0} (next : S → ℕ → Option S) (meaning : List ℕ → Option S) (limit : ℕ)
    (nodes : List (List ℕ)) (edges : List Edge) (cut : Option Edge) (start : S) →
    Reaches next meaning limit (length nodes) nodes edges cut → state_at meaning nodes 0 ≡ Some start →
    IsExplored next start limit (state_at meaning nodes) (edge_at edges) (length nodes) (is_none cut)
ends {S} next meaning limit nodes edges None start h first =
    finished next (state_at meaning nodes) (edge_at edges) (length nodes) limit h.searched start first h.within
ends {S} next meaning limit nodes edges (Some edge) start h first =
    stopped next (state_at meaning nodes) (edge_at edges) (length nodes) limit edge.from edge.label h.1.searched start
    first h.1.within h.2

pub orderly : {S : Type 0} (next : S → ℕ → Option S) (meaning : List ℕ → Option S) (limit : ℕ)
    (nodes : List (List ℕ)) (edges : List Edge) (f l : ℕ) → IsSearching next meaning limit nodes edges f l →
    IsOrderly nodes edges
orderly {S} next meaning limit nodes edges f l h = record { even = h.even; older = h.searched.older }

pub ends_orderly : {S : Type 0} (next : S → ℕ → Option S) (meaning : List ℕ → Option S) (limit : ℕ)
    (nodes : List (List ℕ)) (edges : List Edge) (cut : Option Edge) →
    Reaches next meaning limit (length nodes) nodes edges cut → IsOrderly nodes edges
ends_orderly {S} next meaning limit nodes edges None h = orderly next meaning limit nodes edges (length nodes) 0 h
ends_orderly {S} next meaning limit nodes edges (Some edge) h =
    orderly next meaning limit nodes edges edge.from edge.label h.1

-- what the node's row means
pub node_means : {S : Type 0} (meaning : List ℕ → Option S) (nodes : List (List ℕ)) (i : ℕ) (row : List ℕ) (s : S) →
    slice_get nodes i ≡ Some row → state_at meaning nodes i ≡ Some s → meaning row ≡ Some s
node_means {S} meaning nodes i row s here is = sym (ap (λ (o : Option (List ℕ)). option_and_then meaning o) here) ∙ is

pub node_has_meaning : {S : Type 0} (next : S → ℕ → Option S) (meaning : List ℕ → Option S) (limit : ℕ)
    (nodes : List (List ℕ)) (edges : List Edge) (f l : ℕ) (row : List ℕ) →
    IsSearching next meaning limit nodes edges f l → f < length nodes → slice_get nodes f ≡ Some row →
    IsSome (meaning row)
node_has_meaning {S} next meaning limit nodes edges f l row h below here =
    let s = h.searched.meant f below in
    subst (λ (o : Option S). IsSome o) (sym (node_means meaning nodes f row s.0 here s.1)) refl

-- The edge with a label of a node was followed, in a step of the graph that may have given meanings to rows.
module _ {S : Type 0} (next next' : S → ℕ → Option S) (meaning meaning' : List ℕ → Option S) (limit : ℕ)
    (nodes : List (List ℕ)) (edges : List Edge) (edge : Edge)
    (h : IsSearching next meaning limit nodes edges edge.from edge.label)
    (same : next' ≡ next) (kept : (n : List ℕ) (s : S) → meaning n ≡ Some s → meaning' n ≡ Some s)
    (below : edge.from < length nodes) (node to : List ℕ) (here : slice_get nodes edge.from ≡ Some node)
    (leads : Bool)
    (value : (s : S) → meaning node ≡ Some s → LeadsTo meaning' leads to (next s edge.label)) where
  after_step : IsSearching next' meaning' limit nodes edges edge.from edge.label
  after_step = same_search next next' meaning meaning' limit nodes edges edge.from edge.label h same kept

  -- the state of the node, and what its edge leads to
  node_state : (s : S) × (meaning node ≡ Some s) × (state_at meaning' nodes edge.from ≡ Some s)
      × (next' s edge.label ≡ next s edge.label)
  node_state =
      let s = h.searched.meant edge.from below in
      let means = node_means meaning nodes edge.from node s.0 here s.1 in (
        s.0,
        means,
        ap (λ (o : Option (List ℕ)). option_and_then meaning' o) here ∙ kept node s.0 means,
        ap (λ (n : S → ℕ → Option S). n s.0 edge.label) same,
      )

  only_state : (s : S) → state_at meaning' nodes edge.from ≡ Some s → node_state.0 ≡ s
  only_state s is = same_Some node_state.0 s (sym node_state.2 ∙ is)

  target : leads ≡ true → (t : S) × (meaning' to ≡ Some t) × (next' node_state.0 edge.label ≡ Some t)
  target leading =
      let v : LeadsTo meaning' true to (next node_state.0 edge.label) =
      subst (λ (b : Bool). LeadsTo meaning' b to (next node_state.0 edge.label)) leading
      (value node_state.0 node_state.1) in
      let t = some_of (next node_state.0 edge.label) v.0 in
      (t.0, v.1 ∙ t.1, node_state.3 ∙ t.1)

  pub step_nowhere : leads ≡ false → IsSearching next' meaning' limit nodes edges edge.from (edge.label + 1)
  step_nowhere idle =
      let v : LeadsTo meaning' false to (next node_state.0 edge.label) =
      subst (λ (b : Bool). LeadsTo meaning' b to (next node_state.0 edge.label)) idle
      (value node_state.0 node_state.1) in
      searching_moved next' meaning' limit nodes edges edge.from edge.label after_step
      (λ s t is goes. absurd (none-some t (sym (node_state.3 ∙ v)
      ∙ (ap (λ (u : S). next' u edge.label) (only_state s is) ∙ goes))))

  step_found : leads ≡ true → (i : ℕ) → slice_get nodes i ≡ Some to →
      IsSearching next' meaning' limit nodes edges edge.from (edge.label + 1)
  step_found leading i there =
      let t = target leading in
      searching_moved next' meaning' limit nodes edges edge.from edge.label after_step
      (λ s u is goes.
      let same_target : t.0 ≡ u = same_Some t.0 u (sym t.2
      ∙ (ap (λ (x : S). next' x edge.label) (only_state s is) ∙ goes)) in
      found_state meaning' nodes to u i (t.1 ∙ ap (λ (x : S). Some x) same_target) there)

  pub step_adds : leads ≡ true → length nodes < limit →
      ((m n : List ℕ) (s : S) → meaning' m ≡ Some s → meaning' n ≡ Some s → m ≡ n) →
      (nodes' : List (List ℕ)) (edges' : List Edge) → Adds to edge nodes edges nodes' edges' →
      IsSearching next' meaning' limit nodes' edges' edge.from (edge.label + 1)
  step_adds leading room one nodes' edges' adds = elim adds [
    | inl there ↦
        subst (λ (ns : List (List ℕ)). IsSearching next' meaning' limit ns edges' edge.from (edge.label + 1))
        (sym there.2)
        (subst (λ (es : List Edge). IsSearching next' meaning' limit nodes es edge.from (edge.label + 1))
        (sym there.3) (step_found leading there.0 there.1))
    | inr absent ↦
        let t = target leading in
        subst (λ (ns : List (List ℕ)). IsSearching next' meaning' limit ns edges' edge.from (edge.label + 1))
        (sym absent.1)
        (subst (λ (es : List Edge). IsSearching next' meaning' limit (nodes ++ to ∷ []) es edge.from (edge.label + 1))
        (sym absent.2)
        (searching_added next' meaning' limit nodes edges edge node_state.0 t.0 to after_step room node_state.2 t.2 t.1
        (absent_state meaning' nodes to t.0 one t.1 absent.0)))
  ]

  pub step_first : (nodes' : List (List ℕ)) (edges' : List Edge) → Adds to edge nodes edges nodes' edges' →
      state_at meaning' nodes' 0 ≡ state_at meaning nodes 0
  step_first nodes' edges' adds =
      let first = same_first next next' meaning meaning' limit nodes edges edge.from edge.label h same kept in
      elim adds [
        | inl there ↦ ap (λ (ns : List (List ℕ)). state_at meaning' ns 0) there.2 ∙ first
        | inr absent ↦ ap (λ (ns : List (List ℕ)). state_at meaning' ns 0) absent.1
            ∙ (first_stays meaning' nodes to h.some ∙ first)
      ]

  pub step_at_limit : leads ≡ true → limit ≤ length nodes →
      ((m n : List ℕ) (s : S) → meaning' m ≡ Some s → meaning' n ≡ Some s → m ≡ n) →
      (number : Option ℕ) → IfSome number (λ i. slice_get nodes i ≡ Some to) →
      (number ≡ None → (i : ℕ) → slice_get nodes i ≢ Some to) →
      GoesOn next' meaning' limit edge nodes edges (is_some number)
  step_at_limit leading full one (Some i) there absent = step_found leading i there
  step_at_limit leading full one None there absent =
      let t = target leading in
      let few = h.within in (
        after_step,
        record {
          full = omega arith;
          more = (
            edge.from,
            edge.label,
            node_state.0,
            t.0,
            node_state.2,
            t.2,
            absent_state meaning' nodes to t.0 one t.1 (absent refl),
          );
        },
      )

-- a search may go on with another limit
pub stands_on : {S : Type 0} (next : S → ℕ → Option S) (meaning : List ℕ → Option S) (before limit : ℕ)
    (nodes : List (List ℕ)) (edges : List Edge) (cut : Option Edge) →
    Reaches next meaning before (length nodes) nodes edges cut → length nodes ≤ limit →
    IsSearching next meaning limit nodes edges (place_of (length nodes) cut).from (place_of (length nodes) cut).label
stands_on {S} next meaning before limit nodes edges None h within = record {
  some = h.some;
  within = within;
  even = h.even;
  searched = h.searched;
}
stands_on {S} next meaning before limit nodes edges (Some edge) h within = record {
  some = h.1.some;
  within = within;
  even = h.1.even;
  searched = h.1.searched;
}

pub stands_within : {S : Type 0} (next : S → ℕ → Option S) (meaning : List ℕ → Option S) (before : ℕ)
    (nodes : List (List ℕ)) (edges : List Edge) (cut : Option Edge) →
    Reaches next meaning before (length nodes) nodes edges cut → (place_of (length nodes) cut).from ≤ length nodes
stands_within {S} next meaning before nodes edges None h = omega arith
stands_within {S} next meaning before nodes edges (Some edge) h = let low = h.0 in omega arith

-- Where a search stands, in a graph with the same edges in which nodes have the same states.
module _ {S : Type 0} (next next' : S → ℕ → Option S) (meaning meaning' : List ℕ → Option S) (limit : ℕ)
    (nodes : List (List ℕ)) (edges : List Edge) (same : next' ≡ next)
    (states : state_at meaning' nodes ≡ state_at meaning nodes) where
  searching_same : (f l : ℕ) → IsSearching next meaning limit nodes edges f l →
      IsSearching next' meaning' limit nodes edges f l
  searching_same f l h = record {
    some = h.some;
    within = h.within;
    even = h.even;
    searched = subst (λ (n : S → ℕ → Option S). IsSearched n (state_at meaning' nodes) (edge_at edges)
        (length nodes) f l) (sym same)
        (subst (λ (at : ℕ → Option S). IsSearched next at (edge_at edges) (length nodes) f l) (sym states) h.searched);
  }

  cut_same : IsCut next (state_at meaning nodes) (length nodes) limit →
      IsCut next' (state_at meaning' nodes) (length nodes) limit
  cut_same h =
      subst (λ (n : S → ℕ → Option S). IsCut n (state_at meaning' nodes) (length nodes) limit) (sym same)
      (subst (λ (at : ℕ → Option S). IsCut next at (length nodes) limit) (sym states) h)

  pub stands_same : (cut : Option Edge) → Reaches next meaning limit (length nodes) nodes edges cut →
      Reaches next' meaning' limit (length nodes) nodes edges cut
  stands_same None h = searching_same (length nodes) 0 h
  stands_same (Some edge) h = (h.0, searching_same edge.from edge.label h.1, cut_same h.2)

-- what a step leads to is kept
pub leads_kept : {S : Type 0} (meaning meaning' : List ℕ → Option S) →
    ((n : List ℕ) (s : S) → meaning n ≡ Some s → meaning' n ≡ Some s) →
    (leads : Bool) (row : List ℕ) (to : Option S) → LeadsTo meaning leads row to → LeadsTo meaning' leads row to
leads_kept {S} meaning meaning' kept false row to led = led
leads_kept {S} meaning meaning' kept true row to led =
    let t = some_of to led.0 in
    (led.0, kept row t.0 (led.1 ∙ t.1) ∙ sym t.1)

-- A row was written among rows.
module _ (width n : ℕ) (rows row back rows' : List ℕ) (room : (n + 1) * width ≤ length rows) (wide : length row ≡ width)
    (is : rows' ≡ take (n * width) rows ++ (row ++ back)) where
  front_long : length (take (n * width) rows) ≡ n * width
  front_long =
      let e = row_begins n width in
      length-take-le (n * width) rows (omega arith)

  pub row_there : row_at width rows' n ≡ row
  row_there =
      let long = front_long in
      let e = row_begins n width in
      let both = length-append (take (n * width) rows) row in
      let ends : (n + 1) * width ≤ length (take (n * width) rows ++ row) = omega arith in
      ap (λ (xs : List ℕ). row_at width xs n) (is ∙ sym (append_assoc (take (n * width) rows) row back))
      ∙ row_at-append width (take (n * width) rows ++ row) back n ends
      ∙ row_at-last width (take (n * width) rows) row n long wide

  pub row_before : (k : ℕ) → k < n → row_at width rows' k ≡ row_at width rows k
  row_before k below =
      let long = front_long in
      let ends : (k + 1) * width ≤ length (take (n * width) rows) = rw long (row_ends k n width below) in
      ap (λ (xs : List ℕ). row_at width xs k) is
      ∙ row_at-append width (take (n * width) rows) (row ++ back) k ends
      ∙ sym (ap (λ (xs : List ℕ). row_at width xs k) (sym (take-append-drop (n * width) rows))
      ∙ row_at-append width (take (n * width) rows) (drop (n * width) rows) k ends)

-- what was written to a row of this length is the row
written : (len : ℕ) (to items : List ℕ) → len ≡ length to → take len (to ++ drop (length to) items) ≡ to
written len to items same = rw same (take-append_seam to (drop (length to) items))

-- row k was written among the rows of a vector
pub row_written : (width k len : ℕ) (items seen to : List ℕ) → seen ≡ items → len ≡ length items →
    k * width + width ≤ length items → length to ≡ width →
    let put = put_mid (k * width) (k * width + width - k * width) seen to in
    (take len (put ++ drop (length put) items)
    ≡ take (k * width) items ++ (to ++ post_of (k * width) (k * width + width - k * width) items))
    × (length (take len (put ++ drop (length put) items)) ≡ length items)
row_written width k len items seen to same long room wide =
    let a = k * width in
    let w = a + width - a in
    let rest = drop w (drop a items) in
    let front = length-take-le a items (omega arith) in
    let after = length-drop a items in
    let behind = length-drop w (drop a items) in
    let both = length-append to rest in
    let whole = length-append (take a items) (to ++ rest) in
    let all : length (take a items ++ (to ++ rest)) ≡ length items = omega arith in
    let back = written len (take a items ++ (to ++ rest)) items (long ∙ sym all) in
    rw same (back, ap (λ (xs : List ℕ). length xs) back ∙ all)

-- there is room for the row of a label
pub row_fits : (width first label count room : ℕ) → label < count → room ≡ count * width →
    (label - first) * width + width ≤ room
row_fits width first label count room below is =
    let within : label - first < count = omega arith in
    let ends = row_ends (label - first) count width within in
    let begins = row_begins (label - first) width in
    omega arith

-- one step more was made
pub steps_more : {S : Type 0} (next : S → ℕ → Option S) (meaning meaning' : List ℕ → Option S) (width : ℕ) (s : S)
    (first : ℕ) (leads : List Bool) (rows row back rows' : List ℕ) (b : Bool) →
    ((n : List ℕ) (u : S) → meaning n ≡ Some u → meaning' n ≡ Some u) →
    (length leads + 1) * width ≤ length rows → length row ≡ width →
    rows' ≡ take (length leads * width) rows ++ (row ++ back) →
    AreSteps next meaning width s first leads rows → LeadsTo meaning' b row (next s (first + length leads)) →
    AreSteps next meaning' width s first (leads ++ b ∷ []) rows'
steps_more {S} next meaning meaning' width s first leads rows row back rows' b kept room wide is steps led k below =
    let count : length (leads ++ b ∷ []) ≡ length leads + 1 = length-append leads (b ∷ []) in
    elim (cases_lt k (length leads)) [
      | inl early ↦
          let flag : slice_index_or (leads ++ b ∷ []) k false ≡ slice_index_or leads k false =
          get_or_append_left leads (b ∷ []) false k early in
          let same = row_before width (length leads) rows row back rows' room wide is k early in
          let was = leads_kept meaning meaning' kept (slice_index_or leads k false) (row_at width rows k)
          (next s (first + k)) (steps k early) in
          subst (λ (f : Bool). LeadsTo meaning' f (row_at width rows' k) (next s (first + k))) (sym flag)
          (subst (λ (r : List ℕ). LeadsTo meaning' (slice_index_or leads k false) r (next s (first + k))) (sym same) was)
      | inr late ↦
          let e : length leads ≡ k = omega arith in
          let flag : slice_index_or (leads ++ b ∷ []) k false ≡ b =
          ap (λ (j : ℕ). slice_index_or (leads ++ b ∷ []) j false) (sym e) ∙ get_or-append_seam leads b [] false in
          let same : row_at width rows' k ≡ row =
          ap (row_at width rows') (sym e) ∙ row_there width (length leads) rows row back rows' room wide is in
          let here : LeadsTo meaning' b row (next s (first + k)) =
          subst (λ (j : ℕ). LeadsTo meaning' b row (next s (first + j))) e led in
          subst (λ (f : Bool). LeadsTo meaning' f (row_at width rows' k) (next s (first + k))) (sym flag)
          (subst (λ (r : List ℕ). LeadsTo meaning' b r (next s (first + k))) (sym same) here)
    ]

-- The edge of a step was followed.
module _ {S : Type 0} (next : S → ℕ → Option S) (meaning : List ℕ → Option S) (limit : ℕ)
    (nodes : List (List ℕ)) (edges : List Edge) (edge : Edge)
    (h : IsSearching next meaning limit nodes edges edge.from edge.label)
    (below : edge.from < length nodes) (node to : List ℕ) (here : slice_get nodes edge.from ≡ Some node)
    (one : (m n : List ℕ) (s : S) → meaning m ≡ Some s → meaning n ≡ Some s → m ≡ n)
    (nodes' : List (List ℕ)) (edges' : List Edge) where
  moved_to : (label : ℕ) → nodes' ≡ nodes → edges' ≡ edges →
      IsSearching next meaning limit nodes edges edge.from label →
      IsSearching next meaning limit nodes' edges' edge.from label
  moved_to label same_nodes same_edges searching =
      subst (λ (ns : List (List ℕ)). IsSearching next meaning limit ns edges' edge.from label) (sym same_nodes)
      (subst (λ (es : List Edge). IsSearching next meaning limit nodes es edge.from label) (sym same_edges) searching)

  same_keeps : nodes' ≡ nodes →
      (state_at meaning nodes' 0 ≡ state_at meaning nodes 0) × (slice_get nodes' edge.from ≡ Some node)
      × (length nodes ≤ length nodes')
  same_keeps same =
      let count : length nodes' ≡ length nodes = ap (λ (ns : List (List ℕ)). length ns) same in (
        ap (λ (ns : List (List ℕ)). state_at meaning ns 0) same,
        ap (λ (ns : List (List ℕ)). slice_get ns edge.from) same ∙ here,
        omega arith,
      )

  pub step_follows : (leads : Bool) →
      ((s : S) → meaning node ≡ Some s → LeadsTo meaning leads to (next s edge.label)) → (fits : Bool) →
      Follows leads to edge limit nodes edges nodes' edges' fits → GoesOn next meaning limit edge nodes' edges' fits
  step_follows false value true follows =
      moved_to (edge.label + 1) follows.1 follows.2
      (step_nowhere next next meaning meaning limit nodes edges edge h refl (λ n s is. is) below node to here false
      value refl)
  step_follows false value false follows = absurd (let wrong : false ≡ true = follows.0 in cc)
  step_follows true value true follows = elim follows.0 [
    | inl there ↦
        moved_to (edge.label + 1) there.2 there.3
        (step_found next next meaning meaning limit nodes edges edge h refl (λ n s is. is) below node to here true
        value refl there.0 there.1)
    | inr absent ↦
        let count : length nodes' ≡ length nodes + 1 = ap (λ (ns : List (List ℕ)). length ns) absent.1
        ∙ length-append nodes (to ∷ []) in
        let within : length nodes' ≤ limit = follows.1 in
        let room : length nodes < limit = omega arith in
        step_adds next next meaning meaning limit nodes edges edge h refl (λ n s is. is) below node to here true
        value refl room one nodes' edges' (inr absent)
  ]
  step_follows true value false follows =
      let cut = step_at_limit next next meaning meaning limit nodes edges edge h refl (λ n s is. is) below node to
      here true value refl follows.1 one None tt (λ _. follows.0) in (
        moved_to edge.label follows.2 follows.3 cut.0,
        subst (λ (ns : List (List ℕ)). IsCut next (state_at meaning ns) (length ns) limit) (sym follows.2) cut.1,
      )

  -- the first node's state, the node that the edge leaves, and how many nodes there are
  pub step_keeps : (leads fits : Bool) → Follows leads to edge limit nodes edges nodes' edges' fits →
      (state_at meaning nodes' 0 ≡ state_at meaning nodes 0) × (slice_get nodes' edge.from ≡ Some node)
      × (length nodes ≤ length nodes')
  step_keeps false fits follows = same_keeps follows.1
  step_keeps true true follows = elim follows.0 [
    | inl there ↦ same_keeps there.2
    | inr absent ↦
        let count : length nodes' ≡ length nodes + 1 = ap (λ (ns : List (List ℕ)). length ns) absent.1
        ∙ length-append nodes (to ∷ []) in
        let other : edge.from ≢ length nodes = λ same. omega arith in (
          ap (λ (ns : List (List ℕ)). state_at meaning ns 0) absent.1 ∙ first_stays meaning nodes to h.some,
          ap (λ (ns : List (List ℕ)). slice_get ns edge.from) absent.1 ∙ (slice_get-more nodes to edge.from other ∙ here),
          omega arith,
        )
  ]
  step_keeps true false follows = same_keeps follows.2

-- steps of a node are steps of whatever the node means
pub steps_value : {S : Type 0} (next : S → ℕ → Option S) (meaning meaning' : List ℕ → Option S) (width : ℕ)
    (node : List ℕ) (first : ℕ) (leads : List Bool) (rows : List ℕ) (label : ℕ) → IsSome (meaning node) →
    ((n : List ℕ) (s : S) → meaning n ≡ Some s → meaning' n ≡ Some s) →
    ((s : S) → meaning node ≡ Some s → AreSteps next meaning' width s first leads rows) →
    first ≤ label → label < first + length leads →
    (s : S) → meaning' node ≡ Some s →
    LeadsTo meaning' (slice_index_or leads (label - first) false) (row_at width rows (label - first)) (next s label)
steps_value {S} next meaning meaning' width node first leads rows label some kept steps from below s means =
    let t = some_of (meaning node) some in
    let same : t.0 ≡ s = same_Some t.0 s (sym (kept node t.0 t.1) ∙ means) in
    let k = label - first in
    let within : k < length leads = omega arith in
    let place : first + k ≡ label = omega arith in
    subst (λ (u : S). LeadsTo meaning' (slice_index_or leads k false) (row_at width rows k) (next u label)) same
    (subst (λ (l : ℕ). LeadsTo meaning' (slice_index_or leads k false) (row_at width rows k) (next t.0 l)) place
    (steps t.0 t.1 k within))

-- a node was added where there was room
pub adds_within : (node : List ℕ) (edge : Edge) (limit : ℕ) (nodes : List (List ℕ)) (edges : List Edge)
    (nodes' : List (List ℕ)) (edges' : List Edge) → Adds node edge nodes edges nodes' edges' → length nodes < limit →
    Fits node edge limit nodes edges nodes' edges' true
adds_within node edge limit nodes edges nodes' edges' adds room = (
  adds,
  elim adds [
    | inl there ↦ let e = ap (λ (ns : List (List ℕ)). length ns) there.2 in omega arith
    | inr absent ↦
        let count : length nodes' ≡ length nodes + 1 = ap (λ (ns : List (List ℕ)). length ns) absent.1
        ∙ length-append nodes (node ∷ []) in
        omega arith
  ],
)

-- there was none
pub fits_full : (node : List ℕ) (edge : Edge) (limit : ℕ) (nodes : List (List ℕ)) (edges : List Edge) →
    limit ≤ length nodes → length nodes ≤ limit →
    (number : Option ℕ) → IfSome number (λ i. slice_get nodes i ≡ Some node) →
    (number ≡ None → (i : ℕ) → slice_get nodes i ≢ Some node) →
    Fits node edge limit nodes edges nodes edges (is_some number)
fits_full node edge limit nodes edges full within (Some i) there absent = (inl (i, there, refl, refl), within)
fits_full node edge limit nodes edges full within None there absent = (absent refl, full, refl, refl)

-- an edge of a node was followed, of which a step was made before
pub step_taken : {S : Type 0} (next : S → ℕ → Option S) (meaning meaning' : List ℕ → Option S) (limit width width' : ℕ)
    (nodes : List (List ℕ)) (edges : List Edge) (edge : Edge) (first count : ℕ) (node : List ℕ) (leads : List Bool)
    (rows : List ℕ) (nodes' : List (List ℕ)) (edges' : List Edge) (fits : Bool) →
    IsSearching next meaning' limit nodes edges edge.from edge.label → edge.from < length nodes →
    slice_get nodes edge.from ≡ Some node → IsSome (meaning node) →
    ((n : List ℕ) (s : S) → meaning n ≡ Some s → meaning' n ≡ Some s) →
    (first < count → (m n : List ℕ) (s : S) → meaning' m ≡ Some s → meaning' n ≡ Some s → m ≡ n) →
    (first ≤ count → first + length leads ≡ count) →
    ((s : S) → meaning node ≡ Some s → AreSteps next meaning' width s first leads rows) → width' ≡ width →
    first ≤ edge.label → edge.label < count →
    Follows (slice_index_or leads (edge.label - first) false) (row_at width' rows (edge.label - first)) edge limit
    nodes edges nodes' edges' fits →
    GoesOn next meaning' limit edge nodes' edges' fits × (state_at meaning' nodes' 0 ≡ state_at meaning' nodes 0)
    × (slice_get nodes' edge.from ≡ Some node) × (length nodes ≤ length nodes')
step_taken {S} next meaning meaning' limit width width' nodes edges edge first count node leads rows nodes' edges' fits
    h there here some kept one even steps same from below follows =
    let order : first < count = omega arith in
    let all : first + length leads ≡ count = even (omega arith) in
    let within : edge.label < first + length leads = omega arith in
    let k = edge.label - first in
    let value : (s : S) → meaning' node ≡ Some s →
    LeadsTo meaning' (slice_index_or leads k false) (row_at width' rows k) (next s edge.label) =
    λ s means. subst (λ (w : ℕ). LeadsTo meaning' (slice_index_or leads k false) (row_at w rows k) (next s edge.label))
    (sym same) (steps_value next meaning meaning' width node first leads rows edge.label some kept steps from within
    s means) in
    let on = step_follows next meaning' limit nodes edges edge h there node (row_at width' rows k) here (one order)
    nodes' edges' (slice_index_or leads k false) value fits follows in
    let keeps = step_keeps next meaning' limit nodes edges edge h there node (row_at width' rows k) here (one order)
    nodes' edges' (slice_index_or leads k false) fits follows in
    (on, keeps.0, keeps.1, keeps.2)
