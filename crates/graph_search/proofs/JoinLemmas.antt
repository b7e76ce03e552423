-- How a round is followed: its targets were added to the nodes, one after another.
use Rattle.std.proofs.Common.{◌≡◌, ◌≢◌, ℕ, zero, suc, ◌+◌, ◌*◌, ◌<◌, ◌≤◌, List, [], ◌∷◌, ◌++◌, length, drop, arith, ap, sym, ◌∙◌, refl, inl, inr, subst, length-append}
use Rattle.std.specs.Prelude.{Option, Some, None, IsSome, Bool, true, false, if◌then◌else◌, slice_get, slice_index_or, option_and_then}
use Rattle.std.proofs.Math.ListN.{drop_of_length-le}
use Rattle.std.proofs.Math.Nat.{mul-le-mul_right}
use Rattle.std.proofs.Math.Seq.{get_or-append_seam}
use Rattle.std.proofs.lemmas.List.{get_or_append_left, append-nil}
use Rattle.std.proofs.lemmas.Bool.{cases_lt}
use Rattle.std.proofs.lemmas.Option.{same_Some}
use Rattle.interner.specs.Rows.{row_at}
use Rattle.interner.proofs.RowLemmas.{row_begins}
use Rattle.graph_nodes.specs.Joined.{target_at, targets_of, AreJoined}
use Rattle.graph_search.specs.declared.edges.Edge.{Edge}
use Rattle.graph_search.specs.declared.rounds.Round.{Round}
use Rattle.graph_search.specs.Graphs.{LeadsTo}
use Rattle.graph_search.specs.Trees.{state_at}
use Rattle.graph_search.specs.Searches.{IsSearching}
use Rattle.graph_search.specs.Rounds.{AreRead, AreRoundSteps, HasOneNode, IsBehind, Stands, edge_if, edges_at}
use Rattle.graph_search.proofs.TreeLemmas.{some_of, node_means, same_search, same_first, slice_get-more, leads_kept, searching_next, step_follows}
use Rattle.graph_search.proofs.RoundLemmas.{drop_at, follow_more, one_place}

-- how many targets there are
pub targets_long : (width : ℕ) (leads : List Bool) (rows : List ℕ) (n : ℕ) → length (targets_of width leads rows n) ≡ n
unfolding targets_of
targets_long width leads rows zero = refl
targets_long width leads rows (suc n) =
    let more = targets_long width leads rows n in
    let both = length-append (targets_of width leads rows n) (target_at width leads rows n ∷ []) in
    omega arith

-- each of them
pub targets_at : (width : ℕ) (leads : List Bool) (rows : List ℕ) (n k : ℕ) (d : Option (List ℕ)) → k < n →
    slice_index_or (targets_of width leads rows n) k d ≡ target_at width leads rows k
unfolding targets_of
targets_at width leads rows zero k d below = absurd (omega arith)
targets_at width leads rows (suc n) k d below =
    let long = targets_long width leads rows n in
    let last = target_at width leads rows n ∷ [] in
    elim (cases_lt k n) [
      | inl early ↦
          get_or_append_left (targets_of width leads rows n) last d k (omega arith)
          ∙ targets_at width leads rows n k d early
      | inr late ↦
          let e : length (targets_of width leads rows n) ≡ k = omega arith in
          let f : n ≡ k = omega arith in
          ap (λ (j : ℕ). slice_index_or (targets_of width leads rows n ++ last) j d) (sym e)
          ∙ get_or-append_seam (targets_of width leads rows n) (target_at width leads rows n) [] d
          ∙ ap (target_at width leads rows) f
    ]

-- the targets from one of them on
pub targets_from : (width : ℕ) (leads : List Bool) (rows : List ℕ) (n k : ℕ) → k < n →
    drop k (targets_of width leads rows n)
    ≡ target_at width leads rows k ∷ drop (k + 1) (targets_of width leads rows n)
targets_from width leads rows n k below =
    let long = targets_long width leads rows n in
    drop_at (targets_of width leads rows n) k None (omega arith)
    ∙ ap (λ (t : Option (List ℕ)). t ∷ drop (k + 1) (targets_of width leads rows n)) (targets_at width leads rows n k None below)

-- What is so of nodes after targets were added to them: there is a flag for each target, and the nodes of
-- before are where they were.
pub record Grows (targets : List (Option (List ℕ))) (fresh : List Bool) (old new : List (List ℕ)) : Type 0 where
  pub even : length fresh ≡ length targets
  pub more : length old ≤ length new
  pub few : length new ≤ length old + length targets
  pub same : (i : ℕ) → i < length old → slice_get new i ≡ slice_get old i

pub joined_grows : (targets : List (Option (List ℕ))) (fresh : List Bool) (old new : List (List ℕ)) →
    AreJoined targets fresh old new → Grows targets fresh old new
unfolding AreJoined
joined_grows [] [] old new is = rw is (record { even = refl; more = omega arith; few = omega arith; same = λ i below. refl })
joined_grows [] (fresh ∷ more) old new is = absurd is
joined_grows (None ∷ targets) [] old new is = absurd is
joined_grows (Some row ∷ targets) [] old new is = absurd is
joined_grows (None ∷ targets) (fresh ∷ more) old new is =
    let g = joined_grows targets more old new is.1 in
    let e = g.even in
    let f = g.few in
    record { even = omega arith; more = g.more; few = omega arith; same = g.same }
joined_grows (Some row ∷ targets) (false ∷ more) old new is =
    let g = joined_grows targets more old new is.1 in
    let e = g.even in
    let f = g.few in
    record { even = omega arith; more = g.more; few = omega arith; same = g.same }
joined_grows (Some row ∷ targets) (true ∷ more) old new is =
    let g = joined_grows targets more (old ++ row ∷ []) new is.1 in
    let e = g.even in
    let f = g.few in
    let m = g.more in
    let count : length (old ++ row ∷ []) ≡ length old + 1 = length-append old (row ∷ []) in
    record {
      even = omega arith;
      more = omega arith;
      few = omega arith;
      same = λ i below. g.same i (omega arith) ∙ slice_get-more old row i (λ same. omega arith);
    }

-- steps of nodes that had a meaning before are steps of what they mean now
pub steps_later : {S : Type 0} (next : S → ℕ → Option S) (before now meaning : List ℕ → Option S)
    (width labels count : ℕ) (read : List ℕ) (leads : List Bool) (rows : List ℕ) →
    ((n : List ℕ) (s : S) → before n ≡ Some s → now n ≡ Some s) →
    ((i : ℕ) → i < count → IsSome (before (row_at width read i))) → length leads ≡ count * labels →
    AreRoundSteps next before meaning width labels read leads rows →
    AreRoundSteps next now meaning width labels read leads rows
steps_later {S} next before now meaning width labels count read leads rows kept meant counted steps i l s low below means =
    let inside : i < count = elim (cases_lt i count) [
      | inl less ↦ less
      | inr more ↦
          let over : count ≤ i = omega arith in
          let most = mul-le-mul_right labels over in
          absurd (omega arith)
    ] in
    let t = some_of (before (row_at width read i)) (meant i inside) in
    let same : t.0 ≡ s = same_Some t.0 s (sym (kept (row_at width read i) t.0 t.1) ∙ means) in
    subst (λ (u : S). LeadsTo meaning (slice_index_or leads (i * labels + l) false) (row_at width rows (i * labels + l))
    (next u l)) same (steps i l t.0 low below t.1)

-- nodes that were read have a meaning
pub read_meant : {S : Type 0} (next : S → ℕ → Option S) (meaning : List ℕ → Option S) (limit width first count f l : ℕ)
    (nodes : List (List ℕ)) (edges : List Edge) (read : List ℕ) → IsSearching next meaning limit nodes edges f l →
    first + count ≤ length nodes → AreRead width nodes first count read →
    (i : ℕ) → i < count → IsSome (meaning (row_at width read i))
read_meant {S} next meaning limit width first count f l nodes edges read h there taken i below =
    let s = h.searched.meant (first + i) (omega arith) in
    subst (λ (o : Option S). IsSome o) (sym (node_means meaning nodes (first + i) (row_at width read i) s.0
    (taken i below) s.1)) refl

-- a round of no nodes, of which no steps were made
pub none_stands : {S : Type 0} (next : S → ℕ → Option S) (meaning : List ℕ → Option S) (limit width labels : ℕ)
    (nodes : List (List ℕ)) (edges : List Edge) (round : Round) → round.count ≡ 0 → round.leads.items ≡ [] →
    round.first ≤ length nodes → length round.nodes.items ≡ 32768 * width →
    length round.rows.items ≡ 32768 * labels * width →
    IsSearching next meaning limit nodes edges round.first 0 →
    Stands next meaning limit width labels nodes edges round
none_stands {S} next meaning limit width labels nodes edges round none no_steps there long wide h =
    let empty : length round.leads.items ≡ 0 = rw no_steps refl in
    let within = h.within in
    record {
      few = omega arith;
      there = omega arith;
      labelled = λ some. absurd (omega arith);
      room = omega arith;
      long = long;
      rows = wide;
      read = λ i below. absurd (omega arith);
      counted = rw (empty, none) (omega arith);
      steps = λ i l s low below. absurd (omega arith);
      one_node = λ some. absurd (omega arith);
      searching = h;
    }

-- what steps lead to is kept
pub steps_kept : {S : Type 0} (next : S → ℕ → Option S) (before meaning meaning' : List ℕ → Option S)
    (width labels : ℕ) (read : List ℕ) (leads : List Bool) (rows : List ℕ) →
    ((n : List ℕ) (s : S) → meaning n ≡ Some s → meaning' n ≡ Some s) →
    AreRoundSteps next before meaning width labels read leads rows →
    AreRoundSteps next before meaning' width labels read leads rows
steps_kept {S} next before meaning meaning' width labels read leads rows kept steps i l s low below means =
    leads_kept meaning meaning' kept (slice_index_or leads (i * labels + l) false) (row_at width rows (i * labels + l))
    (next s l) (steps i l s low below means)

-- An edge was followed, whose target was the next to be added.
pub edge_joined : {S : Type 0} (next : S → ℕ → Option S) (meaning : List ℕ → Option S) (limit : ℕ)
    (nodes : List (List ℕ)) (edges : List Edge) (edge : Edge) (node row : List ℕ) (leads fresh : Bool)
    (targets : List (Option (List ℕ))) (more : List Bool) (new : List (List ℕ)) →
    IsSearching next meaning limit nodes edges edge.from edge.label → edge.from < length nodes →
    slice_get nodes edge.from ≡ Some node → HasOneNode meaning →
    ((s : S) → meaning node ≡ Some s → LeadsTo meaning leads row (next s edge.label)) → length nodes < limit →
    AreJoined ((if leads then Some row else None) ∷ targets) (fresh ∷ more) nodes new →
    (nodes' : List (List ℕ)) × IsSearching next meaning limit nodes' (edges ++ edge_if fresh edge.from edge.label) edge.from (edge.label + 1)
    × AreJoined targets more nodes' new × (length nodes ≤ length nodes') × (length nodes' ≤ length nodes + 1)
    × ((i : ℕ) → i < length nodes → slice_get nodes' i ≡ slice_get nodes i)
unfolding AreJoined
edge_joined {S} next meaning limit nodes edges edge node row true true targets more new h below here one value room is =
    let count : length (nodes ++ row ∷ []) ≡ length nodes + 1 = length-append nodes (row ∷ []) in (
      nodes ++ row ∷ [],
      step_follows next meaning limit nodes edges edge h below node row here one (nodes ++ row ∷ []) (edges ++ edge ∷ [])
          true value true (inr (is.0, refl, refl), omega arith),
      is.1,
      omega arith,
      omega arith,
      λ i low. slice_get-more nodes row i (λ same. omega arith),
    )
edge_joined {S} next meaning limit nodes edges edge node row true false targets more new h below here one value room is = (
  nodes,
  subst (λ (es : List Edge). IsSearching next meaning limit nodes es edge.from (edge.label + 1)) (sym (append-nil edges))
      (step_follows next meaning limit nodes edges edge h below node row here one nodes edges true value true
      (inl (is.0.0, is.0.1, refl, refl), h.within)),
  is.1,
  omega arith,
  omega arith,
  λ i low. refl,
)
edge_joined {S} next meaning limit nodes edges edge node row false true targets more new h below here one value room is =
    absurd (let wrong : true ≡ false = is.0 in cc)
edge_joined {S} next meaning limit nodes edges edge node row false false targets more new h below here one value room is = (
  nodes,
  subst (λ (es : List Edge). IsSearching next meaning limit nodes es edge.from (edge.label + 1)) (sym (append-nil edges))
      (step_follows next meaning limit nodes edges edge h below node row here one nodes edges false value true
      (refl, refl, refl)),
  is.1,
  omega arith,
  omega arith,
  λ i low. refl,
)

-- The edges of a round were followed.
module _ {S : Type 0} (next : S → ℕ → Option S) (meaning : List ℕ → Option S) (limit width labels first count : ℕ)
    (read : List ℕ) (leads : List Bool) (rows : List ℕ) (fresh : List Bool) (new : List (List ℕ)) (one : HasOneNode meaning)
    (steps : AreRoundSteps next meaning meaning width labels read leads rows) (counted : length leads ≡ count * labels)
    (even : length fresh ≡ length leads) (beyond : (s : S) (m : ℕ) → labels ≤ m → next s m ≡ None) where
  pub joined : (n k m i l : ℕ) (nodes : List (List ℕ)) (edges : List Edge) → k + n ≡ length leads →
      k ≡ i * labels + l → m ≡ first + i → l < labels → IsSearching next meaning limit nodes edges m l →
      AreJoined (drop k (targets_of width leads rows (length leads))) (drop k fresh) nodes new →
      AreRead width nodes first count read → first + count ≤ length nodes → length nodes + n ≤ limit →
      IsSearching next meaning limit new (edges ++ edges_at labels m l (drop k fresh)) (first + count) 0
  unfolding AreJoined edges_at
  joined zero k m i l nodes edges all place node low h is taken there room =
      let long = targets_long width leads rows (length leads) in
      let none : drop k (targets_of width leads rows (length leads)) ≡ [] =
      drop_of_length-le (targets_of width leads rows (length leads)) (omega arith) in
      let no_flags : drop k fresh ≡ [] = drop_of_length-le fresh (omega arith) in
      let at = one_place i l count 0 labels low (omega arith) (omega arith) in
      let ended : new ≡ nodes = subst (λ (fs : List Bool). AreJoined [] fs nodes new) no_flags
      (subst (λ (ts : List (Option (List ℕ))). AreJoined ts (drop k fresh) nodes new) none is) in
      let e = at.0 in
      let f = at.1 in
      let here : m ≡ first + count = omega arith in
      rw (no_flags, ended, append-nil edges, sym here, sym f) h
  joined (suc n) k m i l nodes edges all place node low h is taken there room =
      let below : k < length leads = omega arith in
      let inside : i < count = elim (cases_lt i count) [
        | inl less ↦ less
        | inr more ↦
            let over : count ≤ i = omega arith in
            let most = mul-le-mul_right labels over in
            absurd (omega arith)
      ] in
      let edge : Edge = record { from = m; label = l } in
      let row = row_at width rows k in
      let leading = slice_index_or leads k false in
      let is_new = slice_index_or fresh k false in
      let targets = drop (k + 1) (targets_of width leads rows (length leads)) in
      let more = drop (k + 1) fresh in
      let flags = drop_at fresh k false (omega arith) in
      let head = targets_from width leads rows (length leads) k below in
      let on : AreJoined ((if leading then Some row else None) ∷ targets) (is_new ∷ more) nodes new =
      rw (sym head, sym flags) is in
      let here : slice_get nodes m ≡ Some (row_at width read i) = rw node (taken i inside) in
      let value : (s : S) → meaning (row_at width read i) ≡ Some s → LeadsTo meaning leading row (next s l) =
      λ s means. rw place (steps i l s low (omega arith) means) in
      let t = edge_joined next meaning limit nodes edges edge (row_at width read i) row leading is_new targets more new h
      (omega arith) here one value (omega arith) on in
      let grown = t.3 in
      let few = t.4 in
      let read_on : AreRead width t.0 first count read = λ j low_j. t.5 (first + j) (omega arith) ∙ taken j low_j in
      elim (cases_lt (l + 1) labels) [
        | inl less ↦
            let rest = joined n (k + 1) m i (l + 1) t.0 (edges ++ edge_if is_new m l) (omega arith) (omega arith) node less
            t.1 t.2 read_on (omega arith) (omega arith) in
            let other : l + 1 ≢ labels = λ same. omega arith in
            let same = follow_more labels m l k fresh is_new edges (edges ++ edge_if is_new m l) m (l + 1) (omega arith)
            refl refl (inr (other, refl, refl)) in
            subst (λ (es : List Edge). IsSearching next meaning limit new es (first + count) 0) same rest
        | inr past ↦
            let last : l + 1 ≡ labels = omega arith in
            let begins = row_begins i labels in
            let next_node = searching_next next meaning limit t.0 (edges ++ edge_if is_new m l) m (l + 1) t.1
            (λ s v over. beyond s v (omega arith)) in
            let rest = joined n (k + 1) (m + 1) (i + 1) 0 t.0 (edges ++ edge_if is_new m l) (omega arith) (omega arith)
            (omega arith) (omega arith) next_node t.2 read_on (omega arith) (omega arith) in
            let same = follow_more labels m l k fresh is_new edges (edges ++ edge_if is_new m l) (m + 1) 0 (omega arith)
            refl refl (inl (last, refl, refl)) in
            subst (λ (es : List Edge). IsSearching next meaning limit new es (first + count) 0) same rest
      ]

-- there are rows for all steps of a round
pub rows_there : (count labels width leads rows : ℕ) → count ≤ 32768 → leads ≡ count * labels →
    rows ≡ 32768 * labels * width → leads * width ≤ rows
rows_there count labels width leads rows few counted all =
    rw (counted, all) (mul-le-mul_right width (mul-le-mul_right labels few))

-- there is a flag for each step
pub flags_even : (width : ℕ) (leads : List Bool) (rows : List ℕ) (fresh : List Bool) (old new : List (List ℕ)) →
    AreJoined (targets_of width leads rows (length leads)) fresh old new → length fresh ≡ length leads
flags_even width leads rows fresh old new is =
    (joined_grows (targets_of width leads rows (length leads)) fresh old new is).even ∙ targets_long width leads rows (length leads)

-- A round was taken: its targets were added, and the steps of the round behind it were made.
module _ {S : Type 0} (next next' : S → ℕ → Option S) (meaning meaning' : List ℕ → Option S) (limit width labels : ℕ)
    (nodes new : List (List ℕ)) (edges : List Edge) (now : Round) (fresh : List Bool)
    (stands : Stands next meaning limit width labels nodes edges now)
    (same : next' ≡ next) (kept : (n : List ℕ) (s : S) → meaning n ≡ Some s → meaning' n ≡ Some s)
    (is : AreJoined (targets_of width now.leads.items now.rows.items (length now.leads.items)) fresh nodes new) where
  grows : Grows (targets_of width now.leads.items now.rows.items (length now.leads.items)) fresh nodes new
  grows = joined_grows (targets_of width now.leads.items now.rows.items (length now.leads.items)) fresh nodes new is

  -- the first node's state
  pub first_taken : state_at meaning' new 0 ≡ state_at meaning nodes 0
  first_taken = ap (λ (o : Option (List ℕ)). option_and_then meaning' o) (grows.same 0 stands.searching.some)
      ∙ same_first next next' meaning meaning' limit nodes edges now.first 0 stands.searching same kept

  pub round_taken : (edges' : List Edge) (before after : Round) → IsBehind limit width labels nodes now before →
      0 < now.count → (HasOneNode meaning → HasOneNode meaning') → (0 < after.count → HasOneNode meaning') →
      after.first ≡ before.first → after.count ≡ before.count → after.nodes.items ≡ before.nodes.items →
      length after.rows.items ≡ length before.rows.items → length after.leads.items ≡ after.count * labels →
      AreRoundSteps next' meaning meaning' width labels after.nodes.items after.leads.items after.rows.items →
      ((s : S) (m : ℕ) → labels ≤ m → next' s m ≡ None) →
      edges' ≡ edges ++ edges_at labels now.first 0 fresh →
      Stands next' meaning' limit width labels new edges' after
  round_taken edges' before after behind some one one_then same_place same_count same_nodes same_rows counted steps
      beyond followed =
      let long = targets_long width now.leads.items now.rows.items (length now.leads.items) in
      let more = grows.more in
      let few = grows.few in
      let even = flags_even width now.leads.items now.rows.items fresh nodes new is in
      let there = stands.there in
      let room = stands.room in
      let labelled = stands.labelled some in
      let behind_there = behind.there in
      let behind_few = behind.few in
      let behind_room = behind.room in
      let place : now.first + now.count ≡ after.first = sym (same_place ∙ behind.first) in
      let own = same_search next next' meaning meaning' limit nodes edges now.first 0 stands.searching same kept in
      let meant = read_meant next meaning limit width now.first now.count now.first 0 nodes edges now.nodes.items
      stands.searching stands.there stands.read in
      let own_steps = subst (λ (n : S → ℕ → Option S). AreRoundSteps n meaning' meaning' width labels now.nodes.items
      now.leads.items now.rows.items) (sym same) (steps_later next meaning meaning' meaning' width labels now.count
      now.nodes.items now.leads.items now.rows.items kept meant stands.counted (steps_kept next meaning meaning meaning'
      width labels now.nodes.items now.leads.items now.rows.items kept stands.steps)) in
      let search = joined next' meaning' limit width labels now.first now.count now.nodes.items now.leads.items
      now.rows.items fresh new (one (stands.one_node some)) own_steps stands.counted even beyond
      (length now.leads.items) 0 now.first 0 0 nodes edges (omega arith) (omega arith) (omega arith) labelled own is
      stands.read there room in
      let taken : AreRead width new after.first after.count after.nodes.items =
      rw (same_place, same_count, same_nodes) (λ (i : ℕ) (below : i < before.count).
      grows.same (before.first + i) (omega arith) ∙ behind.read i below) in
      let fits : after.count * labels ≡ before.count * labels = ap (λ (n : ℕ). n * labels) same_count in
      let after_meant = read_meant next meaning limit width before.first before.count now.first 0 nodes edges
      before.nodes.items stands.searching behind.there behind.read in
      let after_meant' : (i : ℕ) → i < after.count → IsSome (meaning (row_at width after.nodes.items i)) =
      rw (same_count, same_nodes) after_meant in
      record {
        few = omega arith;
        there = omega arith;
        labelled = λ here. behind.labelled (omega arith);
        room = omega arith;
        long = rw same_nodes behind.long;
        rows = same_rows ∙ behind.rows;
        read = taken;
        counted = counted;
        steps = steps_later next' meaning meaning' meaning' width labels after.count after.nodes.items
            after.leads.items after.rows.items kept after_meant' counted steps;
        one_node = one_then;
        searching = rw (followed, sym place) search;
      }
