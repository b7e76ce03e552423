-- The edges between the nodes that a search found.
use Rattle.std.proofs.Common.{◌≡◌, ℕ, ◌<◌, Bool, false, List, [], length, get_or, drop, Result, Ok, Err, IfOk, ap, sym, ◌∙◌, subst}
use Rattle.std.specs.Prelude.{Option, Some, None, IsSome, IfSome, true, option_and_then, slice_get}
use Rattle.std.proofs.lemmas.Option.{slice_get-get_or, slice_get_within}
use Rattle.graph_search.specs.Graphs.{LeadsTo}
use Rattle.graph_search.specs.Trees.{state_at}
use Rattle.graph_search.proofs.TreeLemmas.{same_states, node_means}
use Rattle.graph_loops.specs.Loops.{AreMeant}
use Rattle.graph_loops.proofs.ScanLemmas.{meant_node}

pub meant_row : {S : Type 0} (meaning : List ℕ → Option S) (nodes : List (List ℕ)) (f : ℕ) (row : List ℕ) →
    AreMeant (state_at meaning nodes) (length nodes) → f < length nodes → slice_get nodes f ≡ Some row →
    IsSome (meaning row)
unfolding AreMeant
meant_row {S} meaning nodes f row meant below here = meant_node meaning nodes f row (meant f below) here

-- a step of the graph that keeps meanings
module _ {S : Type 0} (meaning meaning' : List ℕ → Option S) (nodes : List (List ℕ))
    (kept : (n : List ℕ) (s : S) → meaning n ≡ Some s → meaning' n ≡ Some s)
    (meant : AreMeant (state_at meaning nodes) (length nodes)) where
  pub states_kept : state_at meaning' nodes ≡ state_at meaning nodes
  unfolding AreMeant
  states_kept = sym (same_states meaning meaning' nodes kept meant)

  pub meant_kept : AreMeant (state_at meaning' nodes) (length nodes)
  meant_kept = subst (λ (at : ℕ → Option S). AreMeant at (length nodes)) (sym states_kept) meant

  -- where it leads, if that was found
  pub target_is : (next : S → ℕ → Option S) (f l : ℕ) (row to : List ℕ) → slice_get nodes f ≡ Some row →
      ((s : S) → meaning row ≡ Some s → LeadsTo meaning' true to (next s l)) →
      (o : Option ℕ) → IfSome o (λ (n : ℕ). slice_get nodes n ≡ Some to) →
      IfSome o (λ (n : ℕ). (s : S) → state_at meaning nodes f ≡ Some s → next s l ≡ state_at meaning nodes n)
  target_is next f l row to from leads None found = tt
  target_is next f l row to from leads (Some n) found = λ s is.
      let led = leads s (node_means meaning nodes f row s from is) in
      sym led.1 ∙ (sym (ap (λ (o : Option (List ℕ)). option_and_then meaning' o) found)
      ∙ ap (λ (at : ℕ → Option S). at n) states_kept)

pub target_there : (nodes : List (List ℕ)) (to : List ℕ) (o : Option ℕ) →
    IfSome o (λ (n : ℕ). slice_get nodes n ≡ Some to) → IfSome o (λ (n : ℕ). n < length nodes)
target_there nodes to None found = tt
target_there nodes to (Some n) found = slice_get_within nodes n to found

-- the node behind the first numbers of a room was found
pub target_found : (nodes : List (List ℕ)) (to width width' : ℕ) (rows : List ℕ) →
    slice_get nodes to ≡ Some (drop width rows) → width ≡ width' → slice_get nodes to ≡ Some (drop width' rows)
target_found nodes to width width' rows is same = is ∙ ap (λ w. Some (drop w rows)) same

pub targets_found : (nodes : List (List ℕ)) (o : Option ℕ) (width width' : ℕ) (rows : List ℕ) →
    IfSome o (λ (to : ℕ). slice_get nodes to ≡ Some (drop width rows)) → width ≡ width' →
    IfSome o (λ (to : ℕ). slice_get nodes to ≡ Some (drop width' rows))
targets_found nodes None width width' rows is same = is
targets_found nodes (Some to) width width' rows is same = target_found nodes to width width' rows is same

-- a step along an edge of a node that was found
module _ {S : Type 0} (meaning meaning' : List ℕ → Option S) (next : S → ℕ → Option S) (nodes : List (List ℕ))
    (f l : ℕ) (to : List ℕ) (below : f < length nodes) where
  led : (leads : Bool) → ((row : List ℕ) (s : S) → slice_get nodes f ≡ Some row → meaning row ≡ Some s →
      LeadsTo meaning' leads to (next s l)) → (s : S) → state_at meaning nodes f ≡ Some s →
      LeadsTo meaning' leads to (next s l)
  led leads value s is =
      let row = get_or nodes f [] in
      let here = slice_get-get_or nodes f [] below in
      value row s here (node_means meaning nodes f row s here is)

  pub edge_there : {E : Type 0} (result : Result Bool E) →
      IfOk result (λ leads. (row : List ℕ) (s : S) → slice_get nodes f ≡ Some row → meaning row ≡ Some s →
      LeadsTo meaning' leads to (next s l)) →
      IfOk result (λ leads. leads ≡ true → (s : S) → state_at meaning nodes f ≡ Some s → IsSome (next s l))
  edge_there (Ok leads) value = λ is s at.
      (subst (λ (b : Bool). LeadsTo meaning' b to (next s l)) is (led leads value s at)).0
  edge_there (Err fault) value = value

  pub no_edge_there : {E : Type 0} (result : Result Bool E) →
      IfOk result (λ leads. (row : List ℕ) (s : S) → slice_get nodes f ≡ Some row → meaning row ≡ Some s →
      LeadsTo meaning' leads to (next s l)) →
      IfOk result (λ leads. leads ≡ false → (s : S) → state_at meaning nodes f ≡ Some s → next s l ≡ None)
  no_edge_there (Ok leads) value = λ is s at.
      subst (λ (b : Bool). LeadsTo meaning' b to (next s l)) is (led leads value s at)
  no_edge_there (Err fault) value = value
