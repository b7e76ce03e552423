-- A search of a graph whose states stand within those of another, where edges lead as they do there.
use Rattle.std.proofs.Common.{◌≡◌, ℕ, List, [], ◌∷◌, reverse, ap, sym, ◌∙◌, refl}
use Rattle.std.specs.Prelude.{Option, Some, None, Bool, option_map, option_and_then}
use Rattle.graph_search.specs.declared.edges.Edge.{Edge}
use Rattle.graph_search.specs.Searches.{IsExplored}
use Rattle.graph_search.specs.Walks.{IsWalk, IsWitness, after}
use Rattle.state_store.proofs.NumberedLemmas.{map_some}

module _ {S T : Type 0} (f : S → T) (one : (s t : S) → f s ≡ f t → s ≡ t)
    (next : S → ℕ → Option S) (wide : T → ℕ → Option T) (edges : (s : S) (l : ℕ) → wide (f s) l ≡ option_map f (next s l)) where
  mapped : (ls : List ℕ) (o : Option S) → ((s : S) → after wide (f s) ls ≡ option_map f (after next s ls)) →
      option_and_then (λ (t : T). after wide t ls) (option_map f o) ≡ option_map f (option_and_then (λ (s : S). after next s ls) o)
  mapped ls None rest = refl
  mapped ls (Some s) rest = rest s

  walks : (ls : List ℕ) (s : S) → after wide (f s) ls ≡ option_map f (after next s ls)
  walks [] s = refl
  walks (l ∷ ls) s =
      ap (λ (o : Option T). option_and_then (λ (t : T). after wide t ls) o) (edges s l)
      ∙ mapped ls (next s l) (λ t. walks ls t)

  some_within : (o : Option S) (s : S) → option_map f o ≡ Some (f s) → o ≡ Some s
  some_within o s is =
      let found = map_some f o (f s) is in
      found.1 ∙ ap (λ (x : S). Some x) (one found.0 s found.2)

  pub walk_in : (ls : List ℕ) (s t : S) → IsWalk wide (f s) ls (f t) → IsWalk next s ls t
  walk_in ls s t walk = some_within (after next s ls) t (sym (walks ls s) ∙ walk)

  pub walk_out : (ls : List ℕ) (s t : S) → IsWalk next s ls t → IsWalk wide (f s) ls (f t)
  walk_out ls s t walk = walks ls s ∙ ap (option_map f) walk

  witness_in : (ls : List ℕ) (s t : S) → IsWitness wide (f s) (f t) ls → IsWitness next s t ls
  witness_in ls s t is = (walk_in ls s t is.0, λ ms walk. is.1 ms (walk_out ms s t walk))

  witness_out : (ls : List ℕ) (s t : S) → IsWitness next s t ls → IsWitness wide (f s) (f t) ls
  witness_out ls s t is = (walk_out ls s t is.0, λ ms walk. is.1 ms (walk_in ms s t walk))

  module _ (at : ℕ → Option S) (there : ℕ → Option T) (same : (i : ℕ) → there i ≡ option_map f (at i)) where
    pub found_out : (i : ℕ) (s : S) → at i ≡ Some s → there i ≡ Some (f s)
    found_out i s is = same i ∙ ap (option_map f) is

    pub found_in : (i : ℕ) (s : S) → there i ≡ Some (f s) → at i ≡ Some s
    found_in i s is = some_within (at i) s (sym (same i) ∙ is)

    pub explored_within : (start : S) (limit : ℕ) (edge : ℕ → Edge) (count : ℕ) (finished : Bool) →
        IsExplored wide (f start) limit there edge count finished → IsExplored next start limit at edge count finished
    explored_within start limit edge count finished is = record {
      first = found_in 0 start is.first;
      within = is.within;
      meant = λ i low.
          let t = is.meant i low in
          let s = map_some f (at i) t.0 (sym (same i) ∙ t.1) in (s.0, s.1);
      distinct = λ i j s a b. is.distinct i j (f s) (found_out i s a) (found_out j s b);
      sound = λ s found.
          let walk = is.sound (f s) (found.0, found_out found.0 s found.1) in
          (walk.0, walk_in walk.0 start s walk.1);
      witnessed = λ i s ls a trace. witness_in (reverse ls) start s (is.witnessed i (f s) ls (found_out i s a) trace);
      complete = λ done s walk.
          let found = is.complete done (f s) (walk.0, walk_out walk.0 start s walk.1) in
          (found.0, found_in found.0 s found.1);
      full = is.full;
      more = λ cut.
          let t = is.more cut in
          let s = map_some f (after next start t.1.0) t.0 (sym (walks t.1.0 start) ∙ t.1.1) in (
            s.0,
            (t.1.0, s.1),
            λ i a. t.2 i (found_out i s.0 a ∙ ap (λ (x : T). Some x) s.2),
          );
      ordered = λ i j s t ls ms low a b one other.
          is.ordered i j (f s) (f t) ls ms low (found_out i s a) (found_out j t b) (witness_out ls start s one)
          (witness_out ms start t other);
      before_others = λ i s t ls ms a is_least walk none.
          is.before_others i (f s) (f t) ls ms (found_out i s a) (witness_out ls start s is_least) (walk_out ms start t walk)
          (λ j b. none j (found_in j t b));
    }
