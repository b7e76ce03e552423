-- Loops of the states that a search kept, found by a search that knows nothing of the graph.
use Rattle.std.proofs.Common.{◌≡◌, ℕ, ◌+◌, ◌<◌, List, length, take, ap, sym, ◌∙◌, refl, subst}
use Rattle.std.specs.Prelude.{Bool, true, Option, Some, None, option_map, slice_get}
use Rattle.std.proofs.Math.Path.{fun_ext}
use Rattle.std.proofs.lemmas.Option.{none-some, same_Some, slice_get_within}
use Rattle.cheri_model.specs.runs.Image.{ImageParts}
use Rattle.cheri_model.specs.runs.ImageRules.{is_image}
use Rattle.cheri_model.specs.runs.Machine.{MachineState}
use Rattle.explore_sights.specs.declared.sights.Sight.{Sight}
use Rattle.graph_loops.specs.Loops.{AreMeant, IsFair, IsLoop, StaysFound}
use Rattle.graph_search.specs.Trees.{Found, state_at}
use Rattle.graph_search.specs.Walks.{IsWalk}
use Rattle.loop_search.proofs.VerdictLemmas.{on_same}
use Rattle.loop_search.specs.declared.judging.FoundLoop.{FoundLoop}
use Rattle.loop_search.specs.declared.judging.Verdict.{Verdict}
use Rattle.loop_search.specs.declared.judging.Verdict.TheVariants as verdict
use Rattle.loop_search.specs.Verdicts.{AreDistinct, IsFoundFair, IsFoundLoop, IsVerdict}
use Rattle.state_store.proofs.NumberedLemmas.{map_some, then_some}
use Rattle.granule_states.specs.Graphs.{GranuleParts, Placed, placed, placed_in, placed_turn, start_in, state_in, turn_in}
use Rattle.granule_states.specs.Owned.{IsOwned, IsSame, at, owned_of}
use Rattle.granule_states.proofs.OwnedLemmas.{AreAlike, alike_placed, alike_to, owned_alike, placed_at, placed_one, search_alike, turns_alike}
use Rattle.granule_states.proofs.PlacedLemmas.{placed_edges}
use Rattle.granule_states.proofs.WithinLemmas.{found_in, found_out, walk_in, walk_out}

-- ---- a verdict on a graph whose states stand within those of another, where edges lead as they do there

module _ {S T : Type 0} (f : S → T) (one : (s t : S) → f s ≡ f t → s ≡ t)
    (next : S → ℕ → Option S) (wide : T → ℕ → Option T) (edges : (s : S) (l : ℕ) → wide (f s) l ≡ option_map f (next s l))
    (at : ℕ → Option S) (there : ℕ → Option T) (same : (i : ℕ) → there i ≡ option_map f (at i)) (actors : ℕ) where
  fair_in : (s : S) (ls : List ℕ) → IsFair wide actors (f s) ls → IsFair next actors s ls
  fair_in s ls fair m t low goes = fair m (f t) low (edges s m ∙ ap (option_map f) goes)

  fair_out : (s : S) (ls : List ℕ) → IsFair next actors s ls → IsFair wide actors (f s) ls
  fair_out s ls fair m t low goes =
      let to = map_some f (next s m) t (sym (edges s m) ∙ goes) in fair m to.0 low to.1

  -- a loop that was found, of a state of the graph within
  loop_in : (given : FoundLoop) → (t : T) → there given.node ≡ Some t → IsLoop wide actors t given.labels.items →
      StaysFound wide there t given.labels.items →
      (s : S) × (at given.node ≡ Some s) × IsLoop next actors s given.labels.items
      × StaysFound next at s given.labels.items × (f s ≡ t)
  loop_in given t is looped stayed =
      let s = map_some f (at given.node) t (sym (same given.node) ∙ is) in
      let ls = given.labels.items in
      let loop : IsLoop wide actors (f s.0) ls = subst (λ (x : T). IsLoop wide actors x ls) (sym s.2) looped in (
        s.0,
        s.1,
        (walk_in f one next wide edges ls s.0 s.0 loop.0, loop.1),
        λ n u walk.
            let out : IsWalk wide (f s.0) (take n ls) (f u) = walk_out f one next wide edges (take n ls) s.0 u walk in
            let stays = stayed n (f u) (subst (λ (x : T). IsWalk wide x (take n ls) (f u)) s.2 out) in
            (stays.0, found_in f one next wide edges at there same stays.0 u stays.1),
        s.2,
      )

  found_loop_in : (given : FoundLoop) → IsFoundLoop wide actors there given → IsFoundLoop next actors at given
  found_loop_in given h = let s = loop_in given h.0 h.1 h.2 h.3 in (s.0, s.1, s.2, s.3)

  found_fair_in : (given : FoundLoop) → IsFoundFair wide actors there given → IsFoundFair next actors at given
  found_fair_in given h =
      let s = loop_in given h.0 h.1 h.2 h.3 in (
        s.0,
        s.1,
        s.2,
        s.3,
        fair_in s.0 given.labels.items (subst (λ (x : T). IsFair wide actors x given.labels.items) (sym s.4) h.4),
      )

  loop_out : (s : S) (ls : List ℕ) → IsLoop next actors s ls → IsLoop wide actors (f s) ls
  loop_out s ls loop = (walk_out f one next wide edges ls s s loop.0, loop.1)

  pub verdict_within : (complete : Bool) (v : Verdict) → IsVerdict wide actors there complete v →
      IsVerdict next actors at complete v
  verdict_within complete (verdict.Fair given) h = found_fair_in given h
  verdict_within complete verdict.Unknown h = tt
  verdict_within complete (verdict.Unfair given) h = (
    h.0,
    λ i s ls is loop fair. h.1 i (f s) ls (found_out f one next wide edges at there same i s is) (loop_out s ls loop) (fair_out s ls fair),
    found_loop_in given h.2,
  )
  verdict_within complete verdict.NoLoop h = (
    h.0,
    λ i s ls is loop. h.1 i (f s) ls (found_out f one next wide edges at there same i s is) (loop_out s ls loop),
  )

-- ---- the states that were kept

placed_alike : (g h : GranuleParts) → AreAlike g h → (s : MachineState) → placed h s ≡ placed g s
placed_alike g h alike s =
    alike_to (λ (i : ImageParts) (x : Sight) (bs : List Bool). record { image = i; sight = x; shared = bs; state = s }) g h alike

map_alike : (g h : GranuleParts) → AreAlike g h → (o : Option MachineState) → option_map (placed h) o ≡ option_map (placed g) o
map_alike g h alike None = refl
map_alike g h alike (Some s) = ap (λ (p : Placed). Some p) (placed_alike g h alike s)

map_one : (g : GranuleParts) (o p : Option MachineState) → option_map (placed g) o ≡ option_map (placed g) p → o ≡ p
map_one g None None same = refl
map_one g None (Some t) same = absurd (none-some (placed g t) same)
map_one g (Some s) None same = absurd (none-some (placed g s) (sym same))
map_one g (Some s) (Some t) same =
    ap (λ (x : MachineState). Some x) (placed_one g s t (same_Some (placed g s) (placed g t) same))

module _ (g : GranuleParts) (found : Found) (limit : ℕ) (owned : Bool) (is : IsOwned g found limit owned) where
  pub placed_meant : AreMeant (state_at (placed_in g) found.nodes) (length found.nodes)
  unfolding AreMeant
  placed_meant i low =
      let s = is.search.meant i low in
      (placed g s.0, placed_at g found.nodes i ∙ ap (option_map (placed g)) s.1)

  pub placed_distinct : AreDistinct (state_at (placed_in g) found.nodes)
  unfolding AreDistinct
  placed_distinct i j p a b =
      let s = map_some (placed g) (state_at (state_in g) found.nodes i) p (sym (placed_at g found.nodes i) ∙ a) in
      let t = map_some (placed g) (state_at (state_in g) found.nodes j) p (sym (placed_at g found.nodes j) ∙ b) in
      is.search.distinct i j s.0 s.1
      (t.1 ∙ ap (λ (x : MachineState). Some x) (placed_one g t.0 s.0 (t.2 ∙ sym s.2)))

  -- a number that has a state is one of a node
  pub number_within : (number : ℕ) (s : MachineState) → state_at (state_in g) found.nodes number ≡ Some s →
      number < length found.nodes
  number_within number s there =
      let row = then_some (state_in g) (slice_get found.nodes number) s there in
      slice_get_within found.nodes number row.0 row.1

  -- the graph learned something
  module _ (h : GranuleParts) (states : state_at (placed_in h) found.nodes ≡ state_at (placed_in g) found.nodes) where
    pub learned_alike : AreAlike g h
    learned_alike =
        let there : state_at (placed_in h) found.nodes 0 ≡ Some (placed g (start_in g)) =
        ap (λ (a : ℕ → Option Placed). a 0) states
        ∙ (placed_at g found.nodes 0 ∙ ap (option_map (placed g)) is.search.first) in
        let row = then_some (placed_in h) (slice_get found.nodes 0) (placed g (start_in g)) there in
        let s = map_some (placed h) (state_in h row.0) (placed g (start_in g)) row.2 in
        alike_placed g h s.0 (start_in g) s.2

    at_same : (i : ℕ) → state_at (state_in g) found.nodes i ≡ state_at (state_in h) found.nodes i
    at_same i =
        map_one g (state_at (state_in g) found.nodes i) (state_at (state_in h) found.nodes i)
        (sym (placed_at g found.nodes i)
        ∙ (sym (ap (λ (a : ℕ → Option Placed). a i) states)
        ∙ (placed_at h found.nodes i ∙ map_alike g h learned_alike (state_at (state_in h) found.nodes i))))

    pub states_same : at (owned_of h found limit owned) ≡ at (owned_of g found limit owned)
    states_same = fun_ext (λ i. sym (at_same i))

    pub kept_again : IsOwned h found limit owned
    kept_again = record {
      formed = subst (λ (i : ImageParts). is_image i ≡ true) (sym learned_alike.image) is.formed;
      search = search_alike g h found limit learned_alike at_same is.search;
      wide = is.wide ∙ ap (λ (i : ImageParts). length i.harts + 1) (sym learned_alike.image);
      respected = λ holds. ((is.respected holds).0, owned_alike g h learned_alike (is.respected holds).1);
    }

    pub kept_same : IsSame (owned_of g found limit owned) (owned_of h found limit owned)
    kept_same = record {
      image = learned_alike.image;
      sight = learned_alike.sight;
      shared = learned_alike.shared;
      nodes = refl;
      edges = refl;
      limit = refl;
      finished = refl;
      complete = refl;
      states = states_same;
    }

    -- what a search for loops found, by turns
    pub verdict_kept : (actors : ℕ) (v : Verdict) → actors ≡ length g.graph.image.harts →
        IsVerdict (placed_turn (length g.graph.image.harts)) actors (state_at (placed_in g) found.nodes) found.complete v →
        IsVerdict (turn_in h) (length h.graph.image.harts) (at (owned_of h found limit owned)) found.complete v
    verdict_kept actors v count judged =
        let before : IsVerdict (turn_in g) actors (state_at (state_in g) found.nodes) found.complete v =
        verdict_within (placed g) (placed_one g) (turn_in g) (placed_turn (length g.graph.image.harts)) (placed_edges g)
        (state_at (state_in g) found.nodes) (state_at (placed_in g) found.nodes) (placed_at g found.nodes) actors found.complete v judged in
        let harts : actors ≡ length h.graph.image.harts =
        count ∙ ap (λ (i : ImageParts). length i.harts) (sym learned_alike.image) in
        subst (λ (n : ℕ). IsVerdict (turn_in h) n (at (owned_of h found limit owned)) found.complete v) harts
        (on_same (λ (f : MachineState → ℕ → Option MachineState) (a : ℕ → Option MachineState). IsVerdict f actors a found.complete v)
        (turn_in h) (turn_in g) (at (owned_of h found limit owned)) (at (owned_of g found limit owned))
        (sym (turns_alike g h learned_alike)) (sym states_same) before)
