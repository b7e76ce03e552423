-- Walks of a graph, and those between states that are chosen of the ones alike.
use Rattle.std.proofs.Common.{◌≡◌, ℕ, suc, length, List, [], ◌∷◌, refl, sym, ap, subst}
use Rattle.std.specs.Prelude.{Option, Some, option_map, unwrap_or, Bool, true}
use Rattle.std.proofs.lemmas.Option.{same_Some, option_and_then_some}
use Rattle.graph_merging.specs.Merging.{merged}
use Rattle.graph_merging.proofs.MergingLemmas.{merged_some, some_merged, walk_from}
use Rattle.graph_search.specs.Walks.{after, IsWalk}
use Rattle.hart_symmetry.specs.Symmetry.{IsSymmetry, Chooses, own_labels}

module _ {S : Type 0} (next : S → ℕ → Option S) (fits : S → Bool) (Alike : S → S → Type 0)
    (h : IsSymmetry next fits Alike) where
  -- as long a walk from a state, to one that is like this
  abbrev pub GoesBack : S → S → List ℕ → Type 0
  GoesBack s end ls = (ms : List ℕ) × (t : S) × IsWalk next s ms t × Alike t end × (length ms ≡ length ls)

  module _ (choose : S → S) (chooses : Chooses Alike choose) where
    -- a walk of chosen states from one that is like a state of the graph
    back : (s r end : S) (ls : List ℕ) → fits s ≡ true → Alike s r → IsWalk (merged next choose) r ls end →
        GoesBack s end ls
    back s r end [] fit alike walk =
        ([], s, refl, subst (λ (x : S). Alike s x) (same_Some r end walk) alike, refl)
    back s r end (l ∷ ls) fit alike walk =
        option_and_then_some (λ (x : S). after (merged next choose) x ls) (merged next choose r l) end walk (λ x goes rest.
        let step = merged_some choose (next r l) x goes in
        let own = h.edges r s step.0 l (h.fitting s r fit alike) (h.other s r alike) step.1 in
        let t = own.1 in
        let chosen : Alike step.0 x = subst (λ (y : S). Alike step.0 y) step.2 (chooses step.0) in
        let like = h.third t step.0 x (h.other step.0 t own.3) chosen in
        let tail = back t x end ls (h.keeps s t own.0 fit own.2) like rest in (
          own.0 ∷ tail.0,
          tail.1,
          walk_from next s t tail.1 own.0 tail.0 own.2 tail.2,
          tail.3,
          ap suc {x = length tail.0} tail.4,
        ))

    pub walk_back : (o end : S) (ls : List ℕ) → fits o ≡ true → IsWalk (merged next choose) (choose o) ls end →
        GoesBack o end ls
    walk_back o end ls fit walk = back o (choose o) end ls fit (chooses o) walk

    -- as long a walk of chosen states, to one that is like this
    abbrev pub GoesForth : S → S → List ℕ → Type 0
    GoesForth r end ms =
        (ls : List ℕ) × (x : S) × IsWalk (merged next choose) r ls x × Alike end x × (length ls ≡ length ms)

    forth : (s r end : S) (ms : List ℕ) → fits s ≡ true → Alike s r → IsWalk next s ms end → GoesForth r end ms
    forth s r end [] fit alike walk =
        ([], r, refl, subst (λ (x : S). Alike x r) (same_Some s end walk) alike, refl)
    forth s r end (m ∷ ms) fit alike walk =
        option_and_then_some (λ (x : S). after next x ms) (next s m) end walk (λ t goes rest.
        let own = h.edges s r t m fit alike goes in
        let y = own.1 in
        let tail = forth t (choose y) end ms (h.keeps s t m fit goes) (h.third t y (choose y) own.3 (chooses y)) rest in (
          own.0 ∷ tail.0,
          tail.1,
          walk_from (merged next choose) r (choose y) tail.1 own.0 tail.0 (some_merged next choose r y own.0 own.2) tail.2,
          tail.3,
          ap suc tail.4,
        ))

    pub walk_forth : (o end : S) (ms : List ℕ) → fits o ≡ true → IsWalk next o ms end → GoesForth (choose o) end ms
    walk_forth o end ms fit walk = forth o (choose o) end ms fit (chooses o) walk

  module _ (merge : S → S) (respects : (s t : S) → Alike s t → Alike (merge s) (merge t))
      (fitting : (s : S) → fits s ≡ true → fits (merge s) ≡ true) where
    merged_keeps : (s t : S) (l : ℕ) → fits s ≡ true → merged next merge s l ≡ Some t → fits t ≡ true
    merged_keeps s t l fit goes =
        let step = merged_some merge (next s l) t goes in
        subst (λ (x : S). fits x ≡ true) step.2 (fitting step.0 (h.keeps s step.0 l fit step.1))

    merged_edges : (s t x : S) (l : ℕ) → fits s ≡ true → Alike s t → merged next merge s l ≡ Some x →
        (m : ℕ) × (y : S) × (merged next merge t m ≡ Some y) × Alike x y
    merged_edges s t x l fit alike goes =
        let step = merged_some merge (next s l) x goes in
        let own = h.edges s t step.0 l fit alike step.1 in (
          own.0,
          merge own.1,
          some_merged next merge t own.1 own.0 own.2,
          subst (λ (z : S). Alike z (merge own.1)) step.2 (respects step.0 own.1 own.3),
        )

    -- edges that lead on by such a function have the same symmetry
    pub merged_symmetry : IsSymmetry (merged next merge) fits Alike
    merged_symmetry = record {
      keeps = merged_keeps;
      fitting = h.fitting;
      itself = h.itself;
      other = h.other;
      third = h.third;
      edges = merged_edges;
    }

-- the same where it is known how one state is the other
module _ {S : Type 0} (next : S → ℕ → Option S) (fits : S → Bool) (By : (ℕ → ℕ) → S → S → Type 0)
    (keeps : (s t : S) (l : ℕ) → fits s ≡ true → next s l ≡ Some t → fits t ≡ true)
    (after_both : (p q : ℕ → ℕ) (s t u : S) → By p s t → By q t u → By (λ i. p (q i)) s u)
    (edges : (p : ℕ → ℕ) (s t y : S) (l : ℕ) → fits s ≡ true → By p s t → next t l ≡ Some y →
    (x : S) × (next s (p l) ≡ Some x) × By p x y)
    (choose : S → S) (from : S → ℕ → ℕ) (chooses : (s : S) → By (from s) s (choose s)) where
  abbrev own : (ℕ → ℕ) → S → List ℕ → List ℕ
  own p r ls = own_labels next choose from p r ls

  -- a walk by these labels, to a state of which this is one with its harts in some order
  abbrev pub GoesOwn : S → S → List ℕ → Type 0
  GoesOwn s end ms = (t : S) × (q : ℕ → ℕ) × IsWalk next s ms t × By q t end

  own_walk : (p : ℕ → ℕ) (s r end : S) (ls : List ℕ) → fits s ≡ true → By p s r →
      IsWalk (merged next choose) r ls end → GoesOwn s end (own p r ls)
  unfolding own_labels
  own_walk p s r end [] fit by walk = (s, p, refl, subst (λ (x : S). By p s x) (same_Some r end walk) by)
  own_walk p s r end (l ∷ ls) fit by walk =
      option_and_then_some (λ (x : S). after (merged next choose) x ls) (merged next choose r l) end walk (λ x goes rest.
      let step = merged_some choose (next r l) x goes in
      let y = step.0 in
      let edge = edges p s r y l fit by step.1 in
      let q : ℕ → ℕ = λ i. p (from y i) in
      let tail = own_walk q edge.0 (choose y) end ls (keeps s edge.0 (p l) fit edge.1)
      (after_both p (from y) edge.0 y (choose y) edge.2 (chooses y))
      (subst (λ (z : S). IsWalk (merged next choose) z ls end) (sym step.2) rest) in
      let labels : Option S → List ℕ = λ o.
      unwrap_or (option_map (λ z. own (λ i. p (from z i)) (choose z) ls) o) [] in (
        tail.0,
        tail.1,
        subst (λ (ms : List ℕ). IsWalk next s (p l ∷ ms) tail.0) (sym (ap labels step.1))
            (walk_from next s edge.0 tail.0 (p l) (own q (choose y) ls) edge.1 tail.2),
        tail.3,
      ))

  pub walk_own : (o end : S) (ls : List ℕ) → fits o ≡ true → IsWalk (merged next choose) (choose o) ls end →
      GoesOwn o end (own (from o) (choose o) ls)
  walk_own o end ls fit walk = own_walk (from o) o (choose o) end ls fit (chooses o) walk
