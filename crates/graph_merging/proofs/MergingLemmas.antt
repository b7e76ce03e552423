-- Walks and loops of a graph, and of the states that stand for others.
use Rattle.std.proofs.Common.{◌≡◌, ◌≢◌, ℕ, ◌<◌, ◌≤◌, List, [], ◌∷◌, ◌++◌, arith, ap, sym, ◌∙◌, refl, inl, inr, ◌⊎◌, subst}
use Rattle.std.specs.Prelude.{Option, Some, None, option_and_then, option_map, Bool, true}
use Rattle.std.proofs.lemmas.Bool.{cases_eq}
use Rattle.std.proofs.lemmas.Option.{none-some, same_Some, option_and_then_some}
use Rattle.graph_search.specs.Walks.{after, IsWalk, IsReachable}
use Rattle.graph_loops.specs.Loops.{Takes, IsLoop, IsFair}
use Rattle.graph_merging.specs.Merging.{merged, Stays, IsMerging}

-- two walks make one
pub walk_on : {S : Type 0} (next : S → ℕ → Option S) (s t u : S) (ls ms : List ℕ) → IsWalk next s ls t →
    IsWalk next t ms u → IsWalk next s (ls ++ ms) u
walk_on {S} next s t u [] ms one two = subst (λ (x : S). IsWalk next x ms u) (sym (same_Some s t one)) two
walk_on {S} next s t u (l ∷ ls) ms one two =
    option_and_then_some (λ (x : S). after next x ls) (next s l) t one (λ x goes rest.
    ap (λ (o : Option S). option_and_then (λ (y : S). after next y (ls ++ ms)) o) goes
    ∙ walk_on next x t u ls ms rest two)

-- a walk with one edge before it
pub walk_from : {S : Type 0} (next : S → ℕ → Option S) (s t u : S) (l : ℕ) (ls : List ℕ) → next s l ≡ Some t →
    IsWalk next t ls u → IsWalk next s (l ∷ ls) u
walk_from {S} next s t u l ls goes rest =
    ap (λ (o : Option S). option_and_then (λ (y : S). after next y ls) o) goes ∙ rest

takes_more : (ls ms : List ℕ) (m : ℕ) → Takes ms m → Takes (ls ++ ms) m
takes_more [] ms m takes = takes
takes_more (l ∷ ls) ms m takes = inr (takes_more ls ms m takes)

-- an edge between states that stand for others is an edge of the graph
pub merged_some : {S : Type 0} (merge : S → S) (o : Option S) (r : S) → option_map merge o ≡ Some r →
    (t : S) × (o ≡ Some t) × (merge t ≡ r)
merged_some {S} merge None r is = absurd (none-some r is)
merged_some {S} merge (Some t) r is = (t, refl, same_Some (merge t) r is)

pub some_merged : {S : Type 0} (next : S → ℕ → Option S) (merge : S → S) (s t : S) (l : ℕ) → next s l ≡ Some t →
    merged next merge s l ≡ Some (merge t)
some_merged next merge s t l is = ap (option_map merge) is

-- a fair loop of what stands for others is a fair one of the graph
pub fair_kept : {S : Type 0} (next : S → ℕ → Option S) (actors : ℕ) (merge : S → S) (r : S) (ls ms : List ℕ) →
    IsFair (merged next merge) actors r ls → ((m : ℕ) → Takes ls m → Takes ms m) → IsFair next actors r ms
fair_kept next actors merge r ls ms fair all m t low goes =
    all m (fair m (merge t) low (some_merged next merge r t m goes))

-- where edges lead to states that pass a test, walks do
pub walk_fits : {S : Type 0} (next : S → ℕ → Option S) (fits : S → Bool) →
    ((s t : S) (l : ℕ) → fits s ≡ true → next s l ≡ Some t → fits t ≡ true) →
    (s t : S) (ls : List ℕ) → fits s ≡ true → IsWalk next s ls t → fits t ≡ true
walk_fits {S} next fits keeps s t [] fit walk = subst (λ (x : S). fits x ≡ true) (same_Some s t walk) fit
walk_fits {S} next fits keeps s t (l ∷ ls) fit walk =
    option_and_then_some (λ (x : S). after next x ls) (next s l) t walk (λ x goes rest.
    walk_fits next fits keeps x t ls (keeps s x l fit goes) rest)

module _ {S : Type 0} (next : S → ℕ → Option S) (actors : ℕ) (fits : S → Bool) (merge : S → S) (to_go : S → ℕ → ℕ)
    (h : IsMerging next actors fits merge to_go) where
  merge_fits : (s : S) → fits s ≡ true → fits (merge s) ≡ true
  merge_fits s fit = let way = h.leads s fit in walk_fits next fits h.keeps s (merge s) way.0 fit way.1

  -- a walk between states that stand for others is one of the graph, with steps between
  back : (r t : S) (ls : List ℕ) → fits r ≡ true → IsWalk (merged next merge) r ls t →
      (ms : List ℕ) × IsWalk next r ms t × ((m : ℕ) → Takes ls m → Takes ms m)
  back r t [] fit walk = ([], walk, λ m takes. absurd takes)
  back r t (l ∷ ls) fit walk =
      option_and_then_some (λ (x : S). after (merged next merge) x ls) (merged next merge r l) t walk (λ x goes rest.
      let step = merged_some merge (next r l) x goes in
      let there = h.keeps r step.0 l fit step.1 in
      let way = h.leads step.0 there in
      let tail = back x t ls (subst (λ (y : S). fits y ≡ true) step.2 (merge_fits step.0 there)) rest in
      let on = subst (λ (y : S). IsWalk next step.0 way.0 y) step.2 way.1 in (
        l ∷ (way.0 ++ tail.0),
        walk_from next r step.0 t l (way.0 ++ tail.0) step.1
            (walk_on next step.0 x t way.0 tail.0 on tail.1),
        λ m takes. elim takes [
          | inl here ↦ inl here
          | inr later ↦ inr (takes_more way.0 tail.0 m (tail.2 m later))
        ],
      ))

  pub kept_reachable : (o r : S) → fits o ≡ true → IsReachable (merged next merge) (merge o) r → IsReachable next o r
  kept_reachable o r fit reachable =
      let way = h.leads o fit in
      let walk = back (merge o) r reachable.0 (merge_fits o fit) reachable.1 in
      (way.0 ++ walk.0, walk_on next o (merge o) r way.0 walk.0 way.1 walk.1)

  -- where a walk is followed, an actor takes an edge between the states that stand for others, too, or
  -- has no more to go at its end, and less if it is of the walk
  abbrev Follows : List ℕ → List ℕ → S → S → ℕ → Type 0
  Follows ls ms s t m = Takes ms m ⊎ ((to_go t m ≤ to_go s m) × (Takes ls m → to_go t m < to_go s m))

  follows_stay : (s x t : S) (l m : ℕ) (ls ms : List ℕ) → fits s ≡ true → m < actors → next s l ≡ Some x →
      to_go x l < to_go s l → Follows ls ms x t m → Follows (l ∷ ls) ms s t m
  follows_stay s x t l m ls ms fit low goes less tail = elim tail [
    | inl takes ↦ inl takes
    | inr rest ↦
        let no_less = rest.0 in
        elim (cases_eq l m) [
          | inl same ↦
              let fewer : to_go x m < to_go s m = subst (λ (k : ℕ). to_go x k < to_go s k) same less in
              inr (omega arith, λ takes. omega arith)
          | inr other ↦
              let no_more : to_go x m ≤ to_go s m = h.falls s x l m fit goes low (λ same. other (sym same)) in
              inr (
                omega arith,
                λ takes. elim takes [
                  | inl here ↦ absurd (other here)
                  | inr later ↦ let fewer = rest.1 later in omega arith
                ],
              )
        ]
  ]

  follows_edge : (s x t : S) (l m : ℕ) (ls ms : List ℕ) → fits s ≡ true → m < actors → next s l ≡ Some x →
      Follows ls ms x t m → Follows (l ∷ ls) (l ∷ ms) s t m
  follows_edge s x t l m ls ms fit low goes tail = elim (cases_eq l m) [
    | inl same ↦ inl (inl same)
    | inr other ↦ elim tail [
      | inl takes ↦ inl (inr takes)
      | inr rest ↦
          let no_less = rest.0 in
          let no_more : to_go x m ≤ to_go s m = h.falls s x l m fit goes low (λ same. other (sym same)) in
          inr (
            omega arith,
            λ takes. elim takes [
              | inl here ↦ absurd (other here)
              | inr later ↦ let fewer = rest.1 later in omega arith
            ],
          )
    ]
  ]

  -- a walk of the graph leads between the states that stand for its ends
  forward : (s t : S) (ls : List ℕ) → fits s ≡ true → IsWalk next s ls t →
      (ms : List ℕ) × IsWalk (merged next merge) (merge s) ms (merge t)
      × ((m : ℕ) → m < actors → Follows ls ms s t m)
  forward s t [] fit walk =
      let same : s ≡ t = same_Some s t walk in (
        [],
        ap (λ (x : S). Some (merge x)) same,
        λ m low.
            let even : to_go s m ≡ to_go t m = ap (λ (x : S). to_go x m) same in
            inr (omega arith, λ takes. absurd takes),
      )
  forward s t (l ∷ ls) fit walk =
      option_and_then_some (λ (x : S). after next x ls) (next s l) t walk (λ x goes rest.
      let tail = forward x t ls (h.keeps s x l fit goes) rest in
      elim (h.forth s x l fit goes) [
        | inl stays ↦ (
          tail.0,
          subst (λ (y : S). IsWalk (merged next merge) y tail.0 (merge t)) stays.1 tail.1,
          λ m low. follows_stay s x t l m ls tail.0 fit low goes stays.2 (tail.2 m low),
        )
        | inr edge ↦ (
          l ∷ tail.0,
          walk_from (merged next merge) (merge s) (merge x) (merge t) l tail.0
              (some_merged next merge (merge s) edge.0 l edge.1 ∙ ap (λ (y : S). Some y) edge.2) tail.1,
          λ m low. follows_edge s x t l m ls tail.0 fit low goes (tail.2 m low),
        )
      ])

  pub found_reachable : (o s : S) → fits o ≡ true → IsReachable next o s →
      IsReachable (merged next merge) (merge o) (merge s)
  found_reachable o s fit reachable =
      let walk = forward o s reachable.0 fit reachable.1 in
      (walk.0, walk.1)

  -- a loop of what stands for others is one of the graph, of all its actors
  pub loops_kept : (r : S) (ls : List ℕ) → fits r ≡ true → IsLoop (merged next merge) actors r ls →
      (ms : List ℕ) × IsLoop next actors r ms × ((m : ℕ) → Takes ls m → Takes ms m)
  loops_kept r ls fit loop =
      let walk = back r r ls fit loop.0 in
      let actor = loop.1 in
      (walk.0, (walk.1, (actor.0, actor.1, walk.2 actor.0 actor.2)), walk.2)

  -- a loop of the graph is one of what stands for its state, of all its actors
  pub loops_found : (s : S) (ls : List ℕ) → fits s ≡ true → IsLoop next actors s ls →
      (ms : List ℕ) × IsLoop (merged next merge) actors (merge s) ms
      × ((m : ℕ) → m < actors → Takes ls m → Takes ms m)
  loops_found s ls fit loop =
      let walk = forward s s ls fit loop.0 in
      let actor = loop.1 in
      let all : (m : ℕ) → m < actors → Takes ls m → Takes walk.0 m = λ m low takes. elim (walk.2 m low) [
        | inl there ↦ there
        | inr rest ↦ let less = rest.1 takes in absurd (omega arith)
      ] in
      (walk.0, (walk.1, (actor.0, actor.1, all actor.0 actor.1 actor.2)), all)

  pub fair_found : (s : S) (ls ms : List ℕ) → fits s ≡ true → IsFair next actors s ls →
      ((m : ℕ) → m < actors → Takes ls m → Takes ms m) → IsFair (merged next merge) actors (merge s) ms
  fair_found s ls ms fit fair all m t low goes =
      let step = merged_some merge (next (merge s) m) t goes in
      let own = h.still s step.0 m fit step.1 low in
      all m low (fair m own.0 low own.1)
