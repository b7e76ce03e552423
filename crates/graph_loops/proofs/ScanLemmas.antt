-- How a scan goes on.
use Rattle.std.proofs.Common.{◌≡◌, ℕ, suc, ◌+◌, ◌*◌, ◌<◌, ◌≤◌, List, length, get_or, set, arith, ap, sym, ◌∙◌, refl, inl, inr, subst, get_or-set_same, get_or-set_other, length-set}
use Rattle.std.specs.Prelude.{Option, Some, None, IsSome, Bool, true, false, option_and_then, slice_get, slice_index}
use Rattle.std.proofs.Math.Nat.{mul-le-mul_right, suc-mul}
use Rattle.std.proofs.lemmas.Bool.{cases_lt, cases_eq}
use Rattle.std.proofs.lemmas.Option.{none-some, slice_get_within}
use Rattle.graph_search.specs.Graphs.{LeadsTo}
use Rattle.graph_search.specs.Trees.{state_at}
use Rattle.graph_search.specs.Searches.{IsEarlier}
use Rattle.graph_search.proofs.TreeLemmas.{same_states, node_means, some_of, row_of}
use Rattle.graph_search.proofs.SearchLemmas.{earlier_cases}
use Rattle.graph_loops.specs.declared.scans.Loops.TheVariants.{NoLoop, Unfair}
use Rattle.graph_loops.specs.Loops.{IsKnown}
use Rattle.graph_loops.specs.Scans.{IsScanned, IsScanning, ScansTo, IsStarved, entry}
use Rattle.graph_loops.proofs.LoopLemmas.{no_loop, no_fair_loop}

-- one edge more was looked at
pub scanned_more : {S : Type 0} (next : S → ℕ → Option S) (at : ℕ → Option S) (number : ℕ → ℕ) (actors : ℕ)
    (moves runs moves' runs' : ℕ → ℕ → Bool) (f l : ℕ) → IsScanned next at number actors moves runs f l →
    ((n m : ℕ) → moves n m ≡ true → moves' n m ≡ true) →
    ((n m : ℕ) → runs n m ≡ false → runs' n m ≡ false) →
    ((s t : S) → at f ≡ Some s → next s l ≡ Some t → (j : ℕ) × (at j ≡ Some t) × (number j ≤ number f)
    × (number j ≡ number f → l < actors → moves' (number f) l ≡ true)) →
    ((s : S) → l < actors → at f ≡ Some s → next s l ≡ None → runs' (number f) l ≡ false) →
    IsScanned next at number actors moves' runs' f (l + 1)
scanned_more {S} next at number actors moves runs moves' runs' f l h moved ran goes rests = record {
  falls = λ i m s t earlier is leads. elim (earlier_cases i m f l earlier) [
    | inl before ↦
        let old = h.falls i m s t before is leads in
        (old.0, old.1, old.2, λ same low. moved (number i) m (old.3 same low))
    | inr last ↦
        let new = goes s t (subst (λ (k : ℕ). at k ≡ Some s) last.0 is)
        (subst (λ (k : ℕ). next s k ≡ Some t) last.1 leads) in
        subst (λ (k : ℕ). (j : ℕ) × (at j ≡ Some t) × (number j ≤ number k)
        × (number j ≡ number k → m < actors → moves' (number k) m ≡ true)) (sym last.0)
        (subst (λ (k : ℕ). (j : ℕ) × (at j ≡ Some t) × (number j ≤ number f)
        × (number j ≡ number f → k < actors → moves' (number f) k ≡ true)) (sym last.1) new)
  ];
  idle = λ i m s earlier low is none. elim (earlier_cases i m f l earlier) [
    | inl before ↦ ran (number i) m (h.idle i m s before low is none)
    | inr last ↦
        subst (λ (k : ℕ). runs' (number k) m ≡ false) (sym last.0)
        (subst (λ (k : ℕ). runs' (number f) k ≡ false) (sym last.1)
        (rests s (subst (λ (k : ℕ). k < actors) last.1 low) (subst (λ (k : ℕ). at k ≡ Some s) last.0 is)
        (subst (λ (k : ℕ). next s k ≡ None) last.1 none)))
  ];
}

-- all edges of a node were looked at
pub scanned_node : {S : Type 0} (next : S → ℕ → Option S) (at : ℕ → Option S) (number : ℕ → ℕ) (actors : ℕ)
    (moves runs : ℕ → ℕ → Bool) (f l : ℕ) → IsScanned next at number actors moves runs f l → actors ≤ l →
    ((s : S) (m : ℕ) → l ≤ m → next s m ≡ None) → IsScanned next at number actors moves runs (f + 1) 0
scanned_node {S} next at number actors moves runs f l h all beyond =
    let before : (i m : ℕ) → IsEarlier i m (f + 1) 0 → m < l → IsEarlier i m f l = λ i m earlier low.
    let in_order : i ≤ f + 1 = earlier.0 in
    elim (cases_eq i (f + 1)) [
      | inl same ↦ let none : m < 0 = earlier.1 same in absurd (omega arith)
      | inr other ↦ (omega arith, λ _. low)
    ] in
    record {
      falls = λ i m s t earlier is leads. elim (cases_lt m l) [
        | inl low ↦ h.falls i m s t (before i m earlier low) is leads
        | inr high ↦ absurd (none-some t (sym (beyond s m high) ∙ leads))
      ];
      idle = λ i m s earlier low is none. h.idle i m s (before i m earlier (omega arith)) low is none;
    }

-- states are what they were, wherever a scan ended
pub scans_states : {S : Type 0} (next : S → ℕ → Option S) (meaning meaning' : List ℕ → Option S) (actors : ℕ)
    (nodes : List (List ℕ)) (numbers : List ℕ) (f l : ℕ) (moves runs : List Bool) (b : Bool) →
    ScansTo next meaning meaning' actors nodes numbers f l moves runs b →
    state_at meaning' nodes ≡ state_at meaning nodes
scans_states {S} next meaning meaning' actors nodes numbers f l moves runs true h = h.0
scans_states {S} next meaning meaning' actors nodes numbers f l moves runs false h = h

-- a write of a table's own value keeps what has that value
set_keeps : (table : List Bool) (p : ℕ) (b : Bool) (k : ℕ) → p < length table → get_or table k false ≡ b →
    get_or (set table p b) k false ≡ b
set_keeps table p b k below is = elim (cases_eq k p) [
  | inl same ↦ ap (λ (n : ℕ). get_or (set table p b) n false) same ∙ get_or-set_same table p b false below
  | inr other ↦ get_or-set_other table p k b false other ∙ is
]

-- A node's edge with a label was looked at, in a step of the graph that may have given meanings to rows.
module _ {S : Type 0} (next next' : S → ℕ → Option S) (meaning meaning' : List ℕ → Option S) (actors : ℕ)
    (nodes : List (List ℕ)) (numbers : List ℕ) (moves runs : List Bool) (f l : ℕ)
    (h : IsScanning next meaning actors nodes numbers moves runs f l)
    (same : next' ≡ next) (kept : (n : List ℕ) (s : S) → meaning n ≡ Some s → meaning' n ≡ Some s)
    (below : f < length nodes) (node to : List ℕ) (here : slice_get nodes f ≡ Some node) (leads : Bool)
    (value : (s : S) → meaning node ≡ Some s → LeadsTo meaning' leads to (next s l)) where
  states : state_at meaning nodes ≡ state_at meaning' nodes
  states = same_states meaning meaning' nodes kept h.meant

  scanned_before : IsScanned next' (state_at meaning' nodes) (slice_index numbers) actors (entry moves actors)
      (entry runs actors) f l
  scanned_before =
      subst (λ (n : S → ℕ → Option S). IsScanned n (state_at meaning' nodes) (slice_index numbers) actors
      (entry moves actors) (entry runs actors) f l) (sym same)
      (subst (λ (at : ℕ → Option S). IsScanned next at (slice_index numbers) actors
      (entry moves actors) (entry runs actors) f l) states h.scanned)

  -- what the edge of the node's state leads to
  leads_of : (s : S) → state_at meaning' nodes f ≡ Some s → LeadsTo meaning' leads to (next' s l)
  leads_of s is =
      let old : state_at meaning nodes f ≡ Some s = ap (λ (at : ℕ → Option S). at f) states ∙ is in
      subst (λ (n : S → ℕ → Option S). LeadsTo meaning' leads to (n s l)) (sym same)
      (value s (node_means meaning nodes f node s here old))

  abbrev pub Goes : List Bool → List Bool → Type 0
  Goes moves' runs' =
      ScansTo next' meaning meaning' actors nodes numbers f (l + 1) moves' runs' true

  scanning_of : (moves' runs' : List Bool) → length moves' ≡ length moves → length runs' ≡ length runs →
      IsScanned next' (state_at meaning' nodes) (slice_index numbers) actors (entry moves' actors)
      (entry runs' actors) f (l + 1) →
      Goes moves' runs'
  scanning_of moves' runs' many most scanned = (
    sym states,
    record {
      even = h.even;
      below = h.below;
      moves_room = many ∙ h.moves_room;
      runs_room = most ∙ h.runs_room;
      meant = λ i low. let s = h.meant i low in (s.0, sym (ap (λ (at : ℕ → Option S). at i) states) ∙ s.1);
      scanned = scanned;
    },
  )

  no_edge : leads ≡ false → (s t : S) → state_at meaning' nodes f ≡ Some s → next' s l ≡ Some t → ⊥
  no_edge idle s t is goes =
      let none : next' s l ≡ None = subst (λ (b : Bool). LeadsTo meaning' b to (next' s l)) idle (leads_of s is) in
      none-some t (sym none ∙ goes)

  -- nobody's edge, or an actor's that leads nowhere
  pub rests_nobody : leads ≡ false → actors ≤ l →
      Goes moves runs
  rests_nobody idle nobody = scanning_of moves runs refl refl
      (scanned_more next' (state_at meaning' nodes) (slice_index numbers) actors (entry moves actors) (entry runs actors)
      (entry moves actors) (entry runs actors) f l scanned_before (λ n m is. is) (λ n m is. is)
      (λ s t is goes. absurd (no_edge idle s t is goes)) (λ s low is none. absurd (omega arith)))

  pub rests : leads ≡ false → (p : ℕ) → p ≡ slice_index numbers f * actors + l → p < length runs →
      Goes moves (set runs p false)
  rests idle p place within = scanning_of moves (set runs p false) refl (length-set runs p false)
      (scanned_more next' (state_at meaning' nodes) (slice_index numbers) actors (entry moves actors) (entry runs actors)
      (entry moves actors) (entry (set runs p false) actors) f l scanned_before (λ n m is. is)
      (λ n m is. set_keeps runs p false (n * actors + m) within is)
      (λ s t is goes. absurd (no_edge idle s t is goes))
      (λ s low is none. ap (λ (k : ℕ). get_or (set runs p false) k false) (sym place)
      ∙ get_or-set_same runs p false false within))

  -- where the edge leads
  goes_to : leads ≡ true → (j : ℕ) → slice_get nodes j ≡ Some to → (s t : S) → state_at meaning' nodes f ≡ Some s →
      next' s l ≡ Some t → state_at meaning' nodes j ≡ Some t
  goes_to leading j there s t is goes =
      let v : LeadsTo meaning' true to (next' s l) =
      subst (λ (b : Bool). LeadsTo meaning' b to (next' s l)) leading (leads_of s is) in
      ap (λ (o : Option (List ℕ)). option_and_then meaning' o) there ∙ (v.1 ∙ goes)

  edge_idle : leads ≡ true → (s : S) → state_at meaning' nodes f ≡ Some s → next' s l ≡ None → ⊥
  edge_idle leading s is none =
      let v : LeadsTo meaning' true to (next' s l) =
      subst (λ (b : Bool). LeadsTo meaning' b to (next' s l)) leading (leads_of s is) in
      let t = some_of (next' s l) v.0 in
      none-some t.0 (sym none ∙ t.1)

  -- an edge that leaves the number, or nobody's
  pub leaves : leads ≡ true → (j : ℕ) → slice_get nodes j ≡ Some to →
      slice_index numbers j ≤ slice_index numbers f →
      (slice_index numbers j ≡ slice_index numbers f → actors ≤ l) →
      Goes moves runs
  leaves leading j there low apart = scanning_of moves runs refl refl
      (scanned_more next' (state_at meaning' nodes) (slice_index numbers) actors (entry moves actors) (entry runs actors)
      (entry moves actors) (entry runs actors) f l scanned_before (λ n m is. is) (λ n m is. is)
      (λ s t is goes. (
        j,
        goes_to leading j there s t is goes,
        low,
        λ equal actor. let nobody : actors ≤ l = apart equal in absurd (omega arith),
      ))
      (λ s actor is none. absurd (edge_idle leading s is none)))

  -- an actor's edge that stays in the number
  pub stays : leads ≡ true → (j : ℕ) → slice_get nodes j ≡ Some to →
      slice_index numbers j ≤ slice_index numbers f →
      (p : ℕ) → p ≡ slice_index numbers f * actors + l → p < length moves →
      Goes (set moves p true) runs
  stays leading j there low p place within = scanning_of (set moves p true) runs (length-set moves p true) refl
      (scanned_more next' (state_at meaning' nodes) (slice_index numbers) actors (entry moves actors) (entry runs actors)
      (entry (set moves p true) actors) (entry runs actors) f l scanned_before
      (λ n m is. set_keeps moves p true (n * actors + m) within is) (λ n m is. is)
      (λ s t is goes. (
        j,
        goes_to leading j there s t is goes,
        low,
        λ equal actor. ap (λ (k : ℕ). get_or (set moves p true) k false) (sym place)
            ∙ get_or-set_same moves p true false within,
      ))
      (λ s actor is none. absurd (edge_idle leading s is none)))

pub scanning_node : {S : Type 0} (next : S → ℕ → Option S) (meaning : List ℕ → Option S) (actors : ℕ)
    (nodes : List (List ℕ)) (numbers : List ℕ) (moves runs : List Bool) (f l : ℕ) →
    IsScanning next meaning actors nodes numbers moves runs f l → actors ≤ l →
    ((s : S) (m : ℕ) → l ≤ m → next s m ≡ None) →
    IsScanning next meaning actors nodes numbers moves runs (f + 1) 0
scanning_node {S} next meaning actors nodes numbers moves runs f l h all beyond = record {
  even = h.even;
  below = h.below;
  moves_room = h.moves_room;
  runs_room = h.runs_room;
  meant = h.meant;
  scanned = scanned_node next (state_at meaning nodes) (slice_index numbers) actors (entry moves actors)
      (entry runs actors) f l h.scanned all beyond;
}

-- a place is within its table
pub place_within : (number numbers actors actor : ℕ) → number < numbers → actor < actors →
    number * actors + actor < numbers * actors
place_within number numbers actors actor low actor_low =
    let more : number + 1 ≤ numbers = omega arith in
    let product : (number + 1) * actors ≤ numbers * actors = mul-le-mul_right actors more in
    let e : number + 1 ≡ suc number = omega arith in
    let sum : (number + 1) * actors ≡ number * actors + actors = rw e (suc-mul number actors) in
    omega arith

pub meant_node : {S : Type 0} (meaning : List ℕ → Option S) (nodes : List (List ℕ)) (f : ℕ) (row : List ℕ) →
    ((s : S) × (state_at meaning nodes f ≡ Some s)) → slice_get nodes f ≡ Some row → IsSome (meaning row)
meant_node {S} meaning nodes f row s here =
    subst (λ (o : Option S). IsSome o) (sym (node_means meaning nodes f row s.0 here s.1)) refl

pub scanning_begins : {S : Type 0} (next : S → ℕ → Option S) (meaning : List ℕ → Option S) (actors : ℕ)
    (nodes : List (List ℕ)) (numbers : List ℕ) (moves runs : List Bool) → length numbers ≡ length nodes →
    ((i : ℕ) → i < length numbers → slice_index numbers i < length numbers) →
    length moves ≡ length numbers * actors → length runs ≡ length numbers * actors →
    ((i : ℕ) → i < length nodes → (s : S) × (state_at meaning nodes i ≡ Some s)) →
    IsScanning next meaning actors nodes numbers moves runs 0 0
scanning_begins {S} next meaning actors nodes numbers moves runs even below moves_room runs_room meant = record {
  even = even;
  below = below;
  moves_room = moves_room;
  runs_room = runs_room;
  meant = meant;
  scanned = record {
    falls = λ i l s t earlier is goes.
        let first = earlier.0 in
        let none : i ≡ 0 = omega arith in
        let low : l < 0 = earlier.1 none in
        absurd (omega arith);
    idle = λ i l s earlier low is none.
        let first = earlier.0 in
        let zero : i ≡ 0 = omega arith in
        let less : l < 0 = earlier.1 zero in
        absurd (omega arith);
  };
}

-- what a scan of all edges shows
module _ {S : Type 0} (next next' : S → ℕ → Option S) (meaning meaning' : List ℕ → Option S) (actors : ℕ)
    (nodes : List (List ℕ)) (numbers : List ℕ) (moves runs : List Bool)
    (h : ScansTo next' meaning meaning' actors nodes numbers (length numbers) 0 moves runs true) (same : next' ≡ next)
    (distinct : (i j : ℕ) (s : S) → state_at meaning nodes i ≡ Some s → state_at meaning nodes j ≡ Some s → i ≡ j)
  where
    all_scanned : IsScanned next (state_at meaning nodes) (slice_index numbers) actors (entry moves actors)
        (entry runs actors) (length numbers) 0
    all_scanned =
        subst (λ (n : S → ℕ → Option S). IsScanned n (state_at meaning nodes) (slice_index numbers) actors
        (entry moves actors) (entry runs actors) (length numbers) 0) same
        (subst (λ (at : ℕ → Option S). IsScanned next' at (slice_index numbers) actors (entry moves actors)
        (entry runs actors) (length numbers) 0) h.0 h.1.scanned)

    node_within : (i : ℕ) (s : S) → state_at meaning nodes i ≡ Some s → i < length numbers
    node_within i s is =
        let row = row_of meaning nodes i s is in
        let below = slice_get_within nodes i row.0 row.1 in
        let even = h.1.even in
        omega arith

    pub known_still : ((n m k : ℕ) → entry moves k n m ≡ false) →
        IsKnown next actors (state_at meaning nodes) NoLoop
    known_still still =
        no_loop next (state_at meaning nodes) (slice_index numbers) actors (entry moves actors) (entry runs actors)
        (length numbers) all_scanned node_within distinct (λ n m. still n m actors)

    pub known_starved : ((n : ℕ) → n < length nodes → IsStarved moves runs actors n) →
        IsKnown next actors (state_at meaning nodes) Unfair
    known_starved starved =
        let even = h.1.even in
        no_fair_loop next (state_at meaning nodes) (slice_index numbers) actors (entry moves actors) (entry runs actors)
        (length numbers) all_scanned node_within distinct
        (λ i low. let below = h.1.below i low in starved (slice_index numbers i) (omega arith))
