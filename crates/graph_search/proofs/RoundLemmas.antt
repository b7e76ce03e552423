-- What is so of rounds.
use Rattle.std.proofs.Common.{◌≡◌, ◌≢◌, ℕ, zero, suc, ◌+◌, ◌-◌, ◌*◌, ◌<◌, ◌≤◌, List, [], ◌∷◌, ◌++◌, length, take, drop, arith, ap, sym, ◌∙◌, refl, inl, inr, subst, length-append, drop-cons, add-one}
use Rattle.std.specs.Prelude.{Option, Some, None, IsSome, Bool, true, false, if◌then◌else◌, nat_eq, slice_get, slice_index_or, ◌⊎◌}
use Rattle.std.proofs.Math.Seq.{get_or-append_seam}
use Rattle.std.proofs.lemmas.List.{get_or_append_left, append_assoc, append-nil}
use Rattle.std.proofs.Math.ListN.{drop_of_length-le}
use Rattle.std.proofs.lemmas.Bool.Decides.{nat_tests}
use Rattle.std.proofs.lemmas.Bool.{cases_lt}
use Rattle.std.proofs.lemmas.Option.{none-some}
use borrow.Rule.Slice.PartMut.{put_mid, post_of}
use Rattle.interner.specs.Rows.{row_at}
use Rattle.interner.proofs.RowLemmas.{row_ends, row_begins}
use Rattle.graph_search.specs.declared.edges.Edge.{Edge}
use Rattle.graph_search.specs.Graphs.{LeadsTo}
use Rattle.graph_search.specs.Rounds.{AreRead, AreRoundSteps, edge_if, edges_at}
use Rattle.graph_search.proofs.TreeLemmas.{some_of, leads_kept, row_there, row_before, row_written}

-- a step of one of so many nodes is one of so many steps
pub step_there : (place label labels count most : ℕ) → place < count → label < labels → count ≤ most →
    place * labels + label < most * labels
step_there place label labels count most there below few =
    let within : place < most = omega arith in
    let ends = row_ends place most labels within in
    let begins = row_begins place labels in
    omega arith

-- the place and the label of a step are determined by its number
pub one_place : (i l j m labels : ℕ) → l < labels → m < labels → i * labels + l ≡ j * labels + m → (i ≡ j) × (l ≡ m)
one_place i l j m labels below low same = elim (cases_lt i j) [
  | inl less ↦
      let ends = row_ends i j labels less in
      let begins = row_begins i labels in
      absurd (omega arith)
  | inr more ↦
      elim (cases_lt j i) [
        | inl less ↦
            let ends = row_ends j i labels less in
            let begins = row_begins j labels in
            absurd (omega arith)
        | inr other ↦
            let e : i ≡ j = omega arith in
            let f : i * labels ≡ j * labels = ap (λ (n : ℕ). n * labels) e in
            (e, omega arith)
      ]
]

-- one step more was made
pub round_steps_more : {S : Type 0} (next : S → ℕ → Option S) (before meaning meaning' : List ℕ → Option S)
    (width labels : ℕ) (nodes : List ℕ) (leads : List Bool) (rows row back rows' : List ℕ) (b : Bool)
    (place label : ℕ) → ((n : List ℕ) (u : S) → meaning n ≡ Some u → meaning' n ≡ Some u) →
    (length leads + 1) * width ≤ length rows → length row ≡ width →
    rows' ≡ take (length leads * width) rows ++ (row ++ back) → length leads ≡ place * labels + label →
    label < labels → AreRoundSteps next before meaning width labels nodes leads rows →
    ((s : S) → before (row_at width nodes place) ≡ Some s → LeadsTo meaning' b row (next s label)) →
    AreRoundSteps next before meaning' width labels nodes (leads ++ b ∷ []) rows'
round_steps_more {S} next before meaning meaning' width labels nodes leads rows row back rows' b place label kept room
    wide is number low steps led i l s below there means =
    let count : length (leads ++ b ∷ []) ≡ length leads + 1 = length-append leads (b ∷ []) in
    let k = i * labels + l in
    elim (cases_lt k (length leads)) [
      | inl early ↦
          let flag : slice_index_or (leads ++ b ∷ []) k false ≡ slice_index_or leads k false =
          get_or_append_left leads (b ∷ []) false k early in
          let same = row_before width (length leads) rows row back rows' room wide is k early in
          let was = leads_kept meaning meaning' kept (slice_index_or leads k false) (row_at width rows k)
          (next s l) (steps i l s below early means) in
          subst (λ (f : Bool). LeadsTo meaning' f (row_at width rows' k) (next s l)) (sym flag)
          (subst (λ (r : List ℕ). LeadsTo meaning' (slice_index_or leads k false) r (next s l)) (sym same) was)
      | inr late ↦
          let e : length leads ≡ k = omega arith in
          let at = one_place i l place label labels below low (sym e ∙ number) in
          let flag : slice_index_or (leads ++ b ∷ []) k false ≡ b =
          ap (λ (j : ℕ). slice_index_or (leads ++ b ∷ []) j false) (sym e) ∙ get_or-append_seam leads b [] false in
          let same : row_at width rows' k ≡ row =
          ap (row_at width rows') (sym e) ∙ row_there width (length leads) rows row back rows' room wide is in
          let now : before (row_at width nodes place) ≡ Some s =
          subst (λ (j : ℕ). before (row_at width nodes j) ≡ Some s) at.0 means in
          let here : LeadsTo meaning' b row (next s l) =
          subst (λ (j : ℕ). LeadsTo meaning' b row (next s j)) (sym at.1) (led s now) in
          subst (λ (f : Bool). LeadsTo meaning' f (row_at width rows' k) (next s l)) (sym flag)
          (subst (λ (r : List ℕ). LeadsTo meaning' b r (next s l)) (sym same) here)
    ]

-- there is an item at each place of a list
pub there_is : {A : Type 0} (xs : List A) (i : ℕ) → i < length xs → slice_get xs i ≢ None
there_is [] i below none = absurd (omega arith)
there_is (x ∷ xs) zero below none = none-some x (sym none)
there_is (x ∷ xs) (suc i) below none = there_is xs i (omega arith) none

-- a row was written among the rows of a vector, from this place on
pub written_at : (start width k len : ℕ) (items seen to : List ℕ) → start ≡ k * width → seen ≡ items →
    len ≡ length items → k * width + width ≤ length items → length to ≡ width →
    let put = put_mid start (start + width - start) seen to in
    (take len (put ++ drop (length put) items)
    ≡ take (k * width) items ++ (to ++ post_of (k * width) (k * width + width - k * width) items))
    × (length (take len (put ++ drop (length put) items)) ≡ length items)
written_at start width k len items seen to is same long room wide =
    rw is (row_written width k len items seen to same long room wide)

-- one node more was read
pub reads_more : (width : ℕ) (nodes : List (List ℕ)) (first place : ℕ) (items row back items' : List ℕ) →
    (place + 1) * width ≤ length items → length row ≡ width → items' ≡ take (place * width) items ++ (row ++ back) →
    AreRead width nodes first place items → slice_get nodes (first + place) ≡ Some row →
    AreRead width nodes first (place + 1) items'
reads_more width nodes first place items row back items' room wide is read here i below = elim (cases_lt i place) [
  | inl early ↦
      read i early ∙ ap (λ (r : List ℕ). Some r) (sym (row_before width place items row back items' room wide is i early))
  | inr late ↦
      let e : i ≡ place = omega arith in
      ap (λ (k : ℕ). slice_get nodes (first + k)) e ∙ here
      ∙ ap (λ (r : List ℕ). Some r) (sym (row_there width place items row back items' room wide is))
      ∙ ap (λ (k : ℕ). Some (row_at width items' k)) (sym e)
]

-- the part of a vector from this place on is one of its rows
pub part_is_row : (start width k : ℕ) (items seen : List ℕ) → start ≡ k * width → seen ≡ items →
    take (start + width - start) (drop start seen) ≡ row_at width items k
part_is_row start width k items seen is same =
    let wide : start + width - start ≡ width = omega arith in
    rw same (ap (λ (w : ℕ). take w (drop start items)) wide ∙ ap (λ (n : ℕ). take width (drop n items)) is)

-- what had a meaning has one
pub still_some : {S : Type 0} (before meaning : List ℕ → Option S) (row : List ℕ) →
    ((n : List ℕ) (s : S) → before n ≡ Some s → meaning n ≡ Some s) → IsSome (before row) → IsSome (meaning row)
still_some {S} before meaning row kept some =
    let t = some_of (before row) some in
    subst (λ (o : Option S). IsSome o) (sym (kept row t.0 t.1)) refl

-- a list from one of its items on
pub drop_at : {A : Type 0} (xs : List A) (k : ℕ) (d : A) → k < length xs →
    drop k xs ≡ slice_index_or xs k d ∷ drop (k + 1) xs
drop_at xs k d inside = rw add-one (drop-cons xs k d inside)

-- where the next edge is
abbrev pub IsNext : ℕ → ℕ → ℕ → ℕ → ℕ → Type 0
IsNext labels from label from' label' = ((label + 1 ≡ labels) × (from' ≡ from + 1) × (label' ≡ 0))
    ⊎ ((label + 1 ≢ labels) × (from' ≡ from) × (label' ≡ label + 1))

-- the edges from an edge on, by where the next one is
edges_from : (labels from label from' label' : ℕ) (more : List Bool) → IsNext labels from label from' label' →
    (if nat_eq (label + 1) labels then edges_at labels (from + 1) 0 more else edges_at labels from (label + 1) more)
    ≡ edges_at labels from' label' more
edges_from labels from label from' label' more next = elim next [
  | inl last ↦ let test : nat_eq (label + 1) labels ≡ true = grind (arith, nat_tests) in
      rw (test, last.1, last.2) refl
  | inr other ↦ let test : nat_eq (label + 1) labels ≡ false = grind (arith, nat_tests) in
      rw (test, other.1, other.2) refl
]

-- the edge of one step more was added, if it led to a new node
pub follow_more : (labels from label k : ℕ) (fresh : List Bool) (is_new : Bool) (edges edges' : List Edge)
    (from' label' : ℕ) → k < length fresh → slice_index_or fresh k false ≡ is_new → edges' ≡ edges ++ edge_if is_new from label →
    IsNext labels from label from' label' →
    edges' ++ edges_at labels from' label' (drop (k + 1) fresh) ≡ edges ++ edges_at labels from label (drop k fresh)
unfolding edges_at
follow_more labels from label k fresh is_new edges edges' from' label' inside here added next =
    let more = drop (k + 1) fresh in
    let all : edges_at labels from label (drop k fresh) ≡ edge_if is_new from label ++ edges_at labels from' label' more =
    rw (drop_at fresh k false inside, here)
    (ap (λ (es : List Edge). edge_if is_new from label ++ es) (edges_from labels from label from' label' more next)) in
    rw (added, all) (append_assoc edges (edge_if is_new from label) (edges_at labels from' label' more))

-- all steps were told of
pub followed_all : (labels from label k : ℕ) (fresh : List Bool) (edges all : List Edge) → length fresh ≤ k →
    edges ++ edges_at labels from label (drop k fresh) ≡ all → edges ≡ all
unfolding edges_at
followed_all labels from label k fresh edges all over is =
    let none : drop k fresh ≡ [] = drop_of_length-le fresh over in
    sym (append-nil edges) ∙ subst (λ (more : List Bool). edges ++ edges_at labels from label more ≡ all) none is
