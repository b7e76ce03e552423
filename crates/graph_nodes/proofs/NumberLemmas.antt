-- Nodes in parts, after a row got its number.
use Rattle.std.proofs.Common.{◌≡◌, ◌≢◌, ℕ, suc, ◌+◌, ◌*◌, ◌<◌, ◌^◌, List, [], ◌∷◌, ◌++◌, map, length, Some, ◌⊎◌, arith, ap, sym, ◌∙◌, refl, subst, inl, inr}
use Rattle.std.specs.Prelude.{slice_get}
use Rattle.std.proofs.Math.ListN.{set}
use Rattle.std.proofs.lemmas.Bool.{cases_eq}
use Rattle.std.proofs.lemmas.List.{length-set, length-append, length-map, map-append}
use Rattle.std.proofs.lemmas.Option.{same_Some, slice_get_within}
use Rattle.interner.specs.Rows.{Rows, IsDistinct, IsInterned}
use Rattle.graph_nodes.specs.Homes.{home_of}
use Rattle.graph_nodes.specs.Parts.{IsAt}
use Rattle.graph_nodes.specs.Tasks.{IsReady, IsSent, IsFound}
use Rattle.graph_nodes.specs.Parted.{row_of, rows_at, nodes_of, HasPlace, IsNode, AgreeOn, IsFoundFor, IsSentTo}
use Rattle.graph_nodes.specs.declared.tasks.Task.{Task}
use Rattle.graph_nodes.specs.declared.parted.Place.{Place}
use Rattle.graph_nodes.specs.declared.parted.Sent.{Sent}
use Rattle.graph_nodes.proofs.GetLemmas.{get_left, get_last, got_last, get_set_same, get_set_other}
use Rattle.graph_nodes.proofs.PartedLemmas.{row_is, node_is, same_task}
use Rattle.graph_nodes.proofs.LaterLemmas.{map_same}

-- The row at this place got this number, and nothing else changed.
pub record IsNumbered (task after : Task) (r n : ℕ) : Type 0 where
  pub kept : after.part.kept ≡ task.part.kept
  pub numbers : after.part.numbers.items ≡ set task.part.numbers.items r (suc n)
  pub rows : after.rows.items ≡ task.rows.items
  pub count : after.count ≡ task.count
  pub places : after.places.items ≡ task.places.items

numbered_ready : (task after : Task) (r n : ℕ) → IsNumbered task after r n → IsReady task → IsReady after
numbered_ready task after r n is ready = record {
  whole = ap length is.rows ∙ ready.whole ∙ ap (λ k. k * task.part.kept.width) (sym is.count)
      ∙ ap (λ (k : Rows). after.count * k.width) (sym is.kept);
  distinct = subst IsDistinct (sym is.kept) ready.distinct;
}

numbered_at : (task after : Task) (r n place : ℕ) (row : List ℕ) → IsNumbered task after r n → IsAt task.part place row →
    IsAt after.part place row
numbered_at task after r n place row is at = record {
  there = ap (λ (k : Rows). slice_get k.rows place) is.kept ∙ at.there;
  noted = omega (arith, at.noted, ap length is.numbers, length-set task.part.numbers.items r (suc n));
}

numbered_found : (task after : Task) (r n k : ℕ) (row : List ℕ) → IsNumbered task after r n → IsFound task k row →
    IsFound after k row
numbered_found task after r n k row is found = record {
  place = found.place;
  noted = ap (λ (ps : List ℕ). slice_get ps k) is.places ∙ found.noted;
  at = numbered_at task after r n found.place row is found.at;
}

-- what was there is there, or is the part that changed
pub put_at : (tasks : List Task) (p : ℕ) (task after : Task) → slice_get tasks p ≡ Some task → (q : ℕ) (t : Task) →
    slice_get tasks q ≡ Some t →
    (slice_get (set tasks p after) q ≡ Some t) ⊎ ((q ≡ p) × (t ≡ task) × (slice_get (set tasks p after) q ≡ Some after))
put_at tasks p task after is q t here = elim (cases_eq q p) [
  | inl same ↦ inr (
    same,
    same_task tasks q p t task same here is,
    ap (slice_get (set tasks p after)) same ∙ get_set_same tasks p after (slice_get_within tasks p task is),
  )
  | inr other ↦ inl (get_set_other tasks p q after other ∙ here)
]

got_put : (tasks : List Task) (p : ℕ) (task after : Task) → slice_get tasks p ≡ Some task → (q : ℕ) (t : Task) →
    slice_get (set tasks p after) q ≡ Some t → (slice_get tasks q ≡ Some t) ⊎ ((q ≡ p) × (t ≡ after))
got_put tasks p task after is q t here = elim (cases_eq q p) [
  | inl same ↦ inr (
    same,
    same_Some t after (sym here ∙ ap (slice_get (set tasks p after)) same ∙ get_set_same tasks p after (slice_get_within tasks p task is)),
  )
  | inr other ↦ inl (sym (get_set_other tasks p q after other) ∙ here)
]

-- What is known where a row gets the next number.
pub record GetsNumber (width : ℕ) (tasks : List Task) (order : List Place) (place : Place) (row : List ℕ) (after : Task) : Type 0 where
  pub agree : AgreeOn width tasks order
  pub has : HasPlace tasks place row
  pub none : (i : ℕ) → slice_get has.task.part.numbers.items place.row ≢ Some (suc i)
  pub is : IsNumbered has.task after place.row (length order)
  pub few : length order + 1 < 2 ^ 32

abbrev put_place : (width : ℕ) (tasks : List Task) (order : List Place) (place : Place) (row : List ℕ) (after : Task) →
    GetsNumber width tasks order place row after → (other : Place) (r : List ℕ) → HasPlace tasks other r →
    HasPlace (set tasks place.part after) other r
put_place width tasks order place row after gets other r has =
    elim (put_at tasks place.part gets.has.task after gets.has.here other.part has.task has.here) [
      | inl here ↦ record {
        task = has.task;
        here = here;
        at = has.at;
        home = ap (λ n. home_of n r) (length-set tasks place.part after) ∙ has.home;
      }
      | inr (same, task_is, here) ↦ record {
        task = after;
        here = here;
        at = numbered_at gets.has.task after place.row (length order) other.row r gets.is
            (subst (λ (t : Task). IsAt t.part other.row r) task_is has.at);
        home = ap (λ n. home_of n r) (length-set tasks place.part after) ∙ has.home;
      }
    ]

put_node : (width : ℕ) (tasks : List Task) (order : List Place) (place : Place) (row : List ℕ) (after : Task) →
    GetsNumber width tasks order place row after → (i : ℕ) (other : Place) → IsNode tasks i other →
    IsNode (set tasks place.part after) i other
put_node width tasks order place row after gets i other node =
    elim (put_at tasks place.part gets.has.task after gets.has.here other.part node.has.task node.has.here) [
      | inl here ↦ record {
        row = node.row;
        has = record {
          task = node.has.task;
          here = here;
          at = node.has.at;
          home = ap (λ n. home_of n node.row) (length-set tasks place.part after) ∙ node.has.home;
        };
        numbered = node.numbered;
      }
      | inr (same, task_is, here) ↦
          let was : slice_get gets.has.task.part.numbers.items other.row ≡ Some (suc i) =
          ap (λ (t : Task). slice_get t.part.numbers.items other.row) (sym task_is) ∙ node.numbered in
          let apart : other.row ≢ place.row = λ e.
          gets.none i (ap (slice_get gets.has.task.part.numbers.items) (sym e) ∙ was) in
          record {
            row = node.row;
            has = record {
              task = after;
              here = here;
              at = numbered_at gets.has.task after place.row (length order) other.row node.row gets.is
                  (subst (λ (t : Task). IsAt t.part other.row node.row) task_is node.has.at);
              home = ap (λ n. home_of n node.row) (length-set tasks place.part after) ∙ node.has.home;
            };
            numbered = ap (λ (ns : List ℕ). slice_get ns other.row) gets.is.numbers
                ∙ get_set_other gets.has.task.part.numbers.items place.row other.row (suc (length order)) apart
                ∙ was;
          }
    ]

-- the row that got its number
new_node : (width : ℕ) (tasks : List Task) (order : List Place) (place : Place) (row : List ℕ) (after : Task) →
    GetsNumber width tasks order place row after → IsNode (set tasks place.part after) (length order) place
new_node width tasks order place row after gets = record {
  row = row;
  has = record {
    task = after;
    here = get_set_same tasks place.part after (slice_get_within tasks place.part gets.has.task gets.has.here);
    at = numbered_at gets.has.task after place.row (length order) place.row row gets.is gets.has.at;
    home = ap (λ n. home_of n row) (length-set tasks place.part after) ∙ gets.has.home;
  };
  numbered = ap (λ (ns : List ℕ). slice_get ns place.row) gets.is.numbers
      ∙ get_set_same gets.has.task.part.numbers.items place.row (suc (length order)) gets.has.at.noted;
}

put_placed : (width : ℕ) (tasks : List Task) (order : List Place) (place : Place) (row : List ℕ) (after : Task) →
    GetsNumber width tasks order place row after → (p r i : ℕ) (task : Task) →
    slice_get (set tasks place.part after) p ≡ Some task → slice_get task.part.numbers.items r ≡ Some (suc i) →
    slice_get (order ++ place ∷ []) i ≡ Some (record { part = p; row = r })
put_placed width tasks order place row after gets p r i task here numbered =
    elim (got_put tasks place.part gets.has.task after gets.has.here p task here) [
      | inl old ↦ get_left order (place ∷ []) i _ (gets.agree.placed p r i task old numbered)
      | inr (same, is_after) ↦
          let at : slice_get (set gets.has.task.part.numbers.items place.row (suc (length order))) r ≡ Some (suc i) =
          ap (λ (ns : List ℕ). slice_get ns r) (sym gets.is.numbers)
          ∙ ap (λ (t : Task). slice_get t.part.numbers.items r) (sym is_after) ∙ numbered in
          elim (cases_eq r place.row) [
            | inl e ↦
                let number : suc (length order) ≡ suc i = same_Some (suc (length order)) (suc i)
                (sym (get_set_same gets.has.task.part.numbers.items place.row (suc (length order)) gets.has.at.noted)
                ∙ ap (slice_get (set gets.has.task.part.numbers.items place.row (suc (length order)))) (sym e) ∙ at) in
                let last : i ≡ length order = omega arith in
                ap (slice_get (order ++ place ∷ [])) last ∙ get_last order place
                ∙ ap (λ (q : ℕ). Some (record { part = q; row = place.row })) (sym same)
                ∙ ap (λ (q : ℕ). Some (record { part = p; row = q })) (sym e)
            | inr other ↦
                let was = sym (get_set_other gets.has.task.part.numbers.items place.row r (suc (length order)) other) ∙ at in
                get_left order (place ∷ []) i _ (gets.agree.placed p r i gets.has.task
                (ap (slice_get tasks) same ∙ gets.has.here) was)
          ]
    ]

pub number_agree : (width : ℕ) (tasks : List Task) (order : List Place) (place : Place) (row : List ℕ) (after : Task) →
    GetsNumber width tasks order place row after → AgreeOn width (set tasks place.part after) (order ++ place ∷ [])
number_agree width tasks order place row after gets = record {
  some = omega (arith, length-set tasks place.part after, gets.agree.some);
  few = omega (arith, length-append order (place ∷ []), gets.few);
  wide = λ p task here. elim (got_put tasks place.part gets.has.task after gets.has.here p task here) [
    | inl old ↦ gets.agree.wide p task old
    | inr (same, is_after) ↦
        ap (λ (t : Task). t.part.kept.width) is_after ∙ ap (λ (k : Rows). k.width) gets.is.kept
        ∙ gets.agree.wide place.part gets.has.task gets.has.here
  ];
  ready = λ p task here. elim (got_put tasks place.part gets.has.task after gets.has.here p task here) [
    | inl old ↦ gets.agree.ready p task old
    | inr (same, is_after) ↦
        subst IsReady (sym is_after) (numbered_ready gets.has.task after place.row (length order) gets.is
        (gets.agree.ready place.part gets.has.task gets.has.here))
  ];
  node = λ i other at. elim (got_last order place i other at) [
    | inl before ↦ put_node width tasks order place row after gets i other (gets.agree.node i other before)
    | inr (last, same) ↦
        rw (last, same) (new_node width tasks order place row after gets)
  ];
  placed = put_placed width tasks order place row after gets;
}

pub number_interned : (width : ℕ) (tasks : List Task) (order : List Place) (place : Place) (row : List ℕ) (after : Task) →
    GetsNumber width tasks order place row after →
    IsInterned (nodes_of width tasks order) (nodes_of width (set tasks place.part after) (order ++ place ∷ [])) row (length order)
unfolding rows_at
number_interned width tasks order place row after gets =
    let new = set tasks place.part after in
    let node = new_node width tasks order place row after gets in
    let has = put_place width tasks order place row after gets place row gets.has in
    let same = map_same (row_of new) (row_of tasks) order (λ i other at.
    let node = gets.agree.node i other at in
    row_is new other node.row (put_place width tasks order place row after gets other node.row node.has)
    ∙ sym (row_is tasks other node.row node.has)) in
    let rows : map (row_of new) (order ++ place ∷ []) ≡ map (row_of tasks) order ++ row ∷ [] =
    map-append (row_of new) order (place ∷ [])
    ∙ ap (λ r. r ++ row_of new place ∷ []) same
    ∙ ap (λ r. map (row_of tasks) order ++ r ∷ []) (row_is new place row has) in (
      node_is width new (order ++ place ∷ []) (length order) place row (get_last order place) has,
      inr (ap (λ (r : List (List ℕ)). record { width = width; rows = r }) rows, sym (length-map order (row_of tasks))),
    )

pub number_found : (width : ℕ) (tasks : List Task) (order : List Place) (place : Place) (row : List ℕ) (after : Task) →
    GetsNumber width tasks order place row after → (sent : Sent) (r : List ℕ) → IsFoundFor tasks sent r →
    IsFoundFor (set tasks place.part after) sent r
number_found width tasks order place row after gets sent r found =
    elim (put_at tasks place.part gets.has.task after gets.has.here sent.part found.task found.here) [
      | inl here ↦ record {
        task = found.task;
        here = here;
        found = found.found;
        home = ap (λ n. home_of n r) (length-set tasks place.part after) ∙ found.home;
      }
      | inr (same, task_is, here) ↦ record {
        task = after;
        here = here;
        found = numbered_found gets.has.task after place.row (length order) sent.row r gets.is
            (subst (λ (t : Task). IsFound t sent.row r) task_is found.found);
        home = ap (λ n. home_of n r) (length-set tasks place.part after) ∙ found.home;
      }
    ]

pub gets_number : (width : ℕ) (tasks : List Task) (order : List Place) (place : Place) (row : List ℕ) (task after : Task)
    (k : ℕ) → AgreeOn width tasks order → HasPlace tasks place row → slice_get tasks place.part ≡ Some task →
    ((i : ℕ) → slice_get task.part.numbers.items place.row ≢ Some (suc i)) →
    after.part.kept ≡ task.part.kept → after.part.numbers.items ≡ set task.part.numbers.items place.row k →
    k ≡ suc (length order) → after.rows.items ≡ task.rows.items → after.count ≡ task.count →
    after.places.items ≡ task.places.items → k < 2 ^ 32 → GetsNumber width tasks order place row after
gets_number width tasks order place row task after k agree has here none kept numbers next rows count places few =
    let same : task ≡ has.task = same_task tasks place.part place.part task has.task refl here has.here in
    record {
      agree = agree;
      has = has;
      none = subst (λ (t : Task). (i : ℕ) → slice_get t.part.numbers.items place.row ≢ Some (suc i)) same none;
      is = subst (λ (t : Task). IsNumbered t after place.row (length order)) same (record {
        kept = kept;
        numbers = numbers ∙ ap (set task.part.numbers.items place.row) next;
        rows = rows;
        count = count;
        places = places;
      });
      few = omega arith;
    }

-- rows that were sent stay so where a part is sent more
pub sent_others : (tasks : List Task) (p : ℕ) (task after : Task) → slice_get tasks p ≡ Some task →
    ((k : ℕ) (row : List ℕ) → IsSent task k row → IsSent after k row) → (sent : Sent) (row : List ℕ) →
    IsSentTo tasks sent row → IsSentTo (set tasks p after) sent row
sent_others tasks p task after here same sent row is =
    elim (put_at tasks p task after here sent.part is.task is.here) [
      | inl there ↦ record {
        task = is.task;
        here = there;
        is = is.is;
        home = ap (λ n. home_of n row) (length-set tasks p after) ∙ is.home;
      }
      | inr (at, task_is, there) ↦ record {
        task = after;
        here = there;
        is = same sent.row row (subst (λ (t : Task). IsSent t sent.row row) task_is is.is);
        home = ap (λ n. home_of n row) (length-set tasks p after) ∙ is.home;
      }
    ]
