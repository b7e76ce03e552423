-- Nodes in parts.
use Rattle.std.proofs.Common.{◌≡◌, ◌≢◌, ℕ, suc, ◌<◌, List, [], ◌∷◌, ◌++◌, length, Option, Some, None, Result, Ok, Err, IfOk, IfSome, OnErr, arith, ap, sym, ◌∙◌, refl, subst, inl, inr}
use Rattle.std.specs.Prelude.{slice_get, slice_index_or, option_map}
use Rattle.std.proofs.lemmas.Option.{none-some, same_Some, slice_get-map, slice_get_within, slice_get_read}
use Rattle.interner.specs.Rows.{IsRow, IsDistinct}
use Rattle.graph_nodes.specs.Homes.{home_of}
use Rattle.graph_nodes.specs.Parts.{IsAt}
use Rattle.graph_nodes.specs.Tasks.{IsReady}
use Rattle.graph_nodes.specs.Parted.{row_at_place, or_none, row_of, rows_at, nodes_of, HasPlace, AgreeOn}
use Rattle.graph_nodes.specs.declared.tasks.Task.{Task}
use Rattle.graph_nodes.specs.declared.parted.Place.{Place}
use Rattle.graph_nodes.proofs.GetLemmas.{got_last}

-- the row at a place that has one
pub row_is : (tasks : List Task) (place : Place) (row : List ℕ) → HasPlace tasks place row →
    row_of tasks place ≡ row
unfolding row_of
row_is tasks place row has =
    ap (λ (t : Option Task). or_none (row_at_place t place.row)) has.here ∙ ap or_none has.at.there

-- the node at a place that has its row
pub node_is : (width : ℕ) (tasks : List Task) (order : List Place) (i : ℕ) (place : Place) (row : List ℕ) → slice_get order i ≡ Some place →
    HasPlace tasks place row → slice_get (nodes_of width tasks order).rows i ≡ Some row
unfolding rows_at
node_is width tasks order i place row at has =
    slice_get-map (row_of tasks) order i
    ∙ ap (option_map (row_of tasks)) at
    ∙ ap (λ r. Some r) (row_is tasks place row has)

pub no_node : (width : ℕ) (tasks : List Task) (order : List Place) (i : ℕ) → slice_get order i ≡ None → slice_get (nodes_of width tasks order).rows i ≡ None
unfolding rows_at
no_node width tasks order i at =
    slice_get-map (row_of tasks) order i ∙ ap (option_map (row_of tasks)) at

-- Where a node is.
pub record IsNodeAt (tasks : List Task) (order : List Place) (i : ℕ) (row : List ℕ) : Type 0 where
  pub place : Place
  pub at : slice_get order i ≡ Some place
  pub has : HasPlace tasks place row
  pub numbered : slice_get has.task.part.numbers.items place.row ≡ Some (suc i)

pub node_at : (width : ℕ) (tasks : List Task) (order : List Place) → AgreeOn width tasks order → (i : ℕ) (row : List ℕ) → slice_get (nodes_of width tasks order).rows i ≡ Some row →
    IsNodeAt tasks order i row
unfolding rows_at
node_at width tasks order are i row is =
    on (slice_get order i) refl (sym (slice_get-map (row_of tasks) order i) ∙ is)
  where
    on : (got : Option Place) → slice_get order i ≡ got →
        option_map (row_of tasks) got ≡ Some row → IsNodeAt tasks order i row
    on None at is = absurd (none-some row is)
    on (Some place) at is =
        let node = are.node i place at in
        let same : node.row ≡ row = sym (row_is tasks place node.row node.has) ∙ same_Some (row_of tasks place) row is in
        record {
          place = place;
          at = at;
          has = record {
            task = node.has.task;
            here = node.has.here;
            at = subst (IsAt node.has.task.part place.row) same node.has.at;
            home = ap (home_of (length tasks)) (sym same) ∙ node.has.home;
          };
          numbered = node.numbered;
        }

-- the same part has the same task
pub same_task : (tasks : List Task) (p q : ℕ) (a b : Task) → p ≡ q → slice_get tasks p ≡ Some a → slice_get tasks q ≡ Some b → a ≡ b
same_task tasks p q a b same first second =
    same_Some a b (sym first ∙ ap (slice_get tasks) same ∙ second)

-- a row has one place
pub one_place : (width : ℕ) (tasks : List Task) (order : List Place) → AgreeOn width tasks order → (first second : Place) (row : List ℕ) (a : HasPlace tasks first row)
    (b : HasPlace tasks second row) → (first.part ≡ second.part) × (first.row ≡ second.row) × (a.task ≡ b.task)
one_place width tasks order are first second row a b =
    let part : first.part ≡ second.part = sym a.home ∙ b.home in
    let task = same_task tasks first.part second.part a.task b.task part a.here b.here in
    let there : slice_get a.task.part.kept.rows second.row ≡ Some row =
    ap (λ (t : Task). slice_get t.part.kept.rows second.row) task ∙ b.at.there in
    (part, (are.ready first.part a.task a.here).distinct first.row second.row row a.at.there there, task)

-- the number that a part knows of a row is that of this row
pub number_is : (width : ℕ) (tasks : List Task) (order : List Place) → AgreeOn width tasks order → (place : Place) (row : List ℕ) (has : HasPlace tasks place row)
    (i : ℕ) → slice_get has.task.part.numbers.items place.row ≡ Some (suc i) → IsRow (nodes_of width tasks order) i row
number_is width tasks order are place row has i is =
    node_is width tasks order i place row (are.placed place.part place.row i has.task has.here is) has

-- a row is no node where its part knows no number of it
pub no_number : (width : ℕ) (tasks : List Task) (order : List Place) → AgreeOn width tasks order → (place : Place) (row : List ℕ) (has : HasPlace tasks place row) →
    ((i : ℕ) → slice_get has.task.part.numbers.items place.row ≢ Some (suc i)) →
    (i : ℕ) → slice_get (nodes_of width tasks order).rows i ≢ Some row
no_number width tasks order are place row has none i is =
    let node = node_at width tasks order are i row is in
    let same = one_place width tasks order are place node.place row has node.has in
    none i (ap (λ (t : Task). slice_get t.part.numbers.items place.row) same.2
    ∙ ap (λ r. slice_get node.has.task.part.numbers.items r) same.1 ∙ node.numbered)

-- a row is no node where its part doesn't have it
pub not_in_part : (width : ℕ) (tasks : List Task) (order : List Place) → AgreeOn width tasks order → (row : List ℕ) (task : Task) →
    slice_get tasks (home_of (length tasks) row) ≡ Some task →
    ((i : ℕ) → slice_get task.part.kept.rows i ≢ Some row) → (i : ℕ) → slice_get (nodes_of width tasks order).rows i ≢ Some row
not_in_part width tasks order are row task here none i is =
    let node = node_at width tasks order are i row is in
    let same = same_task tasks _ _ task node.has.task node.has.home here node.has.here in
    none node.place.row (ap (λ (t : Task). slice_get t.part.kept.rows node.place.row) same ∙ node.has.at.there)

-- no two nodes are the same
pub nodes_distinct : (width : ℕ) (tasks : List Task) (order : List Place) → AgreeOn width tasks order → IsDistinct (nodes_of width tasks order)
nodes_distinct width tasks order are i k row first second =
    let a = node_at width tasks order are i row first in
    let b = node_at width tasks order are k row second in
    let same = one_place width tasks order are a.place b.place row a.has b.has in
    let number : Some (suc i) ≡ Some (suc k) =
    sym a.numbered ∙ ap (λ (t : Task). slice_get t.part.numbers.items a.place.row) same.2
    ∙ ap (λ r. slice_get b.has.task.part.numbers.items r) same.1 ∙ b.numbered in
    let e = same_Some (suc i) (suc k) number in
    omega arith

pub ok_then : {X E : Type 0} (r : Result X E) (P Q : X → Type 0) → ((x : X) → P x → Q x) → IfOk r P → IfOk r Q
ok_then (Ok x) P Q then is = then x is
ok_then (Err fault) P Q then is = is

pub on_err : {X E : Type 0} (r : Result X E) (P : Type 0) → P → OnErr r P
on_err (Ok x) P is = tt
on_err (Err fault) P is = is

-- the part that was read
pub task_here : (tasks : List Task) (p : ℕ) (task : Task) → p < length tasks → task ≡ slice_index_or tasks p task →
    slice_get tasks p ≡ Some task
task_here tasks p task below is = slice_get_read tasks (length tasks) p task refl below is

-- the part in which a row belongs
pub home_task : (tasks : List Task) (row : List ℕ) (n home : ℕ) (task : Task) → n ≡ length tasks → home ≡ home_of n row →
    home < n → task ≡ slice_index_or tasks home task → slice_get tasks (home_of (length tasks) row) ≡ Some task
home_task tasks row n home task count is below there =
    let here = task_here tasks home task (omega arith) there in
    ap (slice_get tasks) (ap (λ k. home_of k row) (sym count) ∙ sym is) ∙ here

pub number_in : (width : ℕ) (tasks : List Task) (order : List Place) → AgreeOn width tasks order → (row : List ℕ) (task : Task) →
    slice_get tasks (home_of (length tasks) row) ≡ Some task → (place i : ℕ) → IsRow task.part.kept place row →
    slice_get task.part.numbers.items place ≡ Some (suc i) → IsRow (nodes_of width tasks order) i row
number_in width tasks order are row task here place i there is =
    node_is width tasks order i (record { part = home_of (length tasks) row; row = place }) row
    (are.placed (home_of (length tasks) row) place i task here is) (record {
      task = task;
      here = here;
      at = record { there = there; noted = slice_get_within task.part.numbers.items place (suc i) is };
      home = refl;
    })

pub no_number_in : (width : ℕ) (tasks : List Task) (order : List Place) → AgreeOn width tasks order → (row : List ℕ) (task : Task) →
    slice_get tasks (home_of (length tasks) row) ≡ Some task → (place : ℕ) → IsRow task.part.kept place row →
    ((i : ℕ) → slice_get task.part.numbers.items place ≢ Some (suc i)) →
    (i : ℕ) → slice_get (nodes_of width tasks order).rows i ≢ Some row
no_number_in width tasks order are row task here place there none i is =
    let node = node_at width tasks order are i row is in
    let same : task ≡ node.has.task = same_task tasks _ _ task node.has.task node.has.home here node.has.here in
    let at_node : slice_get task.part.kept.rows node.place.row ≡ Some row =
    ap (λ (t : Task). slice_get t.part.kept.rows node.place.row) same ∙ node.has.at.there in
    let at : place ≡ node.place.row = (are.ready _ task here).distinct place node.place.row row there at_node in
    none i (ap (λ (t : Task). slice_get t.part.numbers.items place) same
    ∙ ap (slice_get node.has.task.part.numbers.items) at ∙ node.numbered)

pub some_then : {X : Type 0} (r : Option X) (P Q : X → Type 0) → ((x : X) → P x → Q x) → IfSome r P → IfSome r Q
some_then (Some x) P Q then is = then x is
some_then None P Q then is = is

-- Nothing is in a part.
pub record IsEmpty (width : ℕ) (task : Task) : Type 0 where
  pub wide : task.part.kept.width ≡ width
  pub numbers : task.part.numbers.items ≡ []
  pub ready : IsReady task

pub empty_agree : (width : ℕ) (tasks : List Task) (order : List Place) → 0 < length tasks → order ≡ [] →
    ((p : ℕ) (task : Task) → slice_get tasks p ≡ Some task → IsEmpty width task) → AgreeOn width tasks order
empty_agree width tasks order some none each = record {
  some = some;
  few = omega (arith, ap length none);
  wide = λ p task here. (each p task here).wide;
  ready = λ p task here. (each p task here).ready;
  node = λ i place at. absurd (none-some place (sym (ap (λ (o : List Place). slice_get o i) none) ∙ at));
  placed = λ p r i task here at.
      absurd (none-some (suc i) (sym (ap (λ (o : List ℕ). slice_get o r) (each p task here).numbers) ∙ at));
}

pub one_more_empty : (width : ℕ) (tasks new : List Task) (task : Task) → new ≡ tasks ++ task ∷ [] → IsEmpty width task →
    ((p : ℕ) (t : Task) → slice_get tasks p ≡ Some t → IsEmpty width t) →
    (p : ℕ) (t : Task) → slice_get new p ≡ Some t → IsEmpty width t
one_more_empty width tasks new task more empty each p t at =
    elim (got_last tasks task p t (sym (ap (λ (o : List Task). slice_get o p) more) ∙ at)) [
      | inl before ↦ each p t before
      | inr (last, same) ↦ subst (IsEmpty width) (sym same) empty
    ]

-- the node at a place is what its part has there
pub node_there : (width : ℕ) (tasks : List Task) (order : List Place) → AgreeOn width tasks order → (i : ℕ) (place : Place)
    (task : Task) → slice_get order i ≡ Some place → task ≡ slice_index_or tasks place.part task →
    slice_get (nodes_of width tasks order).rows i ≡ slice_get task.part.kept.rows place.row
node_there width tasks order are i place task at is =
    let node = are.node i place at in
    let within = slice_get_within tasks place.part node.has.task node.has.here in
    let here = task_here tasks place.part task within is in
    let same : node.has.task ≡ task = same_task tasks place.part place.part node.has.task task refl node.has.here here in
    node_is width tasks order i place node.row at node.has ∙ sym node.has.at.there
    ∙ ap (λ (t : Task). slice_get t.part.kept.rows place.row) same
