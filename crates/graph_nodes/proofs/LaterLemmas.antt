-- Nodes in parts, after their parts took in rows.
use Rattle.std.proofs.Common.{◌≡◌, ℕ, zero, suc, ◌*◌, ◌<◌, List, [], ◌∷◌, map, get_or, length, Some, arith, ap, sym, ◌∙◌, refl, subst, inl, inr}
use Rattle.std.specs.Prelude.{slice_get}
use Rattle.std.proofs.Math.ListN.{set}
use Rattle.std.proofs.lemmas.Bool.{cases_eq}
use Rattle.std.proofs.lemmas.List.{length-set}
use Rattle.std.proofs.lemmas.Option.{same_Some, slice_get_within, slice_get-get_or}
use Rattle.graph_nodes.specs.Homes.{home_of}
use Rattle.graph_nodes.specs.Parts.{Grows}
use Rattle.graph_nodes.specs.Tasks.{IsReady}
use Rattle.graph_nodes.specs.Parted.{row_of, rows_at, nodes_of, HasPlace, AgreeOn}
use Rattle.graph_nodes.specs.declared.tasks.Task.{Task}
use Rattle.graph_nodes.specs.declared.parted.Place.{Place}
use Rattle.graph_nodes.proofs.GetLemmas.{get_set_same, get_set_other}
use Rattle.graph_nodes.proofs.TaskLemmas.{grows_none, at_later}
use Rattle.graph_nodes.proofs.PartedLemmas.{row_is, same_task}

pub map_same : {X Y : Type 0} (f g : X → Y) (xs : List X) → ((i : ℕ) (x : X) → slice_get xs i ≡ Some x → f x ≡ g x) →
    map f xs ≡ map g xs
map_same f g [] same = refl
map_same f g (x ∷ xs) same =
    ap (λ y. y ∷ map f xs) (same zero x refl) ∙ ap (λ ys. g x ∷ ys) (map_same f g xs (λ i y at. same (suc i) y at))

-- A part took in rows.
pub record IsLater (task after : Task) : Type 0 where
  pub grows : Grows task.part after.part
  pub ready : IsReady after

pub record LaterAt (new : List Task) (p : ℕ) (task : Task) : Type 0 where
  pub after : Task
  pub here : slice_get new p ≡ Some after
  pub later : IsLater task after

-- Each part may have taken in rows.
pub record AreLater (tasks new : List Task) : Type 0 where
  pub same_count : length new ≡ length tasks
  pub each : (p : ℕ) (task : Task) → slice_get tasks p ≡ Some task → LaterAt new p task

record BeforeAt (tasks : List Task) (p : ℕ) (after : Task) : Type 0 where
  task : Task
  here : slice_get tasks p ≡ Some task
  later : IsLater task after

before_at : (tasks new : List Task) → AreLater tasks new → (p : ℕ) (after : Task) → slice_get new p ≡ Some after →
    BeforeAt tasks p after
before_at tasks new are p after is =
    let within : p < length tasks = omega (arith, slice_get_within new p after is, are.same_count) in
    let here : slice_get tasks p ≡ Some (get_or tasks p after) = slice_get-get_or tasks p after within in
    let at = are.each p (get_or tasks p after) here in
    let same : at.after ≡ after = same_Some at.after after (sym at.here ∙ is) in
    record {
      task = get_or tasks p after;
      here = here;
      later = subst (IsLater (get_or tasks p after)) same at.later;
    }

abbrev pub later_place : (tasks new : List Task) → AreLater tasks new → (place : Place) (row : List ℕ) →
    HasPlace tasks place row → HasPlace new place row
later_place tasks new are place row has = record {
  task = (are.each place.part has.task has.here).after;
  here = (are.each place.part has.task has.here).here;
  at = at_later has.task.part (are.each place.part has.task has.here).after.part place.row row
      (are.each place.part has.task has.here).later.grows has.at;
  home = ap (λ n. home_of n row) are.same_count ∙ has.home;
}

pub later_agree : (width : ℕ) (tasks new : List Task) (order : List Place) → AreLater tasks new →
    AgreeOn width tasks order → AgreeOn width new order
later_agree width tasks new order are agree = record {
  some = omega (arith, are.same_count, agree.some);
  few = agree.few;
  wide = λ p after is.
      let before = before_at tasks new are p after is in
      before.later.grows.same_width ∙ agree.wide p before.task before.here;
  ready = λ p after is. (before_at tasks new are p after is).later.ready;
  node = λ i place at.
      let node = agree.node i place at in
      let t = are.each place.part node.has.task node.has.here in
      record {
        row = node.row;
        has = later_place tasks new are place node.row node.has;
        numbered = t.later.grows.numbered place.row i node.numbered;
      };
  placed = λ p r i after is numbered.
      let before = before_at tasks new are p after is in
      agree.placed p r i before.task before.here (before.later.grows.no_others r i numbered);
}

pub later_nodes : (width : ℕ) (tasks new : List Task) (order : List Place) → AreLater tasks new →
    AgreeOn width tasks order → nodes_of width new order ≡ nodes_of width tasks order
unfolding rows_at
later_nodes width tasks new order are agree =
    ap (λ (r : List (List ℕ)). record { width = width; rows = r }) (map_same (row_of new) (row_of tasks) order
    (λ i place at.
    let node = agree.node i place at in
    row_is new place node.row (later_place tasks new are place node.row node.has)
    ∙ sym (row_is tasks place node.row node.has)))

-- one part took in rows
pub set_later : (width : ℕ) (tasks : List Task) (order : List Place) (p : ℕ) (task after : Task) →
    AgreeOn width tasks order → slice_get tasks p ≡ Some task → IsLater task after → AreLater tasks (set tasks p after)
set_later width tasks order p task after agree is later = record {
  same_count = length-set tasks p after;
  each = λ q t here. elim (cases_eq q p) [
    | inl same ↦ record {
      after = after;
      here = ap (slice_get (set tasks p after)) same ∙ get_set_same tasks p after (slice_get_within tasks p task is);
      later = subst (λ (x : Task). IsLater x after) (same_task tasks p q task t (sym same) is here) later;
    }
    | inr other ↦ record {
      after = t;
      here = get_set_other tasks p q after other ∙ here;
      later = record {
        grows = grows_none t.part (agree.ready q t here).distinct;
        ready = agree.ready q t here;
      };
    }
  ];
}

pub part_later : (task after : Task) → IsReady task → Grows task.part after.part → after.rows.items ≡ task.rows.items →
    after.count ≡ task.count → IsLater task after
part_later task after ready grows rows count = record {
  grows = grows;
  ready = record {
    whole = ap length rows ∙ ready.whole ∙ ap (λ k. k * task.part.kept.width) (sym count)
        ∙ ap (λ w. after.count * w) (sym grows.same_width);
    distinct = grows.distinct;
  };
}
