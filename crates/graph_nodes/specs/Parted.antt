-- Nodes in parts.
use Rattle.std.specs.Prelude.{◌≡◌, ℕ, suc, ◌<◌, ◌^◌, List, [], map, length, slice_get, Option, Some, None}
use Rattle.interner.specs.Rows.{Rows}
use Rattle.graph_nodes.specs.Homes.{home_of}
use Rattle.graph_nodes.specs.Parts.{IsAt}
use Rattle.graph_nodes.specs.Tasks.{IsReady, IsSent, IsFound}
use Rattle.graph_nodes.specs.declared.tasks.Task.{Task}
use Rattle.graph_nodes.specs.declared.parted.Parted.{Parted}
use Rattle.graph_nodes.specs.declared.parted.Place.{Place}
use Rattle.graph_nodes.specs.declared.parted.Sent.{Sent}

-- the row at this place of a part
abbrev pub row_at_place : Option Task → ℕ → Option (List ℕ)
row_at_place None place = None
row_at_place (Some task) place = slice_get task.part.kept.rows place

-- the row, if there is one
abbrev pub or_none : Option (List ℕ) → List ℕ
or_none None = []
or_none (Some row) = row

-- the row at a place
unfoldable pub row_of : List Task → Place → List ℕ
row_of tasks place = or_none (row_at_place (slice_get tasks place.part) place.row)

-- the rows at these places
unfoldable pub rows_at : List Task → List Place → List (List ℕ)
rows_at tasks order = map (row_of tasks) order

-- the nodes: row i is the row at place i
abbrev pub nodes_of : ℕ → List Task → List Place → Rows
nodes_of width tasks order = record { width = width; rows = rows_at tasks order }

-- The row is at this place, in the part in which it belongs.
pub record HasPlace (tasks : List Task) (place : Place) (row : List ℕ) : Type 0 where
  pub task : Task
  pub here : slice_get tasks place.part ≡ Some task
  pub at : IsAt task.part place.row row
  pub home : home_of (length tasks) row ≡ place.part

-- Node i has this place, and its part knows its number.
pub record IsNode (tasks : List Task) (i : ℕ) (place : Place) : Type 0 where
  pub row : List ℕ
  pub has : HasPlace tasks place row
  pub numbered : slice_get has.task.part.numbers.items place.row ≡ Some (suc i)

-- Parts and order agree: each node has its row, and each number of a row its node.
pub record AgreeOn (width : ℕ) (tasks : List Task) (order : List Place) : Type 0 where
  pub some : 0 < length tasks
  pub few : length order < 2 ^ 32
  pub wide : (p : ℕ) (task : Task) → slice_get tasks p ≡ Some task → task.part.kept.width ≡ width
  pub ready : (p : ℕ) (task : Task) → slice_get tasks p ≡ Some task → IsReady task
  pub node : (i : ℕ) (place : Place) → slice_get order i ≡ Some place → IsNode tasks i place
  pub placed : (p r i : ℕ) (task : Task) → slice_get tasks p ≡ Some task →
      slice_get task.part.numbers.items r ≡ Some (suc i) → slice_get order i ≡ Some (record { part = p; row = r })

-- the nodes, and that their parts and their order agree
abbrev pub nodes_in : Parted → Rows
nodes_in parted = nodes_of parted.width parted.tasks.items parted.order.items

abbrev pub IsParted : Parted → Type 0
IsParted parted = AgreeOn parted.width parted.tasks.items parted.order.items

-- The row was sent to the part in which it belongs.
pub record IsSentTo (tasks : List Task) (sent : Sent) (row : List ℕ) : Type 0 where
  pub task : Task
  pub here : slice_get tasks sent.part ≡ Some task
  pub is : IsSent task sent.row row
  pub home : home_of (length tasks) row ≡ sent.part

-- The place of a row that was sent is noted.
pub record IsFoundFor (tasks : List Task) (sent : Sent) (row : List ℕ) : Type 0 where
  pub task : Task
  pub here : slice_get tasks sent.part ≡ Some task
  pub found : IsFound task sent.row row
  pub home : home_of (length tasks) row ≡ sent.part
