-- Rows that are being added.
use Rattle.std.specs.Prelude.{◌≡◌, ℕ, List, [], ◌∷◌, ◌++◌, Option}
use Rattle.interner.specs.Rows.{Rows}
use Rattle.graph_nodes.specs.Parted.{nodes_of, AgreeOn, IsSentTo}
use Rattle.graph_nodes.specs.Sending.{ArePairs, IsTarget}
use Rattle.graph_nodes.specs.Joined.{AreJoined}
use Rattle.graph_nodes.specs.declared.tasks.Task.{Task}
use Rattle.graph_nodes.specs.declared.joining.Batch.{Batch}
use Rattle.graph_nodes.specs.declared.joining.Joining.{Joining}
use Rattle.graph_nodes.specs.declared.joining.Stage.{Stage}
use Rattle.graph_nodes.specs.declared.joining.Stage.TheVariants.{Over, Begun}

-- the tasks were begun, the last one first
unfoldable pub AreBegun : {B : Type 0} → (B → Task → Type 0) → List B → List Task → Type 0
AreBegun is_of begun [] = begun ≡ []
AreBegun {B} is_of begun (task ∷ tasks) =
    (more : List B) × (last : B) × (begun ≡ more ++ last ∷ []) × is_of last task × AreBegun is_of more tasks

-- The targets were sent to the parts of these nodes, and the parts' tasks were begun.
pub record IsBatch {B : Type 0} (is_of : B → Task → Type 0) (batch : Batch B) (nodes : Rows) (targets : List (Option (List ℕ))) : Type 0 where
  pub tasks : List Task
  pub begun : AreBegun is_of batch.begun.items tasks
  pub whole : AgreeOn batch.width tasks batch.order.items
  pub same : nodes_of batch.width tasks batch.order.items ≡ nodes
  pub sent : ArePairs (IsTarget (IsSentTo tasks)) batch.sent.items targets

-- the targets were added, or their tasks were begun
abbrev pub IsStage : {B : Type 0} → (B → Task → Type 0) → Stage B → Rows → List (Option (List ℕ)) → Type 0
IsStage is_of (Over joined) nodes targets =
    (joined.nodes.width ≡ nodes.width) × AreJoined targets joined.fresh.items nodes.rows joined.nodes.rows
IsStage is_of (Begun batch) nodes targets = IsBatch is_of batch nodes targets

-- the targets are being added to these nodes
unfoldable pub IsJoining : {B : Type 0} → (B → Task → Type 0) → Joining B → Rows → List (Option (List ℕ)) → Type 0
IsJoining is_of joining nodes targets = IsStage is_of joining.stage nodes targets
