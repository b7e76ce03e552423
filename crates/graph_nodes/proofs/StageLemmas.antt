-- A batch of targets, after all of its tasks are done.
use Rattle.std.proofs.Common.{◌≡◌, ℕ, List, [], Option, ap, ◌∙◌, subst}
use Rattle.interner.specs.Rows.{Rows}
use Rattle.graph_nodes.specs.Tasks.{IsTakenIn}
use Rattle.graph_nodes.specs.Parted.{nodes_of, nodes_in, AgreeOn, IsFoundFor, IsSentTo}
use Rattle.graph_nodes.specs.Sending.{ArePairs, IsTarget}
use Rattle.graph_nodes.specs.Joined.{AreJoined}
use Rattle.graph_nodes.specs.Joining.{AreBegun, IsBatch, IsStage, IsJoining}
use Rattle.graph_nodes.specs.declared.joining.Joining.{Joining}
use Rattle.graph_nodes.specs.declared.joining.Stage.{Stage}
use Rattle.graph_nodes.specs.declared.tasks.Task.{Task}
use Rattle.graph_nodes.specs.declared.parted.Parted.{Parted}
use Rattle.graph_nodes.specs.declared.joining.Batch.{Batch}
use Rattle.graph_nodes.proofs.LaterLemmas.{later_agree, later_nodes}
use Rattle.graph_nodes.proofs.PairLemmas.{pairs_map, target_then}
use Rattle.graph_nodes.proofs.FoundLemmas.{AreGoing, taken_later, taken_found}

-- parts and order agree
pub batch_agree : {B : Type 0} (is_of : B → Task → Type 0) (batch : Batch B) (nodes : Rows) (targets : List (Option (List ℕ)))
    (done : List Task) → IsBatch is_of batch nodes targets →
    ((tasks : List Task) → AreBegun is_of batch.begun.items tasks → ArePairs IsTakenIn tasks done) →
    AgreeOn batch.width done batch.order.items
batch_agree is_of batch nodes targets done is taken =
    later_agree batch.width is.tasks done batch.order.items (taken_later is.tasks done (taken is.tasks is.begun)) is.whole

none_added : (old new : List (List ℕ)) → new ≡ old → AreJoined [] [] old new
unfolding AreJoined
none_added old new same = same

-- no target was added yet
pub batch_going : {B : Type 0} (is_of : B → Task → Type 0) (batch : Batch B) (nodes : Rows) (targets : List (Option (List ℕ)))
    (parted : Parted) → parted.width ≡ batch.width → parted.order.items ≡ batch.order.items →
    IsBatch is_of batch nodes targets →
    ((tasks : List Task) → AreBegun is_of batch.begun.items tasks → ArePairs IsTakenIn tasks parted.tasks.items) →
    AreGoing batch.sent.items targets nodes parted [] 0
batch_going is_of batch nodes targets parted width order is taken =
    let done = parted.tasks.items in
    let pairs = taken is.tasks is.begun in
    let same : nodes_of batch.width done batch.order.items ≡ nodes =
    later_nodes batch.width is.tasks done batch.order.items (taken_later is.tasks done pairs) is.whole ∙ is.same in
    let rows : (nodes_in parted).rows ≡ nodes.rows =
    ap (λ o. (nodes_of batch.width done o).rows) order ∙ ap (λ (r : Rows). r.rows) same in
    record {
      found = pairs_map (IsTarget (IsSentTo is.tasks)) (IsTarget (IsFoundFor done)) batch.sent.items targets
          (target_then (IsSentTo is.tasks) (IsFoundFor done) (taken_found is.tasks done pairs)) is.sent;
      width = width ∙ ap (λ (r : Rows). r.width) same;
      joined = none_added nodes.rows (nodes_in parted).rows rows;
    }

-- what is known of rows that are being added, by how far it is
pub stage_of : {B : Type 0} (is_of : B → Task → Type 0) (joining : Joining B) (stage : Stage B) (nodes : Rows)
    (targets : List (Option (List ℕ))) → joining.stage ≡ stage → IsJoining is_of joining nodes targets →
    IsStage is_of stage nodes targets
unfolding IsJoining
stage_of is_of joining stage nodes targets same is = subst (λ s. IsStage is_of s nodes targets) same is

pub of_stage : {B : Type 0} (is_of : B → Task → Type 0) (stage : Stage B) (nodes : Rows) (targets : List (Option (List ℕ))) →
    IsStage is_of stage nodes targets → IsJoining is_of (record { stage = stage }) nodes targets
unfolding IsJoining
of_stage is_of stage nodes targets is = is
