-- Targets, one after another: where they are sent, where they are found, and whether they are new.
use Rattle.std.proofs.Common.{◌≡◌, ℕ, suc, ◌+◌, ◌*◌, ◌<◌, ◌≤◌, List, [], ◌∷◌, ◌++◌, take, get_or, length, Option, Some, None, Bool, false, arith, ap, sym, ◌∙◌, refl, subst}
use Rattle.std.specs.Prelude.{slice_get, slice_index_or, if◌then◌else◌}
use Rattle.std.proofs.Math.Nat.{zero-mul}
use Rattle.std.proofs.Math.Seq.{take-suc}
use Rattle.std.proofs.lemmas.Option.{slice_get_within, slice_get-get_or, get_or_from_slice_get}
use Rattle.interner.specs.Rows.{Rows, row_at}
use Rattle.graph_nodes.specs.Homes.{home_of}
use Rattle.graph_nodes.specs.Parts.{IsAt}
use Rattle.graph_nodes.specs.Tasks.{IsFound, IsTakenIn}
use Rattle.graph_nodes.specs.Parted.{nodes_in, HasPlace, IsFoundFor, IsSentTo}
use Rattle.graph_nodes.specs.Sending.{ArePairs, IsTarget}
use Rattle.graph_nodes.specs.Joined.{target_at, targets_of, AreJoined}
use Rattle.graph_nodes.specs.declared.tasks.Task.{Task}
use Rattle.graph_nodes.specs.declared.parted.Parted.{Parted}
use Rattle.graph_nodes.specs.declared.parted.Sent.{Sent}
use Rattle.graph_nodes.proofs.KeptLemmas.{take-all}
use Rattle.graph_nodes.proofs.PartedLemmas.{task_here, same_task}
use Rattle.graph_nodes.proofs.LaterLemmas.{AreLater}
use Rattle.graph_nodes.proofs.JoinLemmas.{joined_more}
use Rattle.graph_nodes.proofs.PairLemmas.{pairs_more, pairs_map, target_then}

pub target_row : (is_for : Sent → List ℕ → Type 0) (sent : Sent) (target : Option (List ℕ)) →
    IsTarget is_for (Some sent) target → (row : List ℕ) × (target ≡ Some row) × is_for sent row
target_row is_for sent (Some row) is = (row, refl, is)
target_row is_for sent None is = absurd is

pub no_target : (is_for : Sent → List ℕ → Type 0) (target : Option (List ℕ)) → IsTarget is_for None target → target ≡ None
no_target is_for (Some row) is = absurd is
no_target is_for None is = refl

targets_more : (width : ℕ) (leads : List Bool) (rows : List ℕ) (k : ℕ) →
    targets_of width leads rows (k + 1) ≡ targets_of width leads rows k ++ target_at width leads rows k ∷ []
unfolding targets_of
targets_more width leads rows k = let e : k + 1 ≡ suc k = omega arith in rw e refl

-- one target more was added
pub join_step : (width : ℕ) (leads : List Bool) (rows row : List ℕ) (k : ℕ) (flags after : List Bool) (flag : Bool)
    (old mid new : List (List ℕ)) → row ≡ row_at width rows k → AreJoined (targets_of width leads rows k) flags old mid →
    AreJoined ((if slice_index_or leads k false then Some row else None) ∷ []) (flag ∷ []) mid new →
    after ≡ flags ++ flag ∷ [] → AreJoined (targets_of width leads rows (k + 1)) after old new
join_step width leads rows row k flags after flag old mid new is are one more =
    let target : AreJoined (target_at width leads rows k ∷ []) (flag ∷ []) mid new =
    subst (λ (r : List ℕ). AreJoined ((if slice_index_or leads k false then Some r else None) ∷ []) (flag ∷ []) mid new) is one in
    rw (targets_more width leads rows k, more)
    (joined_more (targets_of width leads rows k) flags (target_at width leads rows k) flag old mid new are target)

-- one target more was sent
pub send_step : (width : ℕ) (leads : List Bool) (rows row : List ℕ) (k : ℕ) (sents after : List (Option Sent))
    (sent : Option Sent) (one other : Sent → List ℕ → Type 0) → row ≡ row_at width rows k →
    ((s : Sent) (r : List ℕ) → one s r → other s r) → ArePairs (IsTarget one) sents (targets_of width leads rows k) →
    IsTarget other sent (if slice_index_or leads k false then Some row else None) →
    after ≡ sents ++ sent ∷ [] → ArePairs (IsTarget other) after (targets_of width leads rows (k + 1))
send_step width leads rows row k sents after sent one other is keeps are last more =
    let target : IsTarget other sent (target_at width leads rows k) =
    subst (λ (r : List ℕ). IsTarget other sent (if slice_index_or leads k false then Some r else None)) is last in
    rw (targets_more width leads rows k, more)
    (pairs_more (IsTarget other) sents (targets_of width leads rows k) sent (target_at width leads rows k)
    (pairs_map (IsTarget one) (IsTarget other) sents (targets_of width leads rows k) (target_then one other keeps) are) target)

-- Where a row that was sent is found.
pub found_task : (tasks : List Task) (sent : Sent) (row : List ℕ) → IsFoundFor tasks sent row → (task : Task) →
    task ≡ slice_index_or tasks sent.part task →
    (sent.row < length task.places.items)
    × ((place : ℕ) → place ≡ slice_index_or task.places.items sent.row place →
    HasPlace tasks (record { part = sent.part; row = place }) row)
found_task tasks sent row found task is =
    let here = task_here tasks sent.part task (slice_get_within tasks sent.part found.task found.here) is in
    let same : found.task ≡ task = same_task tasks sent.part sent.part found.task task refl found.here here in
    let found_here : IsFound task sent.row row = subst (λ (t : Task). IsFound t sent.row row) same found.found in (
      slice_get_within task.places.items sent.row found_here.place found_here.noted,
      λ place at.
          let e : place ≡ found_here.place =
          at ∙ get_or_from_slice_get task.places.items sent.row found_here.place place found_here.noted in
          record {
            task = task;
            here = here;
            at = subst (λ (p : ℕ). IsAt task.part p row) (sym e) found_here.at;
            home = found.home;
          },
    )

-- the parts took in rows
pub taken_later : (tasks done : List Task) → ArePairs IsTakenIn tasks done → AreLater tasks done
taken_later tasks done pairs = record {
  same_count = sym pairs.same_count;
  each = λ p task here.
      let within : p < length done = omega (arith, slice_get_within tasks p task here, pairs.same_count) in
      let there = slice_get-get_or done p task within in
      let taken = pairs.each p task (get_or done p task) here there in
      record {
        after = get_or done p task;
        here = there;
        later = record {
          grows = taken.grows;
          ready = record {
            whole = ap length taken.found.none_left
                ∙ sym (zero-mul (get_or done p task).part.kept.width)
                ∙ ap (λ k. k * (get_or done p task).part.kept.width) (sym taken.found.no_count);
            distinct = taken.grows.distinct;
          };
        };
      };
}

-- a row that was sent is found
pub taken_found : (tasks done : List Task) → ArePairs IsTakenIn tasks done → (sent : Sent) (row : List ℕ) →
    IsSentTo tasks sent row → IsFoundFor done sent row
taken_found tasks done pairs sent row is =
    let within : sent.part < length done =
    omega (arith, slice_get_within tasks sent.part is.task is.here, pairs.same_count) in
    let there = slice_get-get_or done sent.part is.task within in
    let taken = pairs.each sent.part is.task (get_or done sent.part is.task) is.here there in
    record {
      task = get_or done sent.part is.task;
      here = there;
      found = subst (IsFound (get_or done sent.part is.task) sent.row) is.is.same (taken.found.each sent.row is.is.below);
      home = ap (λ n. home_of n row) (sym pairs.same_count) ∙ is.home;
    }

-- The first targets were added to nodes in parts, and the others are found.
pub record AreGoing (sents : List (Option Sent)) (targets : List (Option (List ℕ))) (nodes : Rows) (parted : Parted)
    (fresh : List Bool) (k : ℕ) : Type 0 where
  pub found : ArePairs (IsTarget (IsFoundFor parted.tasks.items)) sents targets
  pub width : parted.width ≡ nodes.width
  pub joined : AreJoined (take k targets) fresh nodes.rows (nodes_in parted).rows

-- the target of what was sent
pub going_target : (sents : List (Option Sent)) (targets : List (Option (List ℕ))) (nodes : Rows) (parted : Parted)
    (fresh : List Bool) (k : ℕ) (sent : Option Sent) → AreGoing sents targets nodes parted fresh k →
    slice_get sents k ≡ Some sent → (target : Option (List ℕ)) × IsTarget (IsFoundFor parted.tasks.items) sent target
going_target sents targets nodes parted fresh k sent going at =
    let within : k < length targets = omega (arith, slice_get_within sents k sent at, going.found.same_count) in
    (get_or targets k None, going.found.each k sent (get_or targets k None) at (slice_get-get_or targets k None within))

pub going_step : (sents : List (Option Sent)) (targets : List (Option (List ℕ))) (nodes : Rows) (parted after : Parted)
    (fresh more : List Bool) (k : ℕ) (sent : Option Sent) (flag : Bool) → AreGoing sents targets nodes parted fresh k →
    slice_get sents k ≡ Some sent → after.width ≡ parted.width →
    ((other : Sent) (row : List ℕ) → IsFoundFor parted.tasks.items other row → IsFoundFor after.tasks.items other row) →
    ((target : Option (List ℕ)) → IsTarget (IsFoundFor parted.tasks.items) sent target →
    AreJoined (target ∷ []) (flag ∷ []) (nodes_in parted).rows (nodes_in after).rows) →
    more ≡ fresh ++ flag ∷ [] → AreGoing sents targets nodes after more (k + 1)
going_step sents targets nodes parted after fresh more k sent flag going at width others one grown =
    let within : k < length targets = omega (arith, slice_get_within sents k sent at, going.found.same_count) in
    let target = going_target sents targets nodes parted fresh k sent going at in
    let there = going.found.each k sent (get_or targets k None) at (slice_get-get_or targets k None within) in
    let e : k + 1 ≡ suc k = omega arith in
    let longer : take (k + 1) targets ≡ take k targets ++ get_or targets k None ∷ [] =
    ap (λ n. take n targets) e ∙ take-suc targets k None within in
    record {
      found = pairs_map (IsTarget (IsFoundFor parted.tasks.items)) (IsTarget (IsFoundFor after.tasks.items)) sents targets
          (target_then (IsFoundFor parted.tasks.items) (IsFoundFor after.tasks.items) others) going.found;
      width = width ∙ going.width;
      joined = rw (longer, grown) (joined_more (take k targets) fresh (get_or targets k None) flag nodes.rows
          (nodes_in parted).rows (nodes_in after).rows going.joined (one (get_or targets k None) there));
    }

pub going_end : (sents : List (Option Sent)) (targets : List (Option (List ℕ))) (nodes : Rows) (parted : Parted)
    (fresh : List Bool) (k : ℕ) → AreGoing sents targets nodes parted fresh k → length sents ≤ k →
    AreJoined targets fresh nodes.rows (nodes_in parted).rows
going_end sents targets nodes parted fresh k going past =
    let all : length targets ≤ k = omega (arith, past, going.found.same_count) in
    let e : take k targets ≡ targets = take-all targets k all in
    rw e at going.joined
