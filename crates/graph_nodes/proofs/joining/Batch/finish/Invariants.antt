use Rattle.std.proofs.Common.{◌≡◌, ℕ, List, Option, length}
use Rattle.interner.specs.Rows.{Rows}
use Rattle.graph_nodes.specs.Parted.{IsParted}
use Rattle.graph_nodes.specs.Joining.{IsBatch}
use Rattle.graph_nodes.proofs.FoundLemmas.{AreGoing}
use Rattle.graph_nodes.proofs.joining.Batch.finish.Given as goal

-- the first targets were added
abbrev pub invariant-loop-k : goal.invariant-loop-k
invariant-loop-k g l = record {
  ending : l.k-end ≡ length l.fn.self.sent.items;
  whole : IsParted l.parted;
  going : (nodes : Rows) (targets : List (Option (List ℕ))) → IsBatch g.C.Crew.is_of l.fn.self nodes targets →
      AreGoing l.fn.self.sent.items targets nodes l.parted l.fresh.items l.k;
}
