use Rattle.std.proofs.Common.{refl, ◌∙◌}
use Rattle.graph_nodes.specs.Joined.{targets_of}
use Rattle.graph_nodes.specs.Parted.{IsSentTo}
use Rattle.graph_nodes.specs.Sending.{IsTarget}
use Rattle.graph_nodes.proofs.PairLemmas.{no_pairs}
use Rattle.graph_nodes.proofs.FoundLemmas.{send_step}
use Rattle.graph_nodes.proofs.parted.Parted.send.Goals as goal

pub loop-k-init : goal.loop-k-init
unfolding targets_of
loop-k-init c = record {
  ending = refl;
  wide = refl;
  same_width = refl;
  whole = c.requires.whole;
  same_nodes = refl;
  sent = rw c.in_ok-sent.ensures.items (no_pairs (IsTarget (IsSentTo c.args.self.now.tasks.items)));
}

pub loop-k-preserved : goal.loop-k-preserved
loop-k-preserved c = record {
  ending = refl;
  wide = refl;
  same_width = c.in_ok-target.ensures.same_width ∙ c.loop-k.invariant.same_width;
  whole = c.in_ok-target.ensures.whole;
  same_nodes = c.in_ok-target.ensures.same_nodes ∙ c.loop-k.invariant.same_nodes;
  sent = send_step c.args.self.now.width c.args.leads.now c.args.rows.now c.row_at.result.now c.loop-k.k
      c.loop-k.sent.items c.push.new.self.items c.in_ok-target.target (IsSentTo c.loop-k.self.tasks.items)
      (IsSentTo c.send_target.new.self.tasks.items) c.row_at.ensures.row c.in_ok-target.ensures.others
      c.loop-k.invariant.sent c.in_ok-target.ensures.sent c.in_ok-push.ensures.items;
}
