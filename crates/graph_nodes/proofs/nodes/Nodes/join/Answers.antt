use Rattle.std.proofs.Common.{refl, ◌∙◌}
use Rattle.graph_nodes.specs.Joined.{targets_of}
use Rattle.graph_nodes.proofs.JoinLemmas.{none_joined}
use Rattle.graph_nodes.proofs.FoundLemmas.{join_step}
use Rattle.graph_nodes.proofs.nodes.Nodes.join.Goals as goal

pub loop-k-init : goal.loop-k-init
unfolding targets_of
loop-k-init c = record {
  ending = refl;
  wide = c.width-width.ensures;
  same_width = refl;
  joined = rw c.new-fresh.ensures.items (none_joined c.args.self.rows);
}

pub loop-k-preserved : goal.loop-k-preserved
loop-k-preserved c = record {
  ending = refl;
  wide = c.width-width.ensures;
  same_width = c.in_ok-new.ensures.same_width ∙ c.loop-k.invariant.same_width;
  joined = join_step c.width-width.result c.args.leads.now c.args.rows.now c.row_at.result.now c.loop-k.k
      c.loop-k.fresh.items c.push.new.self.items c.in_ok-new.new c.args.self.rows c.loop-k.self.rows
      c.join_one.new.self.rows c.row_at.ensures.row c.loop-k.invariant.joined c.in_ok-new.ensures.joined
      c.in_ok-push.ensures.items;
}
