use Rattle.std.proofs.Common.{◌≡◌, length, ap, sym, ◌∙◌, subst}
use Rattle.interner.specs.Rows.{Rows}
use Rattle.graph_nodes.specs.Forms.{nodes_kept}
use Rattle.graph_nodes.specs.Joined.{targets_of, AreJoined}
use Rattle.graph_nodes.specs.declared.joining.Stage.TheVariants.{Over}
use Rattle.graph_nodes.proofs.StageLemmas.{of_stage}
use Rattle.graph_nodes.proofs.nodes.Nodes.start.Goals as goal

pub returns-in_ok-joined-in-Whole : goal.returns-in_ok-joined-in-Whole
returns-in_ok-joined-in-Whole g c =
    let joined = c.in_ok-joined-in-Whole.joined in
    let leads = c.args.leads.now in
    let same = c.in-Whole.whole-is ∙ sym (ap nodes_kept c.in-Whole.is) ∙ c.self.view_is in
    of_stage g.C.Crew.is_of (Over joined) c.args.self
    (targets_of c.args.self.width leads c.args.rows.now (length leads))
    (subst (λ (r : Rows). (joined.nodes.width ≡ r.width)
    × AreJoined (targets_of r.width leads c.args.rows.now (length leads)) joined.fresh.items r.rows joined.nodes.rows)
    same (c.in_ok-joined-in-Whole.ensures.width, c.in_ok-joined-in-Whole.ensures.joined))
