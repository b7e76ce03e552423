use Rattle.std.proofs.Common.{◌≡◌, ℕ, ◌+◌, ◌-◌, ◌*◌, ◌<◌, ◌≤◌, List, Bool, [], ◌∷◌, ◌++◌, length, take, drop, arith, ap, sym, ◌∙◌, subst, rules, length-append}
use Rattle.std.specs.Prelude.{Option, Some}
use Rattle.std.proofs.Math.Nat.{mul-le-mul_right}
use borrow.Rule.Slice.PartMut.{put_mid, post_of}
use Rattle.interner.proofs.RowLemmas.{row_ends}
use Rattle.graph_search.specs.Graphs.{LeadsTo}
use Rattle.graph_search.specs.Searches.{AreSteps}
use Rattle.graph_search.proofs.TreeLemmas.{steps_more, row_written, row_fits}
use Rattle.graph_search.proofs.ahead.Ahead.step.Goals as goal

pub loop-label-preserved : goal.loop-label-preserved
loop-label-preserved g c =
    let was = c.loop-label.invariant in
    let width = g.G.Graph.width c.args.graph.now in
    let count = g.G.Graph.label_count c.args.graph.now in
    let done = c.loop-label.self.leads.items in
    let items = c.loop-label.self.rows.items in
    let to = c.step.new.to in
    let first = c.args.first in
    let label = c.loop-label.label in
    let w = c.len-width.result in
    let leads : c.push.new.self.items ≡ done ++ c.in_ok-leads.leads ∷ [] = c.in_ok-push.ensures.items in
    let more : length (done ++ c.in_ok-leads.leads ∷ []) ≡ length done + 1 =
    length-append done (c.in_ok-leads.leads ∷ []) in
    let numbers = was.count in
    let ending = was.ending ∙ was.same_labels in
    let before = c.loop-label-test.true in
    let below : label < count = omega arith in
    let done_below : length done < count = omega arith in
    let same_width : w ≡ width = search rules in
    let total : length items ≡ count * width = was.same_room ∙ c.requires.room in
    let fits : (label - first) * w + w ≤ length items =
    row_fits w first label count (length items) below (total ∙ ap (λ (v : ℕ). count * v) (sym same_width)) in
    let room : (length done + 1) * width ≤ length items = rw total (row_ends (length done) count width done_below) in
    let long : c.loop-label.self.rows.len ≡ length items = search rules in
    let wide : length to ≡ width = search rules in
    let written = row_written w (label - first) c.loop-label.self.rows.len items c.as_mut_slice.result.now to
    c.as_mut_slice.ensures.value long fits (wide ∙ sym same_width) in
    let place : label - first ≡ length done = omega arith in
    let start : (label - first) * w ≡ length done * width =
    ap (λ (n : ℕ). n * w) place ∙ ap (λ (v : ℕ). length done * v) same_width in
    let rest = post_of ((label - first) * w) ((label - first) * w + w - (label - first) * w) items in
    let put = put_mid ((label - first) * w) ((label - first) * w + w - (label - first) * w) c.as_mut_slice.result.now
    to in
    let after = take c.loop-label.self.rows.len (put ++ drop (length put) items) in
    let is : after ≡ take (length done * width) items ++ (to ++ rest) = written.0 ∙ ap (λ (n : ℕ). take n items ++ (to ++ rest)) start in
    record {
      same_graph = c.step.ensures.same_graph ∙ was.same_graph;
      same_labels = c.step.ensures.same_labels ∙ was.same_labels;
      same_width = c.step.ensures.same_width ∙ was.same_width;
      same_node = was.same_node;
      same_room = written.1 ∙ was.same_room;
      ending = was.ending ∙ sym c.step.ensures.same_labels;
      kept = λ n s means. c.step.ensures.kept n s (was.kept n s means);
      one_node = λ _. c.step.ensures.one_node;
      count = rw leads (omega arith);
      few = rw leads (omega arith);
      steps = λ s means.
          let node = c.as_slice.ensures.value ∙ was.same_node in
          let now = subst (λ (n : List ℕ). g.G.Graph.meaning c.loop-label.graph n ≡ Some s) (sym node)
          (was.kept c.args.self.now.node.items s means) in
          let led : LeadsTo (g.G.Graph.meaning c.step.new.self) c.in_ok-leads.leads to
          (g.G.Graph.next c.loop-label.graph s (first + length done)) =
          subst (λ (l : ℕ). LeadsTo (g.G.Graph.meaning c.step.new.self) c.in_ok-leads.leads to
          (g.G.Graph.next c.loop-label.graph s l)) (sym was.count) (c.in_ok-leads.ensures.value s now) in
          let all = steps_more (g.G.Graph.next c.loop-label.graph) (g.G.Graph.meaning c.loop-label.graph)
          (g.G.Graph.meaning c.step.new.self) width s first done items to rest after c.in_ok-leads.leads
          c.step.ensures.kept room wide is (was.steps s means) led in
          subst (λ (next : g.G.Graph.State → ℕ → Option g.G.Graph.State). AreSteps next
          (g.G.Graph.meaning c.step.new.self) width s first c.push.new.self.items after) (sym c.step.ensures.same_graph)
          (subst (λ (bs : List Bool). AreSteps (g.G.Graph.next c.loop-label.graph) (g.G.Graph.meaning c.step.new.self)
          width s first bs after) (sym leads) all);
    }

pub returns-clause-whole : goal.returns-clause-whole
returns-clause-whole g c =
    let was = c.loop-label.invariant in
    let width = g.G.Graph.width c.args.graph.now in
    let count = g.G.Graph.label_count c.args.graph.now in
    let more = mul-le-mul_right width was.few in
    let total : length c.loop-label.self.rows.items ≡ count * width = was.same_room ∙ c.requires.room in
    rw total more
