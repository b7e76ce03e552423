use Rattle.std.proofs.Common.{◌≡◌, ℕ, ◌+◌, ◌-◌, ◌*◌, ◌<◌, ◌≤◌, [], ◌∷◌, ◌++◌, length, take, drop, arith, ap, sym, ◌∙◌, subst, rules, refl, length-append}
use Rattle.std.specs.Prelude.{Option, Some}
use borrow.Rule.Slice.PartMut.{put_mid, post_of}
use Rattle.interner.specs.Rows.{row_at}
use Rattle.interner.proofs.RowLemmas.{row_ends, row_begins}
use Rattle.graph_search.specs.Graphs.{LeadsTo}
use Rattle.graph_search.specs.Rounds.{AreRoundSteps}
use Rattle.graph_search.proofs.RoundLemmas.{step_there, written_at, round_steps_more, still_some, part_is_row}
use Rattle.graph_search.proofs.rounds.Round.step.Goals as goal

pub step-requires-clause-meant : goal.step-requires-clause-meant
step-requires-clause-meant g c =
    let was = c.loop-place.invariant in
    let before = c.loop-place-test.true in
    let same = was.same_count in
    let width = g.G.Graph.width c.args.graph.now in
    let same_width : c.width-width.result ≡ width = search rules in
    let part = part_is_row c.row_start-start.result c.width-width.result c.loop-place.place c.args.self.now.nodes.items
    c.as_slice.result.now c.row_start-start.ensures.start (c.as_slice.ensures.value ∙ was.same_nodes) in
    let here = c.requires.meant c.loop-place.place (omega arith) in
    rw part (rw same_width (still_some (g.G.Graph.meaning c.args.graph.now) (g.G.Graph.meaning c.loop-place.graph)
    (row_at width c.args.self.now.nodes.items c.loop-place.place) was.kept here))

pub returns-in_err-push-clause-kept : goal.returns-in_err-push-clause-kept
returns-in_err-push-clause-kept g c = λ n s means. c.step.ensures.kept n s (c.loop-place.invariant.kept n s means)

pub loop-place-preserved-then-label-labels : goal.loop-place-preserved-then-label-labels
loop-place-preserved-then-label-labels g c =
    let was = c.loop-place.invariant in
    let before = c.loop-place-test.true in
    let same = was.same_count in
    let few = c.requires.few in
    let some = c.requires.some in
    let branch = c.if-label-labels.true in
    let width = g.G.Graph.width c.args.graph.now in
    let labels = g.G.Graph.label_count c.args.graph.now in
    let w = c.width-width.result in
    let place = c.loop-place.place in
    let label = c.loop-place.label in
    let done = c.loop-place.self.leads.items in
    let items = c.loop-place.self.rows.items in
    let nodes = c.loop-place.self.nodes.items in
    let to = c.step.new.to in
    let flag = c.in_ok-leads.leads in
    let same_width : w ≡ width = search rules in
    let same_labels : c.label_count-labels.result ≡ labels = search rules in
    let leads : c.push.new.self.items ≡ done ++ flag ∷ [] = c.in_ok-push.ensures.items in
    let more : length (done ++ flag ∷ []) ≡ length done + 1 = length-append done (flag ∷ []) in
    let number = was.count in
    let low = was.label in
    let below : place < c.args.self.now.count = omega arith in
    let within : length done < 32768 * labels =
    rw number (step_there place label labels c.args.self.now.count 32768 below low few) in
    let total : length items ≡ 32768 * labels * width = was.same_rows ∙ c.requires.rows in
    let room : (length done + 1) * width ≤ length items = rw total (row_ends (length done) (32768 * labels) width within) in
    let begins = row_begins (length done) width in
    let long : c.loop-place.self.rows.len ≡ length items = search rules in
    let wide : length to ≡ width = search rules in
    let from : c.row_start-start-in-loop-place.result ≡ length done * w = search rules in
    let ends : length done * w + w ≤ length items = rw same_width (omega arith) in
    let written = written_at c.row_start-start-in-loop-place.result w (length done) c.loop-place.self.rows.len items
    c.as_mut_slice.result.now to from c.as_mut_slice.ensures.value long ends (wide ∙ sym same_width) in
    let put = put_mid c.row_start-start-in-loop-place.result
    (c.row_start-start-in-loop-place.result + w - c.row_start-start-in-loop-place.result) c.as_mut_slice.result.now to in
    let after = take c.loop-place.self.rows.len (put ++ drop (length put) items) in
    let rest = post_of (length done * w) (length done * w + w - length done * w) items in
    let is = written.0 ∙ ap (λ (v : ℕ). take (length done * v) items ++ (to ++ rest)) same_width in
    let part = part_is_row c.row_start-start.result w place nodes c.as_slice.result.now c.row_start-start.ensures.start
    c.as_slice.ensures.value in
    let led : (s : g.G.Graph.State) → g.G.Graph.meaning c.args.graph.now (row_at width nodes place) ≡ Some s →
    LeadsTo (g.G.Graph.meaning c.step.new.self) flag to (g.G.Graph.next c.loop-place.graph s label) = λ s means.
    let now : g.G.Graph.meaning c.loop-place.graph (row_at w nodes place) ≡ Some s =
    rw same_width (was.kept (row_at width nodes place) s means) in
    c.in_ok-leads.ensures.value s (rw part now) in
    let steps = round_steps_more (g.G.Graph.next c.loop-place.graph) (g.G.Graph.meaning c.args.graph.now)
    (g.G.Graph.meaning c.loop-place.graph) (g.G.Graph.meaning c.step.new.self) width labels nodes done items to rest after flag
    place label c.step.ensures.kept room wide is number low was.steps led in
    let next_place = row_begins place labels in
    let counted : length c.push.new.self.items ≡ length done + 1 = rw leads more in
    record {
      same_graph = c.step.ensures.same_graph ∙ was.same_graph;
      same_labels = c.step.ensures.same_labels ∙ was.same_labels;
      same_width = c.step.ensures.same_width ∙ was.same_width;
      kept = λ n s means. c.step.ensures.kept n s (was.kept n s means);
      one_node = λ _. c.step.ensures.one_node;
      one_then = λ _. c.step.ensures.one_node;
      same_first = was.same_first;
      same_count = was.same_count;
      same_nodes = was.same_nodes;
      same_rows = written.1 ∙ was.same_rows;
      place = omega arith;
      label = omega arith;
      count = omega arith;
      ended = λ over. refl;
      steps = rw leads (subst (λ (next : g.G.Graph.State → ℕ → Option g.G.Graph.State). AreRoundSteps next
          (g.G.Graph.meaning c.args.graph.now) (g.G.Graph.meaning c.step.new.self) width labels nodes
          (done ++ flag ∷ []) after) (sym c.step.ensures.same_graph) steps);
    }

pub loop-place-preserved : goal.loop-place-preserved
loop-place-preserved g c =
    let was = c.loop-place.invariant in
    let before = c.loop-place-test.true in
    let same = was.same_count in
    let few = c.requires.few in
    let some = c.requires.some in
    let branch = c.if-label-labels.false in
    let width = g.G.Graph.width c.args.graph.now in
    let labels = g.G.Graph.label_count c.args.graph.now in
    let w = c.width-width.result in
    let place = c.loop-place.place in
    let label = c.loop-place.label in
    let done = c.loop-place.self.leads.items in
    let items = c.loop-place.self.rows.items in
    let nodes = c.loop-place.self.nodes.items in
    let to = c.step.new.to in
    let flag = c.in_ok-leads.leads in
    let same_width : w ≡ width = search rules in
    let same_labels : c.label_count-labels.result ≡ labels = search rules in
    let leads : c.push.new.self.items ≡ done ++ flag ∷ [] = c.in_ok-push.ensures.items in
    let more : length (done ++ flag ∷ []) ≡ length done + 1 = length-append done (flag ∷ []) in
    let number = was.count in
    let low = was.label in
    let below : place < c.args.self.now.count = omega arith in
    let within : length done < 32768 * labels =
    rw number (step_there place label labels c.args.self.now.count 32768 below low few) in
    let total : length items ≡ 32768 * labels * width = was.same_rows ∙ c.requires.rows in
    let room : (length done + 1) * width ≤ length items = rw total (row_ends (length done) (32768 * labels) width within) in
    let begins = row_begins (length done) width in
    let long : c.loop-place.self.rows.len ≡ length items = search rules in
    let wide : length to ≡ width = search rules in
    let from : c.row_start-start-in-loop-place.result ≡ length done * w = search rules in
    let ends : length done * w + w ≤ length items = rw same_width (omega arith) in
    let written = written_at c.row_start-start-in-loop-place.result w (length done) c.loop-place.self.rows.len items
    c.as_mut_slice.result.now to from c.as_mut_slice.ensures.value long ends (wide ∙ sym same_width) in
    let put = put_mid c.row_start-start-in-loop-place.result
    (c.row_start-start-in-loop-place.result + w - c.row_start-start-in-loop-place.result) c.as_mut_slice.result.now to in
    let after = take c.loop-place.self.rows.len (put ++ drop (length put) items) in
    let rest = post_of (length done * w) (length done * w + w - length done * w) items in
    let is = written.0 ∙ ap (λ (v : ℕ). take (length done * v) items ++ (to ++ rest)) same_width in
    let part = part_is_row c.row_start-start.result w place nodes c.as_slice.result.now c.row_start-start.ensures.start
    c.as_slice.ensures.value in
    let led : (s : g.G.Graph.State) → g.G.Graph.meaning c.args.graph.now (row_at width nodes place) ≡ Some s →
    LeadsTo (g.G.Graph.meaning c.step.new.self) flag to (g.G.Graph.next c.loop-place.graph s label) = λ s means.
    let now : g.G.Graph.meaning c.loop-place.graph (row_at w nodes place) ≡ Some s =
    rw same_width (was.kept (row_at width nodes place) s means) in
    c.in_ok-leads.ensures.value s (rw part now) in
    let steps = round_steps_more (g.G.Graph.next c.loop-place.graph) (g.G.Graph.meaning c.args.graph.now)
    (g.G.Graph.meaning c.loop-place.graph) (g.G.Graph.meaning c.step.new.self) width labels nodes done items to rest after flag
    place label c.step.ensures.kept room wide is number low was.steps led in
    let next_place = row_begins place labels in
    let counted : length c.push.new.self.items ≡ length done + 1 = rw leads more in
    record {
      same_graph = c.step.ensures.same_graph ∙ was.same_graph;
      same_labels = c.step.ensures.same_labels ∙ was.same_labels;
      same_width = c.step.ensures.same_width ∙ was.same_width;
      kept = λ n s means. c.step.ensures.kept n s (was.kept n s means);
      one_node = λ _. c.step.ensures.one_node;
      one_then = λ _. c.step.ensures.one_node;
      same_first = was.same_first;
      same_count = was.same_count;
      same_nodes = was.same_nodes;
      same_rows = written.1 ∙ was.same_rows;
      place = omega arith;
      label = omega arith;
      count = omega arith;
      ended = λ over. omega arith;
      steps = rw leads (subst (λ (next : g.G.Graph.State → ℕ → Option g.G.Graph.State). AreRoundSteps next
          (g.G.Graph.meaning c.args.graph.now) (g.G.Graph.meaning c.step.new.self) width labels nodes
          (done ++ flag ∷ []) after) (sym c.step.ensures.same_graph) steps);
    }
