use Rattle.std.proofs.Common.{◌≡◌, true, false, ◌++◌, arith, ◌∙◌, rules, refl, inl, inr}
use Rattle.std.specs.Prelude.{slice_index_or}
use Rattle.graph_search.specs.Rounds.{edge_if}
use Rattle.graph_search.proofs.RoundLemmas.{IsNext, follow_more, followed_all}
use Rattle.graph_search.proofs.rounds.Round.follow.Goals.{then-is_new+in_ok-push, else-is_new, then-label-labels, else-label-labels}
use Rattle.graph_search.proofs.rounds.Round.follow.Goals as goal

pub loop-is_new-preserved : goal.loop-is_new-preserved
loop-is_new-preserved c =
    let was = c.loop-is_new.invariant in
    let low = was.label in
    let few = was.from in
    let k = c.loop-is_new.is_new-index in
    let is_new = slice_index_or c.args.fresh.now k false in
    let added : c.if-is_new.edges.items ≡ c.loop-is_new.edges.items ++ edge_if is_new c.loop-is_new.from c.loop-is_new.label =
    elim c.if-is_new.branch [
      | then-is_new+in_ok-push w ↦ let on : is_new ≡ true = search rules in rw on (search rules)
      | else-is_new w ↦ let off : is_new ≡ false = search rules in rw off (search rules)
    ] in
    let next : IsNext c.args.labels c.loop-is_new.from c.loop-is_new.label c.if-label-labels.from c.if-label-labels.label =
    elim c.if-label-labels.branch [
      | then-label-labels w ↦ inl (search rules, search rules, search rules)
      | else-label-labels w ↦ inr (search rules, search rules, search rules)
    ] in
    let more = follow_more c.args.labels c.loop-is_new.from c.loop-is_new.label k c.args.fresh.now is_new
    c.loop-is_new.edges.items c.if-is_new.edges.items c.if-label-labels.from c.if-label-labels.label c.loop-is_new-test.true
    refl added next in
    elim next [
      | inl last ↦
          let e = last.0 in
          let f = last.1 in
          let g = last.2 in
          record { label = omega arith; from = omega arith; rest = more ∙ was.rest }
      | inr other ↦
          let e = other.0 in
          let f = other.1 in
          let g = other.2 in
          record { label = omega arith; from = omega arith; rest = more ∙ was.rest }
    ]

pub returns : goal.returns
returns c =
    let over = c.loop-is_new-test.false in
    followed_all c.args.labels c.loop-is_new.from c.loop-is_new.label c.loop-is_new.is_new-index c.args.fresh.now
    c.loop-is_new.edges.items _ (omega arith) c.loop-is_new.invariant.rest
