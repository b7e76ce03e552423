use Rattle.std.proofs.Common.{◌≡◌, ℕ, List, length, arith, ap, sym, ◌∙◌, subst, inl, inr}
use Rattle.std.proofs.lemmas.Bool.{cases_lt}
use Rattle.interner.specs.Rows.{row_at}
use Rattle.graph_nodes.specs.Parts.{IsAt}
use Rattle.graph_nodes.specs.Tasks.{task_row}
use Rattle.graph_nodes.proofs.TaskLemmas.{grows_both, found_later, found_last}
use Rattle.graph_nodes.proofs.tasks.Task.take_in.Goals as goal

pub loop-k-preserved : goal.loop-k-preserved
loop-k-preserved c =
    let was = c.loop-k.invariant in
    let task = c.args.self.now in
    let width = task.part.kept.width in
    let at = c.loop-k.k in
    let same : c.row_at-row.result.now ≡ task_row task at =
    c.row_at-row.ensures.row
    ∙ ap (λ (w : ℕ). row_at w c.as_slice.result.now at) was.wide
    ∙ ap (λ (s : List ℕ). row_at width s at) (c.as_slice.ensures.value ∙ ap (λ r. r.items) was.same_rows) in
    let here : IsAt c.add.new.self c.in_ok-place.place (task_row task at) =
    subst (IsAt c.add.new.self c.in_ok-place.place) same c.in_ok-place.ensures.there in
    record {
      ending = was.ending;
      wide = was.wide;
      same_rows = was.same_rows;
      places = search (arith, c.in_ok-push.ensures.items, was.places);
      grows = grows_both _ _ _ was.grows c.add.ensures.grows;
      found = λ k below. elim (cases_lt k at) [
        | inl early ↦ found_later c.loop-k.self _ c.in_ok-place.place k _ c.add.ensures.grows c.in_ok-push.ensures.items (was.found k early)
        | inr late ↦
            let last : k ≡ at = omega arith in
            let k_is : k ≡ length c.loop-k.self.places.items = last ∙ sym was.places in
            found_last _ c.loop-k.self.places.items c.in_ok-place.place k _ k_is c.in_ok-push.ensures.items
            (rw last here)
      ];
    }
