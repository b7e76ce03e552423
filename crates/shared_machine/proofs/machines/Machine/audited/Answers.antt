-- The share at this place has counted the entries of its hart.
use Rattle.std.proofs.Common.{rules, ◌≡◌, ℕ, ◌<◌, List, length, sym, ap, subst, ◌∙◌}
use Rattle.std.specs.Prelude.{slice_index, slice_set}
use Rattle.cheri_model.specs.runs.Replay.{step_count}
use Rattle.shared_machine.specs.Shares.{ShareParts}
use Rattle.shared_machine.proofs.ShareLemmas.{audited_more, set_read}
use Rattle.shared_machine.proofs.machines.Machine.audited.Goals as goal

pub loop-place-preserved : goal.loop-place-preserved
loop-place-preserved g c =
    let trace = c.self.inside.watched.core.trace in
    let old = c.index_mut.result.now in
    let place = c.loop-place.place in
    let items = c.loop-place.shares.items in
    let inside : place < length items = search rules in
    let counted : old.amount ≡ step_count trace old.hart =
    c.audit.ensures.amount ∙ (ap (λ (b : List ℕ). slice_index b old.hart) c.loop-place.invariant.books ∙ c.self.invariant.0.counts old.hart c.audit.ensures.below) in
    let now = subst (λ (s : ShareParts). s.amount ≡ step_count trace s.hart) (sym c.audit.ensures.share) counted in
    let kept : slice_set items place c.audit.new.share ≡ c.args.shares.items = ap (λ (s : ShareParts). slice_set items place s) c.audit.ensures.share ∙ (set_read items place old c.index_mut.ensures.value ∙ c.loop-place.invariant.shares) in
    record {
      books = c.audit.ensures.books ∙ c.loop-place.invariant.books;
      shares = kept;
      counts = audited_more items trace place c.audit.new.share inside now c.loop-place.invariant.counts;
    }
