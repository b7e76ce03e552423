use Rattle.std.proofs.Common.{All, List, sym, subst, ap, ◌∙◌}
use Rattle.std.specs.Prelude.{Option}
use Rattle.std.proofs.lemmas.List.{with_items_is}
use Rattle.sample_tallies.specs.declared.seen.Seen.{Seen}
use Rattle.sample_tallies.specs.Within.{IsWithin}
use Rattle.sample_checks.specs.Checks.{is_drawn, either_each}
use Rattle.sample_checks.proofs.WithinLemmas.{sum_within}
use Rattle.sample_checks.proofs.DecidedLemmas.{each_within}
use Rattle.sample_checks.proofs.checked.Checked.add.Goals as goal

pub invariant_of-result : goal.invariant_of-result
invariant_of-result c =
    let mine = c.self.inside in
    let other = c.other.inside in
    let items = with_items_is mine.decided c.see_each.new.decided (c.see_each.auto.decided ∙ c.deref_mut.ensures.len) in
    let sum = c.in_ok-see_each.ensures.seen
    ∙ ap (λ (d : List (Option Seen)). either_each d c.as_slice.result.now) c.deref_mut.ensures.value
    ∙ ap (either_each mine.decided.items) c.as_slice.ensures.value in
    record {
      sum = subst IsWithin (sym c.in_ok-add.ensures.sum)
          (sum_within mine.tally.sum other.tally.sum c.self.invariant.sum c.other.invariant.sum);
      decided = subst (λ (d : List (Option Seen)). All is_drawn d) (sym (items ∙ sum))
          (each_within mine.decided.items other.decided.items c.self.invariant.decided c.other.invariant.decided);
    }
