use Rattle.std.proofs.Common.{◌≡◌, ◌∙◌, sym, rules}
use Rattle.std.proofs.lemmas.Slice.Eq.{slice_eq-Decides}
use Rattle.std.specs.Bool.{Decides}
use Rattle.schedules.specs.contracts.ranges.SweepRangePartialEq.TheImpl.{eq-value}
use Rattle.schedules.specs.declared.ranges.SweepRange.{SweepRange}
use Rattle.sample_merges.proofs.questions.have_same_sweeps.Goals as goal

-- ranges are equal where their ends are
ranges_equal : (a b : SweepRange) → Decides (eq-value.it a b) (a ≡ b)
ranges_equal a b = search rules

pub returns : goal.returns
returns c =
    let same = slice_eq-Decides ranges_equal c.sweeps.result.now c.sweeps-2.result.now c.eq.result c.eq.ensures in (
      λ t. sym c.sweeps-2.ensures ∙ (sym (same.0 (search rules)) ∙ c.sweeps.ensures),
      λ e. search rules,
    )
