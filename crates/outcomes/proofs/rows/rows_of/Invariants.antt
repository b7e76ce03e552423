-- the outcomes so far are counted
use Rattle.std.proofs.Common.{◌≡◌, take}
use Rattle.interner.specs.Rows.{IsDistinct}
use Rattle.outcomes.specs.Items.{codes_of}
use Rattle.outcomes.specs.Rows.{IsTable, values_at}
use Rattle.outcomes.proofs.rows.rows_of.Given as goal

abbrev pub invariant-loop-outcome : goal.invariant-loop-outcome
invariant-loop-outcome g l = record {
  width : l.codes.width ≡ l.width;
  distinct : IsDistinct l.codes;
  table : IsTable (λ n. codes_of (values_at (g.S.NumberedStates.at l.states) l.shown n)) (take l.outcome-index l.outcomes)
      l.codes.rows l.rows.items;
}
