-- the ends so far are in their rows; the state is of the same size
use Rattle.std.proofs.Common.{◌≡◌, ◌*◌, length}
use Rattle.sample_tallies.specs.Sums.{ends_in_order}
use Rattle.sample_texts.specs.ShownRows.{AreNumbered}
use Rattle.sample_texts.proofs.SeeLemmas.{IsSoFar}
use Rattle.sample_texts.proofs.table.see_ends.Given as goal

abbrev pub invariant-loop-number : goal.invariant-loop-number
invariant-loop-number l = record {
  so_far : IsSoFar l.shown (ends_in_order l.tally.sum) l.number-index l.rows.items;
  numbered : AreNumbered l.codes l.rows.items;
  width : l.codes.width ≡ 5 * length l.shown;
  harts : length l.state.harts ≡ l.tally.harts;
  granules : length l.state.memory ≡ l.tally.granules;
}
