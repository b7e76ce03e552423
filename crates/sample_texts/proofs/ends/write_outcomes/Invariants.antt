-- the outcomes so far are written; the state is of the same size
use Rattle.std.proofs.Common.{◌≡◌, ◌++◌, drop, length, string_bytes}
use Rattle.report_lines.specs.Texts.{numbered}
use Rattle.sample_tallies.specs.Sums.{ends_in_order}
use Rattle.sample_texts.specs.SampleJson.{outcome_part}
use Rattle.sample_texts.proofs.ends.write_outcomes.Given as goal

abbrev pub invariant-loop-place : goal.invariant-loop-place
invariant-loop-place l = record {
  written : string_bytes l.out ++ numbered (outcome_part l.format l.fn.orders) l.place (drop l.place (ends_in_order l.tally.sum))
      ≡ string_bytes l.initial.out ++ numbered (outcome_part l.format l.fn.orders) 0 (ends_in_order l.tally.sum);
  same : l.orders ≡ l.fn.orders;
  harts : length l.state.harts ≡ l.tally.harts;
  granules : length l.state.memory ≡ l.tally.granules;
}
