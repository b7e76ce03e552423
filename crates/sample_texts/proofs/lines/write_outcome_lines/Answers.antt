use Rattle.std.proofs.Common.{◌≡◌, length, append_assoc}
use Rattle.sample_tallies.specs.Sums.{ends_in_order}
use Rattle.sample_texts.proofs.EndLemmas.{picked_long}
use Rattle.sample_texts.proofs.lines.write_outcome_lines.Goals as goal

pub returns-clause-written : goal.returns-clause-written
returns-clause-written c =
    let sum = c.args.tally.now.sum in
    let count : length c.in_ok-order.order.items ≡ length (ends_in_order sum) =
    picked_long sum.ends (ends_in_order sum) c.in_ok-order.order.items c.in_ok-order.ensures.sorted in
    let e = simp (c.in_ok-writeln.ensures.bytes, c.as_slice-numbers.ensures.value, count) at c.write_outcomes.ensures.written in
    simp append_assoc at e
