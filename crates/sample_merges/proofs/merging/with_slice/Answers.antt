use Rattle.std.proofs.Common.{rules}
use Rattle.sample_merges.specs.Merged.{AskTheSame}
use Rattle.sample_merges.proofs.MergeLemmas.{is_added}
use Rattle.sample_merges.proofs.merging.with_slice.Goals as goal

pub returns-in_ok-plus-in-Some-clause-added : goal.returns-in_ok-plus-in-Some-clause-added
returns-in_ok-plus-in-Some-clause-added c =
    let same : AskTheSame c.args.whole c.args.slice.now = c.ask_the_same.ensures.0 (search rules) in
    is_added c.args.whole c.args.slice.now c.in_ok-plus-in-Some.field-0 c.in-Some.numbers.items same
    (rw (c.in-Some.is, c.numbers.ensures, c.numbers-2.ensures) at c.in_ok-join_spans.ensures.joined)
    c.in_ok-plus-in-Some.ensures.sum
