use Rattle.std.proofs.Common.{◌+◌, length}
use Rattle.sample_merges.proofs.SpanLemmas.{IsJoining}
use Rattle.sample_merges.proofs.spans.join_spans.Given as goal

-- the whole is joined of what both lists had before what is left of them
abbrev pub invariant-loop-whole : goal.invariant-loop-whole
invariant-loop-whole l = IsJoining l.one l.other l.whole.items l.left l.right

abbrev pub decreases-loop-whole : goal.decreases-loop-whole
decreases-loop-whole l = length l.left + length l.right
