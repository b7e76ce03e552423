use Rattle.sample_merges.proofs.SpanLemmas.{joining_begins, joining_ends, joining_next, joining_swapped, next_later, next_some}
use Rattle.sample_merges.proofs.spans.join_spans.Goals as goal

pub loop-whole-init : goal.loop-whole-init
loop-whole-init c = rw c.new-whole.ensures.items (joining_begins c.args.one.now c.args.other.now c.requires.one c.requires.other)

pub returns-in-Neither-clause-joined : goal.returns-in-Neither-clause-joined
returns-in-Neither-clause-joined c =
    joining_ends c.args.one.now c.args.other.now c.loop-whole.whole.items c.loop-whole.left.now c.loop-whole.right.now
    c.loop-whole.invariant c.in-Neither.ensures.0 c.in-Neither.ensures.1

pub push_span-requires-clause-later : goal.push_span-requires-clause-later
push_span-requires-clause-later c =
    next_later c.args.one.now c.args.other.now c.loop-whole.whole.items c.loop-whole.left.now c.loop-whole.right.now
    c.in-One.rest.now c.in-One.span c.loop-whole.invariant c.in-One.ensures.0

pub push_span-requires-clause-some : goal.push_span-requires-clause-some
push_span-requires-clause-some c =
    next_some c.args.one.now c.args.other.now c.loop-whole.whole.items c.loop-whole.left.now c.loop-whole.right.now
    c.in-One.rest.now c.in-One.span c.loop-whole.invariant c.in-One.ensures.0

pub loop-whole-preserved-in-One : goal.loop-whole-preserved-in-One
loop-whole-preserved-in-One c =
    joining_next c.args.one.now c.args.other.now c.loop-whole.whole.items c.loop-whole.left.now c.loop-whole.right.now
    c.in-One.rest.now c.push_span.new.spans.items c.in-One.span c.loop-whole.invariant c.in-One.ensures.0 c.in-One.ensures.1
    c.in_ok-push_span-in-One.ensures

pub push_span-requires-in-Other-clause-later : goal.push_span-requires-in-Other-clause-later
push_span-requires-in-Other-clause-later c =
    next_later c.args.other.now c.args.one.now c.loop-whole.whole.items c.loop-whole.right.now c.loop-whole.left.now
    c.in-Other.rest.now c.in-Other.span
    (joining_swapped c.args.one.now c.args.other.now c.loop-whole.whole.items c.loop-whole.left.now c.loop-whole.right.now c.loop-whole.invariant)
    c.in-Other.ensures.0

pub push_span-requires-in-Other-clause-some : goal.push_span-requires-in-Other-clause-some
push_span-requires-in-Other-clause-some c =
    next_some c.args.other.now c.args.one.now c.loop-whole.whole.items c.loop-whole.right.now c.loop-whole.left.now
    c.in-Other.rest.now c.in-Other.span
    (joining_swapped c.args.one.now c.args.other.now c.loop-whole.whole.items c.loop-whole.left.now c.loop-whole.right.now c.loop-whole.invariant)
    c.in-Other.ensures.0

pub loop-whole-preserved : goal.loop-whole-preserved
loop-whole-preserved c =
    joining_swapped c.args.other.now c.args.one.now c.push_span-in-Other.new.spans.items c.in-Other.rest.now c.loop-whole.left.now
    (joining_next c.args.other.now c.args.one.now c.loop-whole.whole.items c.loop-whole.right.now c.loop-whole.left.now
    c.in-Other.rest.now c.push_span-in-Other.new.spans.items c.in-Other.span
    (joining_swapped c.args.one.now c.args.other.now c.loop-whole.whole.items c.loop-whole.left.now c.loop-whole.right.now c.loop-whole.invariant)
    c.in-Other.ensures.0 c.in-Other.ensures.1 c.in_ok-push_span-in-Other.ensures)
