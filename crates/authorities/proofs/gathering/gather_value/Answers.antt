use Rattle.std.proofs.Common.{sym, ◌∙◌}
use Rattle.authorities.proofs.GatherLemmas.{gathers_same, covered_mark, marked_more}
use Rattle.authorities.proofs.gathering.gather_value.Goals as goal

pub returns-then-is_marked-clause-gathers : goal.returns-then-is_marked-clause-gathers
returns-then-is_marked-clause-gathers c =
    gathers_same c.args.store.now.values c.args.id c.args.state c.args.gathering.now.greatest.items
    (covered_mark c.args.store.now.values c.args.gathering.now.greatest.items c.args.gathering.now.values.items c.args.id
    c.requires.marked (rw c.as_slice.ensures.value at (sym c.is_marked.ensures ∙ c.if-is_marked.true))) c.requires.apart

pub returns-clause-marked : goal.returns-clause-marked
returns-clause-marked c =
    marked_more c.args.store.now.values c.args.gathering.now.greatest.items c.add_value.new.greatest.items
    c.args.gathering.now.values.items c.mark.new.marks.items c.args.id c.args.state c.requires.marked
    c.in_ok-add_value.ensures c.in_ok-mark.ensures
