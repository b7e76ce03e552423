use Rattle.std.proofs.Common.{List, sym, ◌∙◌, ap}
use Rattle.std.specs.Prelude.{Bool, slice_index_or, false}
use Rattle.authorities.proofs.GatherLemmas.{row_part, numbers_are, gathering_again, gathering_more}
use Rattle.authorities.proofs.gathering.gather_state.Goals as goal

pub part-part-requires : goal.part-part-requires
part-part-requires c =
    (row_part c.args.graph.now c.args.found.now.nodes c.args.who c.args.state c.read-row.result.now c.read-row.ensures
    c.requires.meant c.requires.place c.args.gathering.now.greatest.items c.args.gathering.now.values.items
    c.args.gathering.now.parts.items c.requires.before).place

pub numbers-ids-requires : goal.numbers-ids-requires
numbers-ids-requires c =
    row_part c.args.graph.now c.args.found.now.nodes c.args.who c.args.state c.read-row.result.now c.read-row.ensures
    c.requires.meant c.requires.place c.args.gathering.now.greatest.items c.args.gathering.now.values.items
    c.args.gathering.now.parts.items c.requires.before

pub returns-then-is_marked : goal.returns-then-is_marked
returns-then-is_marked c = record {
  after = gathering_again c.args.graph.now c.args.found.now.nodes c.args.who c.args.state c.read-row.result.now
      c.read-row.ensures c.requires.meant c.requires.place c.args.gathering.now.greatest.items
      c.args.gathering.now.values.items c.args.gathering.now.parts.items c.requires.before
      (rw (c.as_slice.ensures.value, c.part-part.ensures) at (sym c.is_marked.ensures ∙ c.if-is_marked.true));
}

pub gather_values-requires-clause-there : goal.gather_values-requires-clause-there
gather_values-requires-clause-there c =
    rw c.store.ensures ((numbers_are c.args.graph.now c.args.found.now.nodes c.args.who c.args.state c.read-row.result.now
    c.read-row.ensures c.requires.meant c.requires.place c.args.gathering.now.greatest.items
    c.args.gathering.now.values.items c.args.gathering.now.parts.items c.requires.before c.numbers-ids.result.now
    c.numbers-ids.ensures).known)

pub returns : goal.returns
returns c = record {
  after = gathering_more c.args.graph.now c.args.found.now.nodes c.args.who c.args.state c.read-row.result.now
      c.read-row.ensures c.requires.meant c.requires.place c.args.gathering.now.greatest.items
      c.args.gathering.now.values.items c.args.gathering.now.parts.items c.requires.before c.numbers-ids.result.now
      c.gather_values.new.gathering.greatest.items c.gather_values.new.gathering.values.items c.mark.new.marks.items
      c.numbers-ids.ensures (rw c.store.ensures at c.in_ok-gather_values.ensures.gathers)
      (rw c.store.ensures at c.in_ok-gather_values.ensures.marked)
      (λ k other. c.in_ok-mark.ensures k (λ same. other (same ∙ c.part-part.ensures))
      ∙ ap (λ (l : List Bool). slice_index_or l k false) c.gather_values.ensures.same_parts);
}
