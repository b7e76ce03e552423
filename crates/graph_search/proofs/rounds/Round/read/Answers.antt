use Rattle.std.proofs.Common.{◌≡◌, ◌+◌, ◌*◌, ◌<◌, length, arith, ◌∙◌, rules, sym}
use Rattle.interner.proofs.RowLemmas.{row_ends, row_begins}
use Rattle.graph_search.proofs.RoundLemmas.{there_is, written_at, reads_more}
use Rattle.graph_search.proofs.rounds.Round.read.Goals as goal

pub unreachable-requires : goal.unreachable-requires
unreachable-requires c =
    let ending = c.loop-place.auto.place-end in
    let before = c.loop-place-test.true in
    let there = c.requires.there in
    there_is c.args.nodes.now.rows (c.args.first + c.loop-place.place) (omega arith)
    (c.read.ensures.none c.if-not-read.true)

pub loop-place-preserved : goal.loop-place-preserved
loop-place-preserved c =
    let was = c.loop-place.invariant in
    let before = c.loop-place-test.true in
    let few = c.requires.few in
    let width = c.width-width.result in
    let place = c.loop-place.place in
    let items = c.loop-place.self.nodes.items in
    let row = c.read.new.row in
    let within : place < 32768 = omega arith in
    let same_width : width ≡ c.args.nodes.now.width = search rules in
    let total : length items ≡ 32768 * width = search rules in
    let room = row_ends place 32768 width within in
    let begins = row_begins place width in
    let long : c.loop-place.self.nodes.len ≡ length items = search rules in
    let wide : length row ≡ width = search rules in
    let written = written_at c.row_start-start.result width place c.loop-place.self.nodes.len items
    c.as_mut_slice.result.now row c.row_start-start.ensures.start c.as_mut_slice.ensures.value long (omega arith) wide in
    record {
      first = was.first;
      count = was.count;
      no_steps = was.no_steps;
      same_nodes = written.1 ∙ was.same_nodes;
      same_rows = was.same_rows;
      read = rw (sym same_width) (reads_more width c.args.nodes.now.rows c.args.first place items row _ _ (omega arith)
          wide written.0 (rw same_width was.read) (c.read.ensures.row c.if-not-read.false));
    }
